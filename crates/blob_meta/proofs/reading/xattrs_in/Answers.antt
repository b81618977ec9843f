use Rattle.std.proofs.Common.{get_or, arith, sym, ap, ◌∙◌}
use Rattle.blob_meta.specs.Says.{with_found, xattr_in}
use Rattle.blob_meta.proofs.Firsts.{found_next}
use Rattle.blob_meta.proofs.reading.xattrs_in.Goals as goal

pub loop-item-preserved : goal.loop-item-preserved
loop-item-preserved c =
    let items = c.args.items.now in
    let i = c.loop-item.item-index in
    let item = c.item-item.result in
    c.in_ok-add_first.ensures ∙ ap (with_found c.loop-item.xattrs) (c.xattr_of.ensures ∙ ap xattr_in c.item-item.is)
    ∙ ap (λ l. with_found l (xattr_in (get_or items i item))) c.loop-item.invariant
    ∙ sym (found_next xattr_in items i item (omega arith))
