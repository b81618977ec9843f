use Rattle.std.proofs.Common.{◌≡◌, ◌+◌, ap, ◌∙◌, refl, arith}
use Rattle.unclean_load.proofs.MaskRead.{one_read}
use Rattle.unclean_load.proofs.mask_pages.read_mask.Goals as goal

pub loop-index-preserved : goal.loop-index-preserved
loop-index-preserved g c =
    let d = g.D.PageDisk in
    let l = c.loop-index in
    let at : c.from.result + c.from-in-loop-index.result ≡ c.args.start + l.index =
    let a = c.from.ensures in let b = c.from-in-loop-index.ensures in omega (arith, a, b) in
    one_read d c.args.disk.now c.args.start c.args.kind c.args.len l.disk c.page_on.new.disk l.index l.reader
    l.invariant c.in-Some.page (λ told. c.in-Some.ensures.content told ∙ ap (d.now l.disk) at) c.in-Some.ensures.same
    (c.in-Some.ensures.quiet refl) c.in-Some.ensures.reads c.feed.new.self c.in-Ok.ensures.fault
    c.in-Ok.ensures.read c.in-Ok.ensures.fed c.in-Ok.ensures.len
