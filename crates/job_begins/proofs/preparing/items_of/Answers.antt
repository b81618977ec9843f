use Rattle.std.proofs.Common.{Result, Ok, Err, IfOk, arith}
use Rattle.blob_meta.specs.Items.{IsItemsOf}
use Rattle.md_chain.specs.Packing.{ArePlannable, AreFew}
use Rattle.md_chain.proofs.OfMeta.{few, plannable}
use Rattle.job_begins.proofs.preparing.items_of.Goals as goal

so : {T E : Type 0} (P Q : T → Type 0) (r : Result T E) → ((x : T) → P x → Q x) → IfOk r P → IfOk r Q
so P Q (Ok x) by is = by x is
so P Q (Err e) by is = tt

pub returns-clause-plannable : goal.returns-clause-plannable
returns-clause-plannable c = so (IsItemsOf c.args.new.now) ArePlannable c.to_items.result
    (λ items is. plannable c.args.new.now items is c.requires.xattrs c.requires.internal) c.to_items.ensures

pub returns-clause-few : goal.returns-clause-few
returns-clause-few c =
    let m = c.args.new.now in
    let xattrs = c.len.ensures in
    let internal = c.len-2.ensures in
    let map = c.len-3.ensures in
    let attributes = c.saturating_add-attributes.ensures in
    let all = c.saturating_add.ensures in
    let low = c.if-saturating_add-ge-MOST_PARTS.false in
    so (IsItemsOf m) AreFew c.to_items.result
    (λ items is. few m items is (omega (arith, xattrs, internal, map, attributes, all, low))) c.to_items.ensures
