use Rattle.std.proofs.Common.{Some, sym, ap, ◌∙◌}
use Rattle.std.specs.FinMap as map
use Rattle.blob_meta.proofs.EntriesInOrder.{find-at, find-gap}
use Rattle.blob_meta.proofs.MapOfEntries.{get-entries}
use Rattle.blob_meta.proofs.head_map.HeadMap.get.Goals as goal

pub returns-in-Ok : goal.returns-in-Ok
returns-in-Ok g c =
    let es = c.self.inside.entries.items in
    let at = rw c.deref.ensures.value at c.in-Ok.ensures in
    let read = c.index.result.now in
    ap (λ e. Some e.1) c.index.ensures
    ∙ sym (get-entries es c.args.head c.self.invariant.in_order
    ∙ find-at es c.args.head c.in-Ok.place read c.self.invariant.in_order at.within at.place)
    ∙ ap (λ m. map.get m c.args.head) c.self.view_is

pub returns-in-Err : goal.returns-in-Err
returns-in-Err g c =
    let es = c.self.inside.entries.items in
    let gap = rw c.deref.ensures.value at c.in-Err.ensures in
    sym (get-entries es c.args.head c.self.invariant.in_order ∙ find-gap es c.args.head c.in-Err.field-0 gap.place)
    ∙ ap (λ m. map.get m c.args.head) c.self.view_is
