use Rattle.std.proofs.Common.{Some, ap, sym, ◌∙◌}
use Rattle.std.specs.FinMap as map
use Rattle.blob_meta.proofs.EntriesInOrder.{find-at, find-gap}
use Rattle.blob_meta.proofs.MapOfEntries.{map_of, get-entries, entries-remove, remove-absent}
use Rattle.blob_meta.proofs.NameSums.{kept-remove}
use Rattle.blob_meta.proofs.head_map.HeadMap.remove.Goals as goal

pub invariant_of-self : goal.invariant_of-self
invariant_of-self g c =
    let at = rw c.deref.ensures.value at c.in-Ok.ensures in
    rw c.remove.ensures.items
    (kept-remove g.V.HasName.name_of c.self.inside.entries.items _ c.self.inside.sums.items c.args.head c.in-Ok.place
    c.self.invariant at.within at.place c.remove-in-Ok.ensures.items)

pub returns-in-Ok-clause-value : goal.returns-in-Ok-clause-value
returns-in-Ok-clause-value g c =
    let es = c.self.inside.entries.items in
    let at = rw c.deref.ensures.value at c.in-Ok.ensures in
    ap (λ e. Some e.1) c.remove-in-Ok.ensures.value
    ∙ sym (get-entries es c.args.head c.self.invariant.in_order
    ∙ find-at es c.args.head c.in-Ok.place c.remove-in-Ok.result c.self.invariant.in_order at.within at.place)
    ∙ ap (λ m. map.get m c.args.head) c.self.view_is

pub returns-in-Ok-clause-removed : goal.returns-in-Ok-clause-removed
returns-in-Ok-clause-removed g c =
    let at = rw c.deref.ensures.value at c.in-Ok.ensures in
    ap map_of c.remove-in-Ok.ensures.items
    ∙ entries-remove c.self.inside.entries.items c.args.head c.in-Ok.place c.self.invariant.in_order at.within at.place
    ∙ ap (λ m. map.remove m c.args.head) c.self.view_is

pub returns-in-Err-clause-value : goal.returns-in-Err-clause-value
returns-in-Err-clause-value g c =
    let es = c.self.inside.entries.items in
    let gap = rw c.deref.ensures.value at c.in-Err.ensures in
    sym (get-entries es c.args.head c.self.invariant.in_order ∙ find-gap es c.args.head c.in-Err.field-0 gap.place)
    ∙ ap (λ m. map.get m c.args.head) c.self.view_is

pub returns-in-Err-clause-removed : goal.returns-in-Err-clause-removed
returns-in-Err-clause-removed g c =
    remove-absent c.args.self.now c.args.head (sym (returns-in-Err-clause-value g c))
