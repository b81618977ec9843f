use Rattle.std.proofs.Common.{◌∙◌, ℕ, ap, set, refl}
use Rattle.std.proofs.lemmas.Result.{on_ok_weaker, on_err_weaker}
use Rattle.blob_meta.proofs.EntriesInOrder.{put-at, put-gap, find-gap}
use Rattle.blob_meta.proofs.NameSums.{kept-set, kept-added}
use Rattle.blob_meta.proofs.entries.insert_entry.Goals as goal

-- the value of the head's entry is another
pub returns-in-Ok-clause-ok : goal.returns-in-Ok-clause-ok
returns-in-Ok-clause-ok g c =
    let es = c.args.entries.now.items in
    let old = c.index_mut.result.now in
    let at = rw c.deref.ensures.value at c.in-Ok.ensures in
    ap (λ (e : ℕ × g.row.V.Denot). set es c.in-Ok.place (e.0, c.args.value)) c.index_mut.ensures.value
    ∙ put-at es c.args.head c.in-Ok.place old c.args.value c.requires.in_order at.within at.place

pub returns-in-Ok-clause-kept : goal.returns-in-Ok-clause-kept
returns-in-Ok-clause-kept g c =
    rw (c.sum-sum.ensures, c.name.ensures)
    (kept-set g.V.HasName.name_of c.args.entries.now.items _ c.args.sums.now.items c.args.head c.in-Ok.place
    c.index_mut.result.now c.args.value c.requires refl (returns-in-Ok-clause-ok g c))

-- a new entry is put into the gap
pub returns-in-Err-clause-ok : goal.returns-in-Err-clause-ok
returns-in-Err-clause-ok g c =
    let gap = rw c.deref.ensures.value at c.in-Err.ensures in
    on_ok_weaker c.add_entry.result
    (λ is. is ∙ put-gap c.args.entries.now.items c.args.head c.in-Err.place c.args.value gap.within gap.place)
    c.add_entry.ensures.entries

pub returns-in-Err-clause-kept : goal.returns-in-Err-clause-kept
returns-in-Err-clause-kept g c =
    let gap = rw c.deref.ensures.value at c.in-Err.ensures in
    let add = c.add_entry in
    kept-added g.V.HasName.name_of c.args.entries.now.items _ c.args.sums.now.items _ c.args.head c.in-Err.place
    c.args.value add.result c.requires gap.within gap.place add.ensures.entries add.ensures.sums
    add.ensures.entries_stay add.ensures.sums_stay

-- there is no memory for a new one
pub returns-in-Err-clause-absent : goal.returns-in-Err-clause-absent
returns-in-Err-clause-absent g c =
    let gap = rw c.deref.ensures.value at c.in-Err.ensures in
    on_err_weaker c.add_entry.result
    (λ _. find-gap c.args.entries.now.items c.args.head c.in-Err.place gap.place) c.add_entry.ensures.entries_stay
