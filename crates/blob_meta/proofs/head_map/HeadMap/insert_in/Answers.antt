use Rattle.std.proofs.Common.{length, not, ap, ◌∙◌, arith}
use Rattle.std.proofs.Common.{◌≡◌, true, Result, Ok, Err}
use Rattle.std.specs.Prelude.{is_ok, OnOk}
use Rattle.std.specs.Ordering.{nat_cmp}
use Rattle.std.specs.FinMap as map
use Rattle.std.proofs.lemmas.Bool.{both_ways}
use Rattle.blob_meta.proofs.MapOfEntries.{map_of, len-entries, entries-put}
use Rattle.blob_meta.proofs.NameSums.{as_many}
use Rattle.blob_meta.proofs.head_map.HeadMap.insert_in.Goals as goal

-- the room has no entries, and memory for more than the map's
pub move_all-requires : goal.move_all-requires
move_all-requires g c =
    let few = rw (← c.room.view_is, ← c.self.view_is) at c.requires in
    let len = len-entries c.self.inside.entries.items c.self.invariant.in_order in
    let none = c.room.inside.entries.ok.0 ∙ ap length c.room.invariant.entries_none in
    omega (arith, c.self.inside.entries.ok.0)

-- nor has it checksums, and as much memory for those
pub move_all-requires-2 : goal.move_all-requires-2
move_all-requires-2 g c =
    let few = rw (← c.room.view_is, ← c.self.view_is) at c.requires in
    let es = c.self.inside.entries.items in
    let len = len-entries es c.self.invariant.in_order in
    let sums = as_many g.V.HasName.name_of es c.self.inside.sums.items c.self.invariant.summed in
    let none = c.room.inside.sums.ok.0 ∙ ap length c.room.invariant.sums_none in
    omega (arith, c.self.inside.sums.ok.0, c.room.invariant.same)

-- a new entry has memory, and so has its checksum
pub unreachable-requires : goal.unreachable-requires
unreachable-requires g c =
    let few = rw (← c.room.view_is, ← c.self.view_is) at c.requires in
    let es = c.self.inside.entries.items in
    let len = len-entries es c.self.invariant.in_order in
    let sums = as_many g.V.HasName.name_of es c.self.inside.sums.items c.self.invariant.summed in
    let entries_moved = ap length (rw c.room.invariant.entries_none at c.move_all.ensures.items) in
    let sums_moved = ap length (rw c.room.invariant.sums_none at c.move_all-2.ensures.items) in
    both_ways (is_ok c.insert_entry.result) (c.is_err.ensures.negation ∙ ap not c.if-is_err.true)
    (c.insert_entry.ensures.succeeds
    (omega (arith, c.move_all.new.into.ok.0, c.move_all.ensures.memory))
    (omega (arith, c.move_all-2.new.into.ok.0, c.move_all-2.ensures.memory, c.room.invariant.same)))

on_ok : {P T E : Type 0} (r : Result T E) → is_ok r ≡ true → OnOk r P → P
on_ok (Ok x) ok p = p
on_ok (Err e) ok p = absurd (cc ok)

pub returns : goal.returns
returns g c =
    let es = c.self.inside.entries.items in
    let put = c.insert_entry in
    let fits : is_ok put.result ≡ true = c.is_err.ensures.negation ∙ ap not c.if-is_err.false in
    let all : c.move_all.new.into.items ≡ es = rw c.room.invariant.entries_none at c.move_all.ensures.items in
    ap map_of (on_ok put.result fits put.ensures.ok ∙ ap (map.put nat_cmp c.args.head c.args.value) all)
    ∙ entries-put es c.args.head c.args.value c.self.invariant.in_order
    ∙ ap (λ m. map.insert m c.args.head c.args.value) c.self.view_is
