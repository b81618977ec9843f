use Rattle.std.proofs.Common.{◌≡◌, ◌+◌, ◌≤◌, Bool, true, false, List, cond, not, ap, ◌∙◌, arith, refl}
use Rattle.std.specs.Prelude.{is_some, is_ok}
use Rattle.std.specs.FinMap as map
use Rattle.std.specs.List.{insert}
use Rattle.std.proofs.lemmas.Bool.{both_ways}
use Rattle.std.proofs.lemmas.List.Edits.{length-insert}
use Rattle.std.proofs.lemmas.List.Elements.{All-weaker}
use Rattle.io_freeze.specs.declared.rows.Row.{Row}
use Rattle.io_freeze.specs.Rows.{IsGap, generations_in}
use Rattle.io_freeze.proofs.Found.{len-generations_in}
use Rattle.io_freeze.proofs.Edits.{insert-All, insert-Rises}
use Rattle.io_freeze.proofs.RowViews.{seen, read_held, seen-insert, insert-thawed}
use Rattle.io_freeze.proofs.guards.Guards.add.Goals as goal

-- the head has a row: it would be held
pub unreachable-requires : goal.unreachable-requires
unreachable-requires c =
    both_ways (is_some (map.get (generations_in c.self.inside.rows.items) c.args.head))
    (ap is_some (rw (← c.self.view_is) at c.requires.absent))
    (read_held c.self.inside.rows.items c.args.head c.in_default.field-0 c.self.invariant.rises
    (rw c.deref.ensures.value at c.in_default.ensures))

-- there is memory for the row
pub unreachable-requires-then-is_err : goal.unreachable-requires-then-is_err
unreachable-requires-then-is_err c =
    let few = rw (← c.self.view_is) at c.requires.room in
    let len = len-generations_in c.self.inside.rows.items c.self.invariant.rises in
    let ok = c.insert.ensures.succeeds (omega (arith, c.self.invariant.reserved)) in
    both_ways (is_ok c.insert.result) (c.is_err.ensures.negation ∙ ap not c.if-is_err.true) ok

new_row : goal.Else-is_err → Row
new_row c = record { head = c.args.head; generation = c.self.inside.drawn + 1; frozen = false }

gap : (c : goal.Else-is_err) → IsGap c.self.inside.rows.items c.args.head c.in-Err.place
gap c = rw c.deref.ensures.value at c.in-Err.ensures

new_items : (c : goal.Else-is_err)
    → c.insert.new.self.items ≡ insert c.self.inside.rows.items c.in-Err.place (new_row c)
unfolding new_row
new_items c =
    let rows = c.self.inside.rows.items in
    let ok : is_ok c.insert.result ≡ true = c.is_err.ensures.negation ∙ ap not c.if-is_err.false in
    c.insert.ensures.items ∙ ap (λ (b : Bool). cond b (insert rows c.in-Err.place (new_row c)) rows) ok

pub invariant_of-self : goal.invariant_of-self
unfolding new_row
invariant_of-self c =
    let rows = c.self.inside.rows.items in
    let drawn = c.self.inside.drawn in
    let few = rw (← c.self.view_is) at c.requires.room in
    let len = len-generations_in rows c.self.invariant.rises in
    let long = length-insert rows c.in-Err.place (new_row c) (gap c).within in
    rw (new_items c) record {
      rises = insert-Rises rows c.in-Err.place (new_row c) (gap c) c.self.invariant.rises;
      numbered =
          insert-All (λ r. r.generation ≤ drawn + 1) rows c.in-Err.place (new_row c)
          (All-weaker (λ r. r.generation ≤ drawn) (λ r. r.generation ≤ drawn + 1)
          (λ r le. omega arith) rows c.self.invariant.numbered)
          (omega arith);
      within = omega arith;
      reserved = omega (arith, c.self.invariant.reserved, c.insert.ensures.capacity);
    }

pub returns-clause-added : goal.returns-clause-added
unfolding new_row
returns-clause-added c =
    let drawn = c.self.inside.drawn in
    let room = c.self.inside.room in
    rw (← c.self.view_is)
    (ap (λ (rows : List Row). seen rows (drawn + 1) room) (new_items c)
    ∙ seen-insert c.self.inside.rows.items (new_row c) c.in-Err.place c.self.invariant.rises
    (gap c) refl drawn room refl)

pub returns-clause-not_frozen : goal.returns-clause-not_frozen
unfolding new_row
returns-clause-not_frozen c =
    rw (new_items c)
    (insert-thawed c.self.inside.rows.items (new_row c) c.in-Err.place c.self.invariant.rises (gap c) refl)
