-- What the metadata thread's own row has to end doesn't grow, but where a fill's command is logged.
use Rattle.std.proofs.Common.{◌≡◌, ◌≢◌, ◌⊎◌, inl, inr, ℕ, ◌+◌, ◌<◌, ◌≤◌, Option, Some, None, Bool, true, false, sym}
use Rattle.std.proofs.Common.{◌∙◌, ap, subst, arith}
use Rattle.std.proofs.lemmas.Bool.Decides.{eqb_tells}
use Rattle.volume_model.specs.declared.reply.Msg.{Msg}
use Rattle.run_work.specs.RunState.{RowInRun, RowsInRun, RunSizes, RunState}
use Rattle.run_work.specs.Reading.{is_in_use, with_row_in_run}
use Rattle.run_work.specs.Work.{base_work, own_work, to_end, try_work, work}
use Rattle.run_work.proofs.Sums.{row_there}

module _ (z : RunSizes) where
  -- a move that leaves the fill and the row
  pub same_own : (w v : RunState) → v.fill ≡ w.fill → v.rows 16 ≡ w.rows 16 → own_work z v ≤ own_work z w
  same_own w v fill row =
      let is : own_work z v ≡ own_work z w =
      ap (λ f. to_end z f (is_in_use (v.rows 16).stage)) fill
      ∙ ap (λ (r : RowInRun). to_end z w.fill (is_in_use r.stage)) row in
      omega (arith, is)

  to_end_most : (f : Option Msg) (used : Bool) → to_end z f used ≤ to_end z f true
  to_end_most None true = omega arith
  to_end_most None false = omega arith
  to_end_most (Some x) used = omega arith

  -- one whose row was in use
  used_own : (w v : RunState) → v.fill ≡ w.fill → is_in_use (w.rows 16).stage ≡ true → own_work z v ≤ own_work z w
  used_own w v fill used =
      let most = to_end_most w.fill (is_in_use (v.rows 16).stage) in
      let a = ap (λ f. to_end z f (is_in_use (v.rows 16).stage)) fill in
      let b = ap (λ t. to_end z w.fill t) used in
      omega (arith, most, a, b)

  -- one behind which a fill goes on
  pub fill_own : (w v : RunState) (m : Msg) → v.fill ≡ Some m → own_work z v ≤ own_work z w
  fill_own w v m fill =
      let none = ap (λ f. to_end z f (is_in_use (v.rows 16).stage)) fill in omega (arith, none)

  -- one behind which the row isn't in use
  pub unused_own : (w v : RunState) → is_in_use (v.rows 16).stage ≡ false → own_work z v ≤ own_work z w
  unused_own w v unused = go v.fill (is_in_use (v.rows 16).stage) unused
    where
      go : (f : Option Msg) (t : Bool) → t ≡ false → to_end z f t ≤ own_work z w
      go None false is = omega arith
      go (Some x) false is = omega arith
      go f true is = absurd (cc is)

  -- any move at all
  pub own_most : (w : RunState) → own_work z w ≤ try_work z + 1
  own_most w = go w.fill (is_in_use (w.rows 16).stage)
    where
      go : (f : Option Msg) (t : Bool) → to_end z f t ≤ try_work z + 1
      go None true = omega arith
      go None false = omega arith
      go (Some x) t = omega arith

  -- a row changes: another one, or the own one, which was in use
  pub row_own : (w v : RunState) (ch : ℕ) (row : RowInRun) → v.rows ≡ with_row_in_run w.rows ch row → v.fill ≡ w.fill
      → (ch ≢ 16) ⊎ (is_in_use (w.rows ch).stage ≡ true) → own_work z v ≤ own_work z w
  row_own w v ch row rows_are fill which = elim (eqb_tells ch 16) [
    | inl e ↦ elim which [
      | inl ne ↦ absurd (ne e.1)
      | inr used ↦ used_own w v fill (subst (λ k. is_in_use (w.rows k).stage ≡ true) e.1 used)
    ]
    | inr e ↦
        same_own w v fill
        (ap (λ (r : RowsInRun). r 16) rows_are ∙ row_there w.rows ch row 16 (λ is. e.1 (sym is)))
  ]

  -- the whole work falls with the rest of it
  pub with_own : (w v : RunState) → base_work z v < base_work z w → own_work z v ≤ own_work z w → work z v < work z w
  with_own w v a b = omega (arith, a, b)
