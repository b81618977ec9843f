-- A message of a command that was served while the fill's row wasn't used ended its fill.
use Rattle.std.proofs.Common.{◌≡◌, ℕ, Bool, None, Some, refl, sym, ap, ◌∙◌}
use Rattle.store_model.specs.Filling.{unused_row}
use Rattle.store_model.specs.Rows.{fill_row, OpenClaim, Row}
use Rattle.run_moves.specs.DriverSteps as turn
use Rattle.run_moves.specs.DriverSteps.{ServingTurn}
use Rattle.run_moves.specs.FillTurns as fill
use Rattle.run_moves.specs.FillTurns.{FillEnd}
use Rattle.store_model.specs.StoreState.{StoreState}

module _ (told : Bool) (p q : StoreState) (channel : ℕ) (unclaimed : (p.rows channel).claim ≡ None)
    (unused : p.rows fill_row ≡ unused_row) where
  -- a row with a claim isn't the channel's
  claims_none : (row : ℕ) (now : Row) (claim : OpenClaim) → p.rows row ≡ now → now.claim ≡ Some claim → row ≡ channel
      → ⊥
  claims_none row now claim is some same =
      let bad = sym some ∙ ap (λ (r : Row). r.claim) (sym is) ∙ ap (λ k. (p.rows k).claim) same ∙ unclaimed in cc bad

  pub served_ends : ServingTurn told p q channel → FillEnd told p q channel
  served_ends (turn.answers t is) = fill.answers t is unused
  served_ends (turn.refuses t is) = fill.refuses t is unused
  served_ends (turn.begins t is) = fill.begins t is unused
  served_ends (turn.halts serial t at is) = fill.halts serial t at is unused
  served_ends (turn.loses_insert t is) = absurd (claims_none t.posted.row _ t.posted.claim t.posted.is refl is)
  served_ends (turn.begins_insert t is) = absurd (claims_none t.posted.row _ t.posted.claim t.posted.is refl is)
  served_ends (turn.lacks_for_insert t is) = absurd (claims_none t.posted.row _ t.posted.claim t.posted.is refl is)
  served_ends (turn.lacks_memory_for_insert t is) =
      absurd (claims_none t.posted.row _ t.posted.claim t.posted.is refl is)
