-- Rows with a claim have a write first: by what the turns of a run leave, and by what is known of the fill's row.
use Rattle.std.proofs.Common.{◌≢◌, ℕ, Bool, List, sym, ◌∙◌, ap, subst, inl, inr}
use Rattle.std.proofs.lemmas.Bool.{cases_eq}
use Rattle.store_model.specs.Cases.{Kind, Run}
use Rattle.store_model.specs.Filling.{FillStands}
use Rattle.store_model.specs.Rows.{fill_row}
use Rattle.store_model.specs.StoreState.{Opens, StoreState}
use Rattle.store_model.proofs.FillRuns.{fill_stands}
use Rattle.turn_columns.specs.Columns.{HasWrite}
use Rattle.turn_columns.proofs.OwnRuns.{own_in_run}
use Rattle.turn_columns.proofs.OwnWrites.{AreOwn}
use Rattle.run_moves.specs.PlainRows.{BeginsWithWrite, HasPlainRows}

-- where claims are held for writes, and the fill's row has no command
plain_rows : (p : StoreState) → FillStands p → AreOwn p → HasPlainRows p
plain_rows p fill own = record {
  claimed = λ row claim is. at row (λ ne. own.claims row ne claim is);
  inserting = λ job row is serves. let x = own.inserts job row is serves in (x.stage, at row x.writes);
}
  where
    at : (row : ℕ) → (row ≢ fill_row → HasWrite (p.rows row).left) → BeginsWithWrite row (p.rows row).left
    at row writes = elim (cases_eq row fill_row) [
      | inl e ↦ subst (BeginsWithWrite row) (sym (ap (λ n. (p.rows n).left) e ∙ fill.left)) e
      | inr ne ↦ subst (BeginsWithWrite row) (sym (writes ne).is) tt
    ]

-- of a run that opened, whatever turns were made
pub plain_in_run : (told : Bool) (kinds : List Kind) (p q : StoreState) → Opens p → Run told p kinds q
    → HasPlainRows q
plain_in_run told kinds p q opens run =
    plain_rows q (fill_stands told p q kinds opens run) (own_in_run told kinds p q opens run)
