-- In each state of a run a claim is held for the command that its row works for.
use Rattle.std.proofs.Common.{◌≡◌, ◌≢◌, ℕ, Option, Some, None, refl, sym, subst, inl, inr}
use Rattle.std.proofs.lemmas.Bool.{cases_eq}
use Rattle.page_disk.specs.declared.disk.PageDisk.{Ghosts}
use Rattle.store_model.specs.Claiming.{Works}
use Rattle.store_model.specs.Claiming as of
use Rattle.store_model.specs.Filling.{FillStands, StandsAt}
use Rattle.store_model.specs.Rows.{Copying, fill_row, InJob, Posted, Ready, Stage}
use Rattle.store_model.specs.RunInvariant.{IsShaped, MayClaim}
use Rattle.store_model.specs.StoreState.{StoreState}
use Rattle.metadata_turns.specs.RowsWork.{RowsWork}
use Rattle.store_core.specs.StoreInvariant.{StoreInvariant}
use Rattle.running_store.specs.StoreView.{WithOpening, state_of}
use Rattle.store_core.proofs.FillKept.{fill_kept}
use Rattle.turn_columns.specs.Columns.{HasWrite}
use Rattle.turn_columns.proofs.OwnRuns.{own_in_run}
use Rattle.turn_columns.proofs.OwnWrites.{AreOwn}

-- ---- for whom rows work

-- where the fill's row may hold a claim it works for a channel
works_for : (filling : Option ℕ) (stage : Stage) → StandsAt filling stage → MayClaim stage
    → (channel : ℕ) × (filling ≡ Some channel)
works_for (Some channel) stage at may = (channel, refl)
works_for None (Copying left) at may = absurd at
works_for None Ready at may = absurd at
works_for None (Posted serial) at may = absurd at
works_for None InJob at may = absurd at
works_for None _ at may = absurd may

module _ (p : StoreState) (fill : FillStands p) (own : AreOwn p) where
  works_at : (row : ℕ) → MayClaim (p.rows row).stage → (row ≢ fill_row → HasWrite (p.rows row).left) → Works p row
  works_at row may writes = elim (cases_eq row fill_row) [
    | inl e ↦
        let x = works_for p.filling (p.rows fill_row).stage fill.stage
        (subst (λ n. MayClaim (p.rows n).stage) e may) in
        of.fill x.0 e x.1
    | inr ne ↦ let w = writes ne in of.own w.volume w.page w.word w.rest w.is
  ]

  all_work : IsShaped p → RowsWork p
  all_work shaped = record {
    claims = λ row claim is. works_at row (shaped.claims row claim is) (λ ne. own.claims row ne claim is);
    inserts = λ job row is serves.
        let waits = own.inserts job row is serves in
        record {
          stage = waits.stage;
          works = works_at row (subst MayClaim (sym waits.stage) tt) waits.writes;
        };
    fill = fill;
  }

pub rows_work : {D : Type 0} (d : Ghosts D) (p : WithOpening D) → StoreInvariant d p → RowsWork (state_of d p.at)
rows_work d p kept = all_work (state_of d p.at) (fill_kept d p kept)
    (own_in_run d.tells kept.run.0 (state_of d p.opening) (state_of d p.at) kept.began kept.run.1) kept.facts.shaped
