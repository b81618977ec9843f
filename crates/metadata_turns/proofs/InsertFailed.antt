-- A row that waits for its insert, and how the command that it works for is logged where the job fails.
use Rattle.std.proofs.Common.{◌≡◌, ℕ, ◌<◌, Bool, false, List, ◌∷◌, length, Some, None, refl, ap, subst, Option}
use Rattle.std.specs.FinSet as set
use Rattle.page_disk.specs.declared.disk.PageDisk.{Ghosts}
use Rattle.volume_model.specs.declared.reply.Reply.TheVariants as r
use Rattle.store_model.specs.Cases.{FailsToReplace}
use Rattle.store_model.specs.Cases.InsertFail.{InsertFails, tried_insert, TriedInsert}
use Rattle.store_model.specs.Claiming.{IsInserting, LogsWork, Works}
use Rattle.store_model.specs.Filling.{FillStands}
use Rattle.store_model.specs.Phases.{Phase}
use Rattle.store_model.specs.Rows.{Answered, Decided}
use Rattle.store_model.specs.StoreState.{ForInsert, JobState, StoreState}
use Rattle.store_model.specs.Touches.{page_touched}
use Rattle.store_model.specs.Turning.{stopped_now}
use Rattle.metadata_turns.specs.JobTurns.{stopped_at, with_job, IsAtWork}
use Rattle.metadata_turns.specs.RowsWork.{WaitsToInsert}
use Rattle.running_store.specs.GivingBack.{IsGivenUp}
use Rattle.running_store.specs.StoreView.{StoreView, device_of, state_of}
use Rattle.running_store.specs.Places.{thawed}
use Rattle.running_store.proofs.Thawed.{none_frozen_then}
use Rattle.running_store.proofs.WorkLogged.{fill_still, logs_seen, work_disk, work_logged, work_low, works_still}

-- the store as it stops, with these blobs frozen
abbrev stopping : {D : Type 0} → Ghosts D → StoreView D → JobState → D → (ℕ → Bool) → StoreState
stopping d p j disk frozen = record (state_of d (with_job p j)) {
  stopped = Some (length p.log);
  job = None;
  frozen = frozen;
  device = device_of d disk;
}

-- no blob is frozen any more
pub stopped_state : {D : Type 0} (d : Ghosts D) (p : StoreView D) (j : JobState) → IsAtWork d p j → (disk : D)
    → state_of d (stopped_at (record p { disk = disk }) j.freeze)
    ≡ record (state_of d (with_job p j)) {
      stopped = Some (length p.log);
      job = None;
      frozen = λ head. false;
      device = device_of d disk;
    }
stopped_state d p j w disk = by j.freeze
    (none_frozen_then (state_of d (with_job p j)) w.running.facts.guarded p.guards refl w.not_stopped j refl)
  where
    by : (o : Option ℕ) → set.contains (thawed p.guards o).frozen ≡ (λ head. false)
        → state_of d (stopped_at (record p { disk = disk }) o) ≡ stopping d p j disk (λ head. false)
    by None none = ap (stopping d p j disk) none
    by (Some head) none = ap (stopping d p j disk) none

module _ {D : Type 0} (d : Ghosts D) (p : StoreView D) (j : JobState) (w : IsAtWork d p j) (row : ℕ)
    (serves : j.serves ≡ ForInsert row) where
  abbrev s : StoreState
  s = state_of d (with_job p j)

  pub waits : WaitsToInsert s row
  waits = w.work.inserts j row refl serves

  abbrev pub inserting : IsInserting s j
  inserting = record { row = row; serves = serves; waits = waits.stage }

  module _ (seventeen : length p.rows ≡ 17) where
    -- its row is one of those that there are
    pub insert_low : row < 17
    insert_low = work_low d (with_job p j) seventeen w.work.fill row waits.works

    module _ (disk : D) (q : StoreView D) (given : IsGivenUp (stopped_at (record p { disk = disk }) j.freeze) q row
        (Decided Answered) r.Fault (d.clock q.disk)) where
      abbrev stopped : StoreView D
      stopped = stopped_at (record p { disk = disk }) j.freeze

      pub fill : FillStands (state_of d stopped)
      fill = fill_still s (state_of d stopped) refl refl w.work.fill

      pub works : Works (state_of d stopped) row
      works = works_still s (state_of d stopped) refl refl row waits.works

      pub insert_disk : q.disk ≡ disk
      insert_disk = work_disk d stopped seventeen fill q row (Decided Answered) r.Fault insert_low works given

      abbrev pub fails_insert : (phase : Phase) (others : List Phase) → j.todo ≡ phase ∷ others
          → (tried : TriedInsert s.super j phase)
          → FailsToReplace (page_touched (tried_insert s tried)) (device_of d p.disk) (device_of d disk)
          → InsertFails s (state_of d q)
      fails_insert phase others next tried fails = record {
        phase = phase;
        running = record { job = j; is = refl; rest = others; next = next; runs = w.not_stopped };
        inserting = inserting;
        tried = tried;
        device = device_of d disk;
        fails = fails;
        logs = logs_seen (record (stopped_now s) { job = None }) (device_of d disk) row (Decided Answered) r.Fault
            (device_of d disk) (state_of d q)
            (subst (λ (a : StoreState). LogsWork a row (Decided Answered) r.Fault (device_of d disk) (state_of d q))
            (stopped_state d p j w disk)
            (work_logged d stopped seventeen fill q row (Decided Answered) r.Fault insert_low works given));
      }
