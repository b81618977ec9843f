-- The turns of the running job: which cases they are, what they start from, and what they answer.
use Rattle.std.specs.Prelude.{◌≡◌, ℕ, Option, Some, None, length}
use Rattle.io_freeze.specs.Guards.{GuardsState}
use Rattle.page_disk.specs.declared.disk.PageDisk.{Ghosts}
use Rattle.store_model.specs.StoreState.{JobState}
use Rattle.store_model.specs.Cases.{Kind, the}
use Rattle.store_model.specs.Cases as kind
use Rattle.metadata_turns.specs.declared.job_turn.JobTurn.{JobTurn}
use Rattle.metadata_turns.specs.declared.job_turn.JobTurn.TheVariants as turn
use Rattle.running_store.specs.Jobs.{freeze_of}
use Rattle.running_store.specs.Places.{thawed}
use Rattle.running_store.specs.StoreView.{StoreView, state_of}
use Rattle.running_store.specs.declared.job.Serves.{Serves}
use Rattle.running_store.specs.TurnMade.{TurnMade}
use Rattle.running_store.specs.RunningState.{IsRunning}
use Rattle.metadata_turns.specs.RowsWork.{RowsWork}

-- the kinds of a job's turns, but for its beginning: those of an insert's job alone, and of any other
abbrev pub IsOfJob : Kind → Type 0
IsOfJob kind.inserts = Unit {0}
IsOfJob kind.insert_ends = Unit {0}
IsOfJob kind.insert_fails = Unit {0}
IsOfJob kind.insert_breaks_down = Unit {0}
IsOfJob other = (the other).OfJob

-- One of these turns is made.
pub record TurnsJob {D : Type 0} (d : Ghosts D) (p q : StoreView D) : Type 0 where
  pub kind : Kind
  pub of_job : IsOfJob kind
  pub made : TurnMade d p q kind

-- what a turn answers: the store stopped at an entry, or the job runs on, or it is done
abbrev pub answer_of : {D : Type 0} → StoreView D → JobTurn
answer_of p = by p.stopped p.job
  where
    by : Option ℕ → Option JobState → JobTurn
    by (Some at) job = turn.Stopped at
    by None (Some j) = turn.More
    by None None = turn.Done

-- with this job running
abbrev pub with_job : {D : Type 0} → StoreView D → JobState → StoreView D
with_job p j = record p { job = Some j }

-- with no job, stopped behind the entries so far, and with the blob that the job froze released
abbrev pub stopped_at : {D : Type 0} → StoreView D → Option ℕ → StoreView D
stopped_at p freeze = record p { stopped = Some (length p.log); job = None; guards = thawed p.guards freeze }

-- the guards where this is left of a job: where that is nothing, the blob that it froze is released
abbrev pub guards_left : {J : Type 0} → GuardsState → Serves → Option J → GuardsState
guards_left guards serves None = thawed guards (freeze_of serves)
guards_left guards serves (Some j) = guards

-- A store that isn't stopped runs this job, which has been taken out of it for its turn.
pub record IsAtWork {D : Type 0} (d : Ghosts D) (p : StoreView D) (j : JobState) : Type 0 where
  pub taken : p.job ≡ None
  pub not_stopped : p.stopped ≡ None
  pub running : IsRunning (state_of d (with_job p j))
  pub work : RowsWork (state_of d (with_job p j))
