-- What repairs come to before the first command of a run.
use Rattle.std.specs.Prelude.{◌≡◌, ◌⊎◌, ℕ, ◌<◌, Option, Some, None, [], length}
use Rattle.page_disk.specs.Disk.{Rose}
use Rattle.page_disk.specs.declared.disk.PageDisk.{Ghosts}
use Rattle.blob_meta.specs.Repairs.{HasNoMarks}
use Rattle.job_begins.specs.Repairs.{LacksForRepair}
use Rattle.repair_runs.specs.RepairRuns.{marks_left, RepairRun}
use Rattle.running_store.specs.StoreView.{base_of, rows_of, state_of, StoreView}
use Rattle.store_model.specs.StoreState.{shown}
use Rattle.streams.specs.declared.sink.Sink as sink
use Rattle.blob_tool.specs.Found.{HasSoundImage}
use Rattle.blob_tool.specs.Surviving.{RunSurvives}
use Rattle.blob_tool.specs.declared.repairing.RepairsEnd.{RepairsEnd}
use Rattle.blob_tool.specs.declared.repairing.RepairsEnd.TheVariants as end
use Rattle.blob_tool.specs.declared.status.Status.{Status}
use Rattle.blob_tool.specs.declared.status.Status.TheVariants as status
use Rattle.unclean_load.specs.declared.fault.LoadFault.TheVariants as fault

-- a store stopped, behind its entries so far
abbrev pub IsStoppedNow : {D : Type 0} → StoreView D → Type 0
IsStoppedNow q = q.stopped ≡ Some (length q.log)

-- how repairs ended: none is left, the store stopped, or the next can't be made
abbrev pub IsEndOfRepairs : {D : Type 0} → Ghosts D → StoreView D → RepairsEnd → Type 0
IsEndOfRepairs d q end.Repaired = (q.stopped ≡ None) × HasNoMarks (base_of q.metas q.marked)
IsEndOfRepairs d q end.Stopped = IsStoppedNow q
IsEndOfRepairs d q (end.NoRoom head has wants) = (q.stopped ≡ None) × LacksForRepair (state_of d q) head has wants
IsEndOfRepairs d q end.Memory = q.stopped ≡ None

module _ {D : Type 0} (d : Ghosts D) (p q : StoreView D) where
  -- Repairs alone lead from one state of the store to another, in which no job runs. Nothing is logged, and the rows
  -- are as they were.
  pub record AreMade : Type 0 where
    pub run : RepairRun d.tells (state_of d p) (state_of d q)
    pub unlogged : q.log ≡ p.log
    pub rows : (channel : ℕ) → rows_of q.rows channel ≡ rows_of p.rows channel
    pub no_job : q.job ≡ None

  -- A repair's job is made to its end: fewer blobs than this have a mark then, or the store stopped.
  pub record Mends (n : ℕ) : Type 0 where
    pub made : AreMade
    pub either : IsStoppedNow q ⊎ ((q.stopped ≡ None) × (marks_left (state_of d q) < n))

  -- Repairs were made, and so they ended.
  pub record EndsRepairs (how : RepairsEnd) : Type 0 where
    pub made : AreMade
    pub ended : IsEndOfRepairs d q how

  -- Repairs ended, or one was made, and fewer blobs have a mark.
  abbrev pub EndsOrMendsOne : Option RepairsEnd → Type 0
  EndsOrMendsOne (Some how) = EndsRepairs how
  EndsOrMendsOne None = AreMade × (q.stopped ≡ None) × (marks_left (state_of d q) < marks_left (state_of d p))

-- the status of a run that ends with its repairs, which it doesn't where none is left
abbrev pub status_of_repairs : RepairsEnd → Option Status
status_of_repairs end.Repaired = None
status_of_repairs end.Stopped = Some (status.Device 0)
status_of_repairs (end.NoRoom head has wants) = Some (status.Image (fault.NoRoom head has wants))
status_of_repairs end.Memory = Some status.Memory

module _ {D : Type 0} (d : Ghosts D) {K : Type 0} (k : sink.Ghosts K) (out out_now : K) (back : D) where
  -- Repairs alone were made from this state, and the device that they left is handed back. Nothing is printed, and
  -- whenever power failed, what is left comes back to the store as it was opened.
  pub record Repaired (first : StoreView D) : Type 0 where
    pub last : StoreView D
    pub made : AreMade d first last
    pub device : back ≡ last.disk
    pub pages : d.pages back ≡ d.pages first.disk
    pub quiet : out_now ≡ out
    pub unlogged : last.log ≡ []
    pub survives : HasSoundImage d first.disk → RunSurvives d first.super (shown (state_of d first)) last back

  -- A run ended with its repairs: the device failed; the next repair needs more pages than are clear; or memory ran
  -- out.
  abbrev pub EndedInRepair : StoreView D → Status → Type 0
  EndedInRepair first (status.Device at) =
      (p : Repaired first) × (at ≡ 0) × (p.last.stopped ≡ Some 0)
      × Rose (d.write_faults first.disk) (d.write_faults back)
  EndedInRepair first (status.Image (fault.NoRoom head has wants)) =
      (p : Repaired first) × (p.last.stopped ≡ None) × LacksForRepair (state_of d p.last) head has wants
  EndedInRepair first status.Memory = (p : Repaired first) × (p.last.stopped ≡ None)
  EndedInRepair first _ = ⊥
