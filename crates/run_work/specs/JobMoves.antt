-- The moves of a job's turns.
use Rattle.std.specs.Prelude.{◌≡◌, ◌≢◌, ℕ, ◌<◌, ◌≤◌, Some, None, Bool, true, false, List, [], ◌∷◌}
use Rattle.run_work.specs.RunState.{AtDecided, AtInJob, BlobInRun, BlobsInRun, CommandInRun, CommitPhase, FoundHeads}
use Rattle.run_work.specs.RunState.{InsertPhase, JobInRun, MetadataCommand, PagePhase, PhaseInRun, ReplacementPhase}
use Rattle.run_work.specs.RunState.{RunSizes, RunState}
use Rattle.run_work.specs.Reading.{asks_metadata, frozen_left, job_left_in_run, logged_row, slot_in, stage_after_insert}
use Rattle.run_work.specs.Reading.{unclaimed_at, with_filled}
use Rattle.run_work.specs.Work.{commit_is_left, empty_in}
use Rattle.run_work.specs.ChannelMoves.{moved_row}

module _ (z : RunSizes) where
  -- These blobs may differ in everything at one head, with no more slots than a blob may have, and elsewhere in their
  -- generations alone.
  pub record ReplacesBlob (old new : BlobsInRun) : Type 0 where
    pub head : ℕ
    pub inside : head < z.heads
    pub few : empty_in (new head) ≤ z.slots
    pub others : (h : ℕ) → h ≢ head → empty_in (new h) ≡ empty_in (old h)

  -- A page is written, of a cluster, of a chain or of an old one, or the super block. A job with nothing left to do
  -- ends, and its blob is released; no row waits for it then.
  pub record PageMove (w v : RunState) : Type 0 where
    pub job : JobInRun
    pub rest : List PhaseInRun
    pub runs : w.job ≡ Some job
    pub here : job.phases ≡ PagePhase ∷ rest
    pub ends : rest ≡ [] → job.waits ≡ None
    pub next : v ≡ record w { job = job_left_in_run job rest; frozen = frozen_left w.frozen job rest }

  -- An insert's replacement puts the cluster into the slot, and the claim has ended. With nothing left to do the row is
  -- decided.
  pub record InsertMove (w : RunState) (ch : ℕ) (v : RunState) : Type 0 where
    pub job : JobInRun
    pub rest : List PhaseInRun
    pub runs : w.job ≡ Some job
    pub here : job.phases ≡ InsertPhase ∷ rest
    pub waits : job.waits ≡ Some ch
    pub thaws : job.freeze ≡ None
    pub stage : (w.rows ch).stage ≡ AtInJob
    pub plain : asks_metadata (w.rows ch).left ≡ false
    pub head : ℕ
    pub slot : ℕ
    pub blob : BlobInRun
    pub there : w.blobs head ≡ Some blob
    pub empty : slot_in (w.blobs head) slot ≡ Some false
    pub inside : head < z.heads
    pub blobs : BlobsInRun
    pub filled : blobs head ≡ Some (record blob { slots = with_filled blob.slots slot })
    pub others : (h : ℕ) → h ≢ head → blobs h ≡ w.blobs h
    pub next : v ≡ record (moved_row w ch (unclaimed_at (w.rows ch) (stage_after_insert rest))) {
      blobs = blobs;
      job = job_left_in_run job rest;
    }

  -- with the last page of an insert's job its row is decided
  pub record WinMove (w : RunState) (ch : ℕ) (v : RunState) : Type 0 where
    pub job : JobInRun
    pub runs : w.job ≡ Some job
    pub last : job.phases ≡ PagePhase ∷ []
    pub waits : job.waits ≡ Some ch
    pub thaws : job.freeze ≡ None
    pub stage : (w.rows ch).stage ≡ AtInJob
    pub plain : asks_metadata (w.rows ch).left ≡ false
    pub next : v ≡ record (moved_row w ch (unclaimed_at (w.rows ch) AtDecided)) { job = None }

  -- a replacement that is no commit
  pub record ReplaceMove (w v : RunState) : Type 0 where
    pub job : JobInRun
    pub rest : List PhaseInRun
    pub runs : w.job ≡ Some job
    pub here : job.phases ≡ ReplacementPhase ∷ rest
    pub ends : rest ≡ [] → job.waits ≡ None
    pub blobs : BlobsInRun
    pub finds : FoundHeads
    pub replaces : ReplacesBlob w.blobs blobs
    pub next : v ≡ record w {
      blobs = blobs;
      finds = finds;
      job = job_left_in_run job rest;
      frozen = frozen_left w.frozen job rest;
    }

  -- the commit, which logs the job's command
  pub record CommitMove (w : RunState) (ch : ℕ) (v : RunState) : Type 0 where
    pub job : JobInRun
    pub rest : List PhaseInRun
    pub commands : List CommandInRun
    pub runs : w.job ≡ Some job
    pub here : job.phases ≡ CommitPhase ∷ rest
    pub waits : job.waits ≡ Some ch
    pub left : (w.rows ch).left ≡ MetadataCommand ∷ commands
    pub stage : (w.rows ch).stage ≡ AtInJob
    pub blobs : BlobsInRun
    pub finds : FoundHeads
    pub replaces : ReplacesBlob w.blobs blobs
    pub next : v ≡ record (moved_row w ch (logged_row commands AtDecided)) {
      blobs = blobs;
      finds = finds;
      job = job_left_in_run (record job { waits = None }) rest;
      frozen = frozen_left w.frozen job rest;
    }

  -- A write or a flush failed, or the store has stopped: the command that waits is logged, and no job runs any more.
  pub record FailMove (w : RunState) (ch : ℕ) (v : RunState) : Type 0 where
    pub job : JobInRun
    pub command : CommandInRun
    pub commands : List CommandInRun
    pub runs : w.job ≡ Some job
    pub waits : job.waits ≡ Some ch
    pub left : (w.rows ch).left ≡ command ∷ commands
    pub stage : (w.rows ch).stage ≡ AtInJob
    pub unlogged : command ≡ MetadataCommand → commit_is_left job.phases ≡ true
    pub frozen : ℕ → Bool
    pub thaws : (h : ℕ) → frozen h ≡ false
    pub next : v ≡ record (moved_row w ch (logged_row commands AtDecided)) { job = None; frozen = frozen }

  -- the same where no row waits
  pub record DropMove (w v : RunState) : Type 0 where
    pub job : JobInRun
    pub runs : w.job ≡ Some job
    pub waits : job.waits ≡ None
    pub frozen : ℕ → Bool
    pub thaws : (h : ℕ) → frozen h ≡ false
    pub next : v ≡ record w { job = None; frozen = frozen }
