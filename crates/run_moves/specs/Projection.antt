-- A store's state and its driver's messages as a state of a run.
use Rattle.std.specs.Prelude.{ℕ, ◌/◌, Option, Some, None, Bool, List, map, is_some}
use Rattle.std.specs.Option.{option_and_then, option_map}
use Rattle.page_disk.specs.Disk.{Image}
use Rattle.super_block.specs.declared.page.Super.{Super}
use Rattle.super_block.specs.Numbers.{cluster_pages_of}
use Rattle.volume_model.specs.Volumes.{head_of}
use Rattle.volume_model.specs.Xattrs.{Xattrs}
use Rattle.volume_model.specs.declared.command.Command.{Command}
use Rattle.volume_model.specs.declared.command.Command.TheVariants as c
use Rattle.volume_model.specs.declared.reply.Msg.{Msg}
use Rattle.blob_meta.specs.declared.meta.Meta.{Meta}
use Rattle.blob_meta.specs.Resolving.{resolved}
use Rattle.store_model.specs.Maps.{Map, Metas}
use Rattle.store_model.specs.Phases.{Phase, Replaces}
use Rattle.store_model.specs.Rows.{Claiming, Copying, Decided, Ended, Idle, InJob, OpenClaim, Posted, Ready, Row, Rows}
use Rattle.store_model.specs.Rows.{Stage}
use Rattle.store_model.specs.Shown.{fixed_of, shown_by}
use Rattle.store_model.specs.StoreState.{ForInsert, JobState, Service, StoreState, waiting}
use Rattle.run_work.specs.RunState.{AtClaiming, AtCopying, AtDecided, AtEnded, AtIdle, AtInJob, AtPosted, AtReady}
use Rattle.run_work.specs.RunState.{BlobInRun, BlobsInRun, ClaimInRun, CommandInRun, CommitPhase, DeviceFlush}
use Rattle.run_work.specs.RunState.{FoundHeads, InsertPhase, JobInRun, MetadataCommand, PagePhase, PageRead, PageWrite}
use Rattle.run_work.specs.RunState.{PhaseInRun, ReplacementPhase, RowInRun, RowsInRun, RunState, StageInRun}

-- What the driver of a run has of messages: the serial of one that a channel has still to send, those that are queued,
-- the one that is held, those that wait, and that of the command whose fill goes on.
pub record RunMessages : Type 0 where
  pub unsent : ℕ → Option ℕ
  pub queue : List Msg
  pub held : Option Msg
  pub waiting : List Msg
  pub fill : Option Msg

-- ---- rows

-- a page lies in the slot that its number says; all but pages and flushes is for the metadata thread
abbrev pub command_in_run : Super → Command → CommandInRun
command_in_run s (c.Read volume page) = PageRead volume
command_in_run s (c.Write volume page word) = PageWrite volume (page / cluster_pages_of s)
command_in_run s c.Flush = DeviceFlush
command_in_run s _ = MetadataCommand

-- the claim without its cluster
abbrev pub claim_in_run : OpenClaim → ClaimInRun
claim_in_run x = record { head = x.head; slot = x.slot; generation = x.generation }

-- the stage without its outcome
abbrev pub stage_in_run : Stage → StageInRun
stage_in_run Idle = AtIdle
stage_in_run Claiming = AtClaiming
stage_in_run (Copying left) = AtCopying left
stage_in_run Ready = AtReady
stage_in_run (Posted serial) = AtPosted serial
stage_in_run InJob = AtInJob
stage_in_run (Decided outcome) = AtDecided
stage_in_run Ended = AtEnded

-- a row with its commands, its stage and its claim as those of a run
abbrev pub row_in_run : Super → Row → RowInRun
row_in_run s row = record {
  left = map (command_in_run s) row.left;
  stage = stage_in_run row.stage;
  claim = option_map claim_in_run row.claim;
}

-- all rows
abbrev pub rows_in_run : Super → Rows → RowsInRun
rows_in_run s rows ch = row_in_run s (rows ch)

-- ---- blobs

-- of a blob its generation, and of each slot whether it has a cluster
abbrev pub blob_in_run : Meta → ℕ → BlobInRun
blob_in_run m generation = record { generation = generation; slots = map is_some m.map }

-- the blobs that the device says, each with its generation
abbrev pub blobs_in_run : Metas → Map ℕ → BlobsInRun
blobs_in_run base generations head = option_and_then (λ m. option_map (blob_in_run m) (generations head)) (base head)

-- the head that a reference means among the volumes that are shown
abbrev pub heads_found : Super → Image → Metas → Map Xattrs → FoundHeads
heads_found s image base live = head_of (fixed_of s) (shown_by (fixed_of s) image (resolved base) live)

-- ---- jobs

-- a replacement that is no commit
abbrev pub replacement_for : Service → PhaseInRun
replacement_for (ForInsert channel) = InsertPhase
replacement_for _ = ReplacementPhase

-- a commit, another replacement, or a page
abbrev pub phase_in_run : Service → Phase → PhaseInRun
phase_in_run serves (Replaces r (Some commit)) = CommitPhase
phase_in_run serves (Replaces r None) = replacement_for serves
phase_in_run serves _ = PagePhase

-- what is left of a job
abbrev pub phases_in_run : Service → List Phase → List PhaseInRun
phases_in_run serves todo = map (phase_in_run serves) todo

-- the row of a command waits for its commit, that of an insert for the end
abbrev pub job_in_run : JobState → JobInRun
job_in_run j = record {
  phases = phases_in_run j.serves j.todo;
  waits = waiting j.serves j.todo;
  freeze = j.freeze;
}

-- ---- the state

-- a state of a run by its parts
abbrev pub run_by : Super → Image → Metas → Map ℕ → Map Xattrs → Rows → Option JobState → (ℕ → Bool) → RunMessages
    → RunState
run_by s image base generations live rows job frozen d = record {
  blobs = blobs_in_run base generations;
  finds = heads_found s image base live;
  rows = rows_in_run s rows;
  job = option_map job_in_run job;
  frozen = frozen;
  unsent = d.unsent;
  queue = d.queue;
  held = d.held;
  waiting = d.waiting;
  fill = d.fill;
}

-- the state of the run of a store and its driver
abbrev pub run_state_of : StoreState → RunMessages → RunState
run_state_of p d = run_by p.super p.device.reads p.base p.generations p.live p.rows p.job p.frozen d
