-- What the work of a run is computed from: of a running store and of the driver of its run a few plain values.
use Rattle.std.specs.Prelude.{ℕ, Option, Bool, List}
use Rattle.volume_model.specs.declared.command.VolumeRef.{VolumeRef}
use Rattle.volume_model.specs.declared.reply.Msg.{Msg}

-- What a command is in a run: a page of a volume is read; a page is written, in a slot of a volume; the device is
-- flushed; or the metadata thread serves it.
pub data CommandInRun : Type 0 where
  PageRead : (volume : VolumeRef) → CommandInRun
  PageWrite : (volume : VolumeRef) (slot : ℕ) → CommandInRun
  DeviceFlush : CommandInRun
  MetadataCommand : CommandInRun

-- a claim for a slot of a blob, with the blob's generation at the claim
pub record ClaimInRun : Type 0 where
  pub head : ℕ
  pub slot : ℕ
  pub generation : ℕ

-- how far the first command of a row has come, without outcomes
pub data StageInRun : Type 0 where
  AtIdle AtClaiming AtReady AtInJob AtDecided AtEnded : StageInRun
  AtCopying : (left : ℕ) → StageInRun
  AtPosted : (serial : ℕ) → StageInRun

pub record RowInRun : Type 0 where
  pub left : List CommandInRun
  pub stage : StageInRun
  pub claim : Option ClaimInRun

abbrev pub RowsInRun : Type 0
RowsInRun = ℕ → RowInRun

-- a blob's generation, and which of its slots have a cluster
pub record BlobInRun : Type 0 where
  pub generation : ℕ
  pub slots : List Bool

abbrev pub BlobsInRun : Type 0
BlobsInRun = ℕ → Option BlobInRun

-- the head that a reference means now: a create, a rename or a delete changes it
abbrev pub FoundHeads : Type 0
FoundHeads = VolumeRef → Option ℕ

-- What is left of a job, a turn each: a page is written, and nothing else changes; the replacement of an insert; one
-- that is no commit; the commit.
pub data PhaseInRun : Type 0 where
  PagePhase InsertPhase ReplacementPhase CommitPhase : PhaseInRun

-- The job that runs: what is left of it, the row that waits for it, and the blob that it freezes.
pub record JobInRun : Type 0 where
  pub phases : List PhaseInRun
  pub waits : Option ℕ
  pub freeze : Option ℕ

-- Of the store: its blobs, what references mean, the rows, the job, which blobs are frozen. The rows below 16 are those
-- of the channels, and row 16 is the metadata thread's own, on which it fills slots. Of the driver its messages: the
-- serial of one that a channel has still to send, those that are queued, the one that the metadata thread took and
-- holds, those whose commands wait behind a fill, and that of the command whose fill goes on.
pub record RunState : Type 0 where
  pub blobs : BlobsInRun
  pub finds : FoundHeads
  pub rows : RowsInRun
  pub job : Option JobInRun
  pub frozen : ℕ → Bool
  pub unsent : ℕ → Option ℕ
  pub queue : List Msg
  pub held : Option Msg
  pub waiting : List Msg
  pub fill : Option Msg

-- Numbers that are fixed for a run: the pages of a cluster, the most turns of an insert's job, the most turns and the
-- most replacements of any job, the most slots of a blob, how many rows there are, and how many heads there may be.
pub record RunSizes : Type 0 where
  pub pages : ℕ
  pub insert_turns : ℕ
  pub job_turns : ℕ
  pub replacements : ℕ
  pub slots : ℕ
  pub rows : ℕ
  pub heads : ℕ
