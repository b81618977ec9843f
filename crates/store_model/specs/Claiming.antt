-- A write that finds its slot empty: its claim, the row that copies for it, and how a claim is given back.
use Rattle.std.specs.Prelude.{◌≡◌, ℕ, ◌/◌, ◌<◌, length, List, [], ◌∷◌, Option, None, Some, false}
use Rattle.super_block.specs.Numbers.{cluster_pages_of}
use Rattle.volume_model.specs.Volumes.{head_of}
use Rattle.volume_model.specs.Refusals.{refusal}
use Rattle.volume_model.specs.declared.command.VolumeRef.{VolumeRef}
use Rattle.volume_model.specs.declared.command.PageWord.{PageWord}
use Rattle.volume_model.specs.declared.command.Command.{Command}
use Rattle.volume_model.specs.declared.command.Command.TheVariants as c
use Rattle.volume_model.specs.declared.reply.Reply.{Reply}
use Rattle.blob_meta.specs.declared.meta.Meta.{Meta}
use Rattle.blob_meta.specs.Parents.{slot}
use Rattle.blob_meta.specs.Resolving.{resolved}
use Rattle.store_model.specs.Shown.{fixed_of}
use Rattle.store_model.specs.Phases.{Phase}
use Rattle.store_model.specs.Rows.{Decided, fill_row, InJob, OpenClaim, Stage, with_row, Won}
use Rattle.store_model.specs.Copying.{IsUpToDate}
use Rattle.store_model.specs.Device.{Device}
use Rattle.store_model.specs.Filling.{AsksForFill}
use Rattle.store_model.specs.Places.{without_claim}
use Rattle.store_model.specs.StoreState.{ForInsert, JobState, logged, logged_to, shown, StoreState}
use Rattle.store_model.specs.Turning.{IsPosted}

-- a channel's write of a page at this stage, with this claim
pub record IsWriting (p : StoreState) (stage : Stage) (claim : Option OpenClaim) : Type 0 where
  pub channel : ℕ
  pub volume : VolumeRef
  pub page : ℕ
  pub word : PageWord
  pub rest : List Command
  pub row : p.rows channel ≡ record { left = c.Write volume page word ∷ rest; stage = stage; claim = claim }

-- what refuses the write now
abbrev pub refused_by : (p : StoreState) → {stage : Stage} → {claim : Option OpenClaim} → IsWriting p stage claim
    → Option Reply
refused_by p w = refusal (fixed_of p.super) (shown p) (c.Write w.volume w.page w.word)

-- The blob that the write means, which isn't frozen, with what stands in the page's slot.
pub record MeansSlot (p : StoreState) {stage : Stage} {claim : Option OpenClaim} (w : IsWriting p stage claim)
    (cluster : Option ℕ) : Type 0 where
  pub head : ℕ
  pub found : head_of (fixed_of p.super) (shown p) w.volume ≡ Some head
  pub free : p.frozen head ≡ false
  pub meta : Meta
  pub there : resolved p.base head ≡ Some meta
  pub is : slot meta (w.page / cluster_pages_of p.super) ≡ cluster

-- the row at another stage, with another claim
abbrev pub staged : (p : StoreState) → {stage : Stage} → {claim : Option OpenClaim} → IsWriting p stage claim → Stage
    → Option OpenClaim → StoreState
staged p w stage claim = record p {
  rows = with_row p.rows w.channel
      (record { left = c.Write w.volume w.page w.word ∷ w.rest; stage = stage; claim = claim });
}

-- ---- a claim

-- For whom a row copies: for its own write, or, on the fill's row, for the command that the metadata thread fills slots
-- for.
pub data Works (p : StoreState) (row : ℕ) : Type 0 where
  own : (volume : VolumeRef) (page : ℕ) (word : PageWord) (rest : List Command)
      → (p.rows row).left ≡ c.Write volume page word ∷ rest → Works p row
  fill : (channel : ℕ) → row ≡ fill_row → p.filling ≡ Some channel → Works p row

-- a row at this stage, with the claim that it holds
pub record IsCopying (p : StoreState) (stage : Stage) : Type 0 where
  pub row : ℕ
  pub left : List Command
  pub claim : OpenClaim
  pub is : p.rows row ≡ record { left = left; stage = stage; claim = Some claim }
  pub works : Works p row

-- the row goes on at this stage, and gives its claim back, if it has one
abbrev pub given_back : StoreState → ℕ → Stage → StoreState
given_back p row stage = record p {
  rows = with_row p.rows row (record { left = (p.rows row).left; stage = stage; claim = None });
  clusters = without_claim p.clusters (p.rows row).claim;
}

-- A channel's row goes on at this stage and gives its claim back, and its write is logged.
pub record LogsOwn (p : StoreState) (row : ℕ) (stage : Stage) (reply : Reply) (device : Device)
    (q : StoreState) : Type 0 where
  pub volume : VolumeRef
  pub page : ℕ
  pub word : PageWord
  pub rest : List Command
  pub left : (p.rows row).left ≡ c.Write volume page word ∷ rest
  pub next : q ≡ logged_to stage (given_back p row stage) row (c.Write volume page word) rest reply device

-- The fill's row goes on at this stage and gives its claim back, and works for no command any more: the one that it
-- worked for is logged, and its channel is to be told.
pub record LogsFilled (p : StoreState) (row : ℕ) (stage : Stage) (reply : Reply) (device : Device)
    (q : StoreState) : Type 0 where
  pub fills : row ≡ fill_row
  pub posted : IsPosted p
  pub works : p.filling ≡ Some posted.channel
  pub asks : AsksForFill posted.command
  pub next : q ≡ logged (record (given_back p row stage) { filling = None })
      posted.channel posted.command posted.rest reply device

-- A row goes on at this stage and gives its claim back, and the command that it worked for is logged.
pub data LogsWork (p : StoreState) (row : ℕ) (stage : Stage) (reply : Reply) (device : Device)
    (q : StoreState) : Type 0 where
  logs_own : LogsOwn p row stage reply device q → LogsWork p row stage reply device q
  logs_filled : LogsFilled p row stage reply device q → LogsWork p row stage reply device q

-- ---- an insert

-- the claim can be inserted: its blob's generation is the same, and the slot is there and empty
pub record CanInsert (p : StoreState) (claim : OpenClaim) (meta : Meta) : Type 0 where
  pub there : p.base claim.head ≡ Some meta
  pub current : IsUpToDate p claim
  pub within : claim.slot < length meta.map
  pub empty : slot meta claim.slot ≡ None

-- The row whose insert the job does.
pub record IsInserting (p : StoreState) (job : JobState) : Type 0 where
  pub row : ℕ
  pub serves : job.serves ≡ ForInsert row
  pub waits : (p.rows row).stage ≡ InJob

-- the row's stage with these phases left of the job: it waits for the last of them, with which it is decided as won
abbrev pub stage_behind : List Phase → Stage
stage_behind [] = Decided Won
stage_behind (x ∷ xs) = InJob
