-- The moves of a row: what a turn, or the sending of a message, changes in a run. What a move doesn't name stays.
use Rattle.std.specs.Prelude.{◌≡◌, ◌≢◌, ℕ, suc, ◌<◌, ◌≤◌, Option, Some, None, Bool, true, false, List, [], ◌∷◌, ◌++◌}
use Rattle.std.specs.Prelude.{length}
use Rattle.volume_model.specs.declared.command.VolumeRef.{VolumeRef}
use Rattle.run_work.specs.RunState.{AtClaiming, AtCopying, AtDecided, AtEnded, AtIdle, AtPosted, AtReady, BlobInRun}
use Rattle.run_work.specs.RunState.{ClaimInRun, CommandInRun, MetadataCommand, PageWrite, RowInRun, RunSizes, RunState}
use Rattle.run_work.specs.RunState.{StageInRun}
use Rattle.run_work.specs.Reading.{is_filled, logged_row, row_at, slot_in, stage_of_copy, unclaimed_at, with_row_in_run}
use Rattle.run_work.specs.Work.{is_doomed}

-- the state with one row changed
abbrev pub moved_row : RunState → ℕ → RowInRun → RunState
moved_row w ch row = record w { rows = with_row_in_run w.rows ch row }

-- a row whose first command writes a page in a slot of the blob at a head, which isn't frozen
pub record WritesInto (w : RunState) (ch head slot : ℕ) : Type 0 where
  pub volume : VolumeRef
  pub commands : List CommandInRun
  pub left : (w.rows ch).left ≡ PageWrite volume slot ∷ commands
  pub found : w.finds volume ≡ Some head
  pub free : w.frozen head ≡ false

-- for whom a row claims: for its own write, or, on the metadata thread's row, for a fill
pub data ClaimsFor (w : RunState) (ch head slot : ℕ) : Type 0 where
  for_write : (w.rows ch).stage ≡ AtClaiming → WritesInto w ch head slot → ClaimsFor w ch head slot
  for_fill : ch ≡ 16 → (w.rows ch).stage ≡ AtIdle → ClaimsFor w ch head slot

-- who posts: a row whose pages are copied, or one whose first command is for the metadata thread
pub data PostsFrom (w : RunState) (ch : ℕ) : Type 0 where
  copied : (w.rows ch).stage ≡ AtReady → PostsFrom w ch
  asking : (commands : List CommandInRun) → (w.rows ch).left ≡ MetadataCommand ∷ commands
      → (w.rows ch).stage ≡ AtIdle → PostsFrom w ch

-- the stages at which a row's own turn logs its first command
abbrev pub logs_itself : StageInRun → Bool
logs_itself AtIdle = true
logs_itself AtClaiming = true
logs_itself (AtCopying left) = true
logs_itself AtReady = true
logs_itself _ = false

module _ (z : RunSizes) where
  -- a write finds its slot empty
  pub record EmptyMove (w : RunState) (ch : ℕ) (v : RunState) : Type 0 where
    pub head : ℕ
    pub slot : ℕ
    pub write : WritesInto w ch head slot
    pub stage : (w.rows ch).stage ≡ AtIdle
    pub claim : (w.rows ch).claim ≡ None
    pub unfilled : is_filled (slot_in (w.blobs head) slot) ≡ false
    pub next : v ≡ moved_row w ch (row_at (w.rows ch) AtClaiming)

  -- at its claim it finds the slot filled
  pub record FilledMove (w : RunState) (ch : ℕ) (v : RunState) : Type 0 where
    pub head : ℕ
    pub slot : ℕ
    pub write : WritesInto w ch head slot
    pub stage : (w.rows ch).stage ≡ AtClaiming
    pub claim : (w.rows ch).claim ≡ None
    pub filled : is_filled (slot_in (w.blobs head) slot) ≡ true
    pub next : v ≡ moved_row w ch (row_at (w.rows ch) AtIdle)

  -- a cluster is claimed for an empty slot, and its pages are to be copied
  pub record ClaimMove (w : RunState) (ch : ℕ) (v : RunState) : Type 0 where
    pub head : ℕ
    pub slot : ℕ
    pub claims : ClaimsFor w ch head slot
    pub claim : (w.rows ch).claim ≡ None
    pub blob : BlobInRun
    pub there : w.blobs head ≡ Some blob
    pub empty : slot_in (w.blobs head) slot ≡ Some false
    pub next : v ≡ moved_row w ch (record (w.rows ch) {
      stage = AtCopying z.pages;
      claim = Some (record { head = head; slot = slot; generation = blob.generation });
    })

  -- a page is copied
  pub record CopyMove (w : RunState) (ch : ℕ) (v : RunState) : Type 0 where
    pub held : ClaimInRun
    pub left : ℕ
    pub claim : (w.rows ch).claim ≡ Some held
    pub stage : (w.rows ch).stage ≡ AtCopying (suc left)
    pub next : v ≡ moved_row w ch (row_at (w.rows ch) (stage_of_copy left))

  -- instead the claim is found lost, and the write begins again, or the fill looks for its next slot
  pub record LoseMove (w : RunState) (ch : ℕ) (v : RunState) : Type 0 where
    pub held : ClaimInRun
    pub left : ℕ
    pub claim : (w.rows ch).claim ≡ Some held
    pub stage : (w.rows ch).stage ≡ AtCopying (suc left)
    pub lost : is_doomed w.blobs held ≡ true
    pub next : v ≡ moved_row w ch (unclaimed_at (w.rows ch) AtIdle)

  -- The row is posted under a serial, and a channel has the message still to send. (The metadata thread serves its own
  -- row itself.)
  pub record PostMove (w : RunState) (ch : ℕ) (v : RunState) : Type 0 where
    pub from : PostsFrom w ch
    pub serial : ℕ
    pub unsent : ℕ → Option ℕ
    pub message : ch < 16 → unsent ch ≡ Some serial
    pub no_message : 16 ≤ ch → unsent ch ≡ w.unsent ch
    pub others : (k : ℕ) → k ≢ ch → unsent k ≡ w.unsent k
    pub next : v ≡ record (moved_row w ch (row_at (w.rows ch) (AtPosted serial))) { unsent = unsent }

  -- the row takes the word of what was decided of it
  pub record SettleMove (w : RunState) (ch : ℕ) (v : RunState) : Type 0 where
    pub stage : (w.rows ch).stage ≡ AtDecided
    pub next : v ≡ moved_row w ch (unclaimed_at (w.rows ch) AtIdle)

  -- a channel without commands ends
  pub record EndMove (w : RunState) (ch : ℕ) (v : RunState) : Type 0 where
    pub left : (w.rows ch).left ≡ []
    pub stage : (w.rows ch).stage ≡ AtIdle
    pub next : v ≡ moved_row w ch (logged_row [] AtEnded)

  -- A channel's own turn logs its first command: a read, a write, a flush, a refusal, a fault, or that the store has
  -- stopped. Its claim is given back, and with a failed write or flush no blob is frozen any more.
  pub record LogMove (w : RunState) (ch : ℕ) (v : RunState) : Type 0 where
    pub command : CommandInRun
    pub commands : List CommandInRun
    pub left : (w.rows ch).left ≡ command ∷ commands
    pub stage : logs_itself (w.rows ch).stage ≡ true
    pub frozen : ℕ → Bool
    pub fewer : (h : ℕ) → frozen h ≡ true → w.frozen h ≡ true
    pub next : v ≡ record (moved_row w ch (logged_row commands AtIdle)) { frozen = frozen }

  -- the message of a row is sent, where fewer than 8 are queued
  pub record SendMove (w : RunState) (ch : ℕ) (v : RunState) : Type 0 where
    pub serial : ℕ
    pub unsent : ℕ → Option ℕ
    pub waits : w.unsent ch ≡ Some serial
    pub sent : unsent ch ≡ None
    pub others : (k : ℕ) → k ≢ ch → unsent k ≡ w.unsent k
    pub room : length w.queue < 8
    pub next : v ≡ record w { unsent = unsent; queue = w.queue ++ record { channel = ch; serial = serial } ∷ [] }

  -- the moves of a write that finds its slot empty, on a channel's row or on the metadata thread's own
  pub data RowMove (w : RunState) (ch : ℕ) (v : RunState) : Type 0 where
    by_claim : ClaimMove w ch v → RowMove w ch v
    by_copy : CopyMove w ch v → RowMove w ch v
    by_lose : LoseMove w ch v → RowMove w ch v
    by_post : PostMove w ch v → RowMove w ch v
    by_settle : SettleMove w ch v → RowMove w ch v

  -- the moves of a channel
  pub data ChannelMove (w : RunState) (ch : ℕ) (v : RunState) : Type 0 where
    by_row : RowMove w ch v → ChannelMove w ch v
    by_empty : EmptyMove w ch v → ChannelMove w ch v
    by_filled : FilledMove w ch v → ChannelMove w ch v
    by_end : EndMove w ch v → ChannelMove w ch v
    by_log : LogMove w ch v → ChannelMove w ch v
    by_send : SendMove w ch v → ChannelMove w ch v
