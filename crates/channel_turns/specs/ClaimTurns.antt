-- The turns of a write that has found its slot empty: which cases they are, and what they start from.
use Rattle.std.specs.Prelude.{None, Some, true, ◌≡◌, ℕ, suc, ◌+◌, ◌/◌, ◌≤◌, List, Option, slice_set}
use Rattle.std.specs.Option.{option_map_or}
use Rattle.std.specs.FinMap as map
use Rattle.bit_array.specs.Bits.{IsLeastClear}
use Rattle.page_disk.specs.declared.disk.PageDisk.{Ghosts}
use Rattle.super_block.specs.Numbers.{cluster_pages_of}
use Rattle.volume_model.specs.declared.command.Command.{Command}
use Rattle.store_model.specs.Cases.{Kind}
use Rattle.store_model.specs.Cases as kind
use Rattle.volume_model.specs.Volumes.{zero_page}
use Rattle.store_model.specs.Cases.Copy.{stage_left}
use Rattle.store_model.specs.Copying.{IsUpToDate, page_of_claim, shown_in_slot}
use Rattle.store_model.specs.Claiming.{IsWriting, MeansSlot, refused_by, Works}
use Rattle.store_model.specs.Rows.{Answered, Claiming, Copying, Decision, Idle, Lost, OpenClaim, Posted}
use Rattle.store_model.specs.Rows.{Row, Stage, Won}
use Rattle.store_model.specs.StoreState.{next_serial}
use Rattle.channel_turns.specs.declared.claiming.ClaimTurn.{ClaimTurn}
use Rattle.channel_turns.specs.declared.claiming.ClaimTurn.TheVariants as claim
use Rattle.channel_turns.specs.declared.settling.SettleTurn.{SettleTurn}
use Rattle.channel_turns.specs.declared.settling.SettleTurn.TheVariants as settle
use Rattle.channel_turns.specs.declared.copying.CopyTurn.{CopyTurn}
use Rattle.channel_turns.specs.declared.copying.CopyTurn.TheVariants as copy
use Rattle.channel_turns.specs.declared.sending.SendTurn.{SendTurn}
use Rattle.channel_turns.specs.declared.sending.SendTurn.TheVariants as send
use Rattle.channel_turns.specs.ChannelTurns.{WaitsToWrite}
use Rattle.running_store.specs.GivingBack.{HasGivenUp}
use Rattle.running_store.specs.Steps.{gone_on, OnlyRow}
use Rattle.running_store.specs.StoreView.{read_now, rows_of, state_of, StoreView}

-- ---- rows

-- a row is posted under the next number
abbrev pub row_posted : {D : Type 0} → StoreView D → ℕ → StoreView D
row_posted p row = record p {
  rows = slice_set p.rows row (record (rows_of p.rows row) { stage = Posted p.serial });
  serial = next_serial p.serial;
}

-- ---- a claim

-- by then the write is refused, or no cluster is clear; or the store had stopped
abbrev pub IsOfClaim : Kind → Type 0
IsOfClaim kind.refuses_claim = Unit {0}
IsOfClaim kind.halts = Unit {0}
IsOfClaim _ = ⊥

-- a row once it was to claim a cluster of so many pages, with the claim that it has now
abbrev pub row_claimed : ClaimTurn → ℕ → Option OpenClaim → Row → Row
row_claimed claim.Frozen pages held row = row
row_claimed claim.Filled pages held row = record row { stage = Idle }
row_claimed claim.Logged pages held row = gone_on row
row_claimed claim.Claimed pages held row = record row { stage = Copying pages; claim = held }

-- a channel's write that has found its slot empty, as one of the state
abbrev pub writing_state : {D : Type 0} (d : Ghosts D) (p : StoreView D) (channel : ℕ) (stage : Stage)
    → WaitsToWrite p channel stage → IsWriting (state_of d p) stage None
writing_state d p channel stage w = record {
  channel = channel;
  volume = w.volume;
  page = w.page;
  word = w.word;
  rest = w.rest;
  row = w.row;
}

-- A write of this channel's, which nothing refuses, means an empty slot of the blob at a head, of this generation.
pub record ClaimsNow {D : Type 0} (d : Ghosts D) (p : StoreView D) (channel head slot : ℕ) : Type 0 where
  pub waits : WaitsToWrite p channel Claiming
  pub runs : p.stopped ≡ None
  pub asked : refused_by (state_of d p) (writing_state d p channel Claiming waits) ≡ None
  pub means : MeansSlot (state_of d p) (writing_state d p channel Claiming waits) None
  pub head_is : means.head ≡ head
  pub slot_is : waits.page / cluster_pages_of p.super ≡ slot
  pub generation : ℕ
  pub drawn : map.get p.guards.generations head ≡ Some generation

-- A row holds a claim on the least clear cluster, for a slot of the blob at a head, with its generation, and all its
-- pages are to be copied.
pub record HoldsLeast {D : Type 0} (p q : StoreView D) (row head slot : ℕ) : Type 0 where
  pub cluster : ℕ
  pub least : IsLeastClear p.clusters cluster
  pub generation : ℕ
  pub drawn : map.get p.guards.generations head ≡ Some generation
  pub next : q ≡ record p {
    rows = slice_set p.rows row (record (rows_of p.rows row) {
      stage = Copying (cluster_pages_of p.super);
      claim = Some (record { cluster = cluster; head = head; slot = slot; generation = generation });
    });
    clusters = slice_set p.clusters cluster true;
  }

-- ---- a copy

-- A row that works for a command at this stage, with a claim.
pub record HoldsClaim {D : Type 0} (d : Ghosts D) (p : StoreView D) (row : ℕ) (stage : Stage) : Type 0 where
  pub left : List Command
  pub claim : OpenClaim
  pub is : rows_of p.rows row ≡ record { left = left; stage = stage; claim = Some claim }
  pub works : Works (state_of d p) row

-- a copy could not be read or written; or the store had stopped
abbrev pub IsOfCopy : Kind → Type 0
IsOfCopy kind.copy_not_read = Unit {0}
IsOfCopy kind.copy_fails = Unit {0}
IsOfCopy kind.halts = Unit {0}
IsOfCopy kind.halts_fill = Unit {0}
IsOfCopy _ = ⊥

-- the rows once a page was to be copied for one of them, where the fill's row worked for this channel
abbrev pub RowsCopied : CopyTurn → Option ℕ → List Row → List Row → ℕ → Type 0
RowsCopied copy.Lost filling old new row =
    OnlyRow old new row (record (rows_of old row) { stage = Idle; claim = None })
RowsCopied (copy.Copied left) filling old new row =
    OnlyRow old new row (record (rows_of old row) { stage = stage_left left })
RowsCopied copy.Logged filling old new row = HasGivenUp filling old new row Idle

-- A row whose claim has pages to copy.
pub record WaitsToCopy {D : Type 0} (d : Ghosts D) (p : StoreView D) (row : ℕ) : Type 0 where
  pub left : ℕ
  pub holds : HoldsClaim d p row (Copying (suc left))
  pub few : suc left ≤ cluster_pages_of p.super

-- A row's next page to copy, of a claim that is up to date, is what the device reads at one place, or zeros, and is to
-- be written to another, so that so many are left.
pub record CopiesNow {D : Type 0} (d : Ghosts D) (p : StoreView D) (row : ℕ) (from : Option ℕ)
    (to left : ℕ) : Type 0 where
  pub holds : HoldsClaim d p row (Copying (suc left))
  pub runs : p.stopped ≡ None
  pub current : IsUpToDate (state_of d p) holds.claim
  pub page : ℕ
  pub is_next : page + suc left ≡ cluster_pages_of p.super
  pub content : shown_in_slot (state_of d p) holds.claim page ≡ option_map_or (read_now d p.disk) from zero_page
  pub to_is : page_of_claim (state_of d p) holds.claim page ≡ to

-- ---- an insert that is posted

-- the flush of the copies failed; or the store had stopped
abbrev pub IsOfSend : Kind → Type 0
IsOfSend kind.copy_fails = Unit {0}
IsOfSend kind.halts = Unit {0}
IsOfSend kind.halts_fill = Unit {0}
IsOfSend _ = ⊥

-- the rows once the insert of one of them was to be posted
abbrev pub RowsSent : SendTurn → Option ℕ → List Row → List Row → ℕ → Type 0
RowsSent (send.Post msg) filling old new row =
    OnlyRow old new row (record (rows_of old row) { stage = Posted msg.serial })
RowsSent send.Logged filling old new row = HasGivenUp filling old new row Idle

-- ---- what a channel is told

-- the answer for a decision
abbrev pub told_as : Decision → SettleTurn
told_as Answered = settle.Logged
told_as Won = settle.Won
told_as Lost = settle.Lost
