-- The turns of a channel that touch the device: which cases they are, and what they start from.
use Rattle.std.specs.Prelude.{None, Some, true, ◌≡◌, ℕ, List, ◌∷◌, Option, slice_get}
use Rattle.std.specs.Option.{option_and_then, option_map_or}
use Rattle.page_disk.specs.declared.disk.PageDisk.{Ghosts}
use Rattle.volume_model.specs.Refusals.{refusal}
use Rattle.volume_model.specs.Steps.{named_head, volume_at}
use Rattle.volume_model.specs.Volumes.{page_of, zero_page}
use Rattle.volume_model.specs.declared.command.Command.{Command}
use Rattle.volume_model.specs.declared.command.Command.TheVariants as c
use Rattle.volume_model.specs.declared.command.PageWord.{PageWord}
use Rattle.volume_model.specs.declared.command.VolumeRef.{VolumeRef}
use Rattle.store_model.specs.Cases.{Kind}
use Rattle.store_model.specs.Cases as kind
use Rattle.store_model.specs.Cases.WritePage.{WritesAt}
use Rattle.store_model.specs.Rows.{Claiming, Idle, Row, Stage}
use Rattle.store_model.specs.Shown.{fixed_of}
use Rattle.store_model.specs.StoreState.{shown, StoreState}
use Rattle.store_model.specs.Turning.{IsNotFrozen}
use Rattle.channel_turns.specs.declared.page_writing.WriteTurn.{WriteTurn}
use Rattle.channel_turns.specs.declared.page_writing.WriteTurn.TheVariants as write
use Rattle.running_store.specs.Steps.{gone_on}
use Rattle.running_store.specs.StoreView.{read_now, rows_of, state_of, StoreView}

-- a flush is done, or it fails; or the store had stopped
abbrev pub IsOfFlush : Kind → Type 0
IsOfFlush kind.flushes = Unit {0}
IsOfFlush kind.flush_fails = Unit {0}
IsOfFlush kind.halts = Unit {0}
IsOfFlush _ = ⊥

-- a channel whose first command is a flush, of which nothing was done
pub record WaitsToFlush {D : Type 0} (p : StoreView D) (channel : ℕ) : Type 0 where
  pub rest : List Command
  pub row : rows_of p.rows channel ≡ record { left = c.Flush ∷ rest; stage = Idle; claim = None }

-- a write of a page is refused, done, or it fails; or the store had stopped
abbrev pub IsOfWrite : Kind → Type 0
IsOfWrite kind.refuses_write = Unit {0}
IsOfWrite kind.writes_page = Unit {0}
IsOfWrite kind.fails_to_write = Unit {0}
IsOfWrite kind.halts = Unit {0}
IsOfWrite _ = ⊥

-- a channel whose first command is a write of a page at this stage, with no claim
pub record WaitsToWrite {D : Type 0} (p : StoreView D) (channel : ℕ) (stage : Stage) : Type 0 where
  pub volume : VolumeRef
  pub page : ℕ
  pub word : PageWord
  pub rest : List Command
  pub row : rows_of p.rows channel
      ≡ record { left = c.Write volume page word ∷ rest; stage = stage; claim = None }

-- a row once its write of a page has had a turn
abbrev pub row_written : WriteTurn → Row → Row
row_written write.Frozen row = row
row_written write.Empty row = record row { stage = Claiming }
row_written write.Logged row = gone_on row

-- A write of this channel's, which nothing refuses and whose slot has a cluster, puts this content to this place.
pub record WritesNow {D : Type 0} (d : Ghosts D) (p : StoreView D) (channel place : ℕ)
    (content : List ℕ) : Type 0 where
  pub at : WritesAt (state_of d p)
  pub channel_is : at.channel ≡ channel
  pub place_is : at.place ≡ place
  pub content_is : page_of at.word ≡ content

-- the blob that a command names is frozen
pub record IsFrozenFor (p : StoreState) (command : Command) : Type 0 where
  pub head : ℕ
  pub named : named_head (fixed_of p.super) (shown p) command ≡ Some head
  pub frozen : p.frozen head ≡ true

-- a read of a page is answered, refused or has failed; or the store had stopped
abbrev pub IsOfRead : Kind → Type 0
IsOfRead kind.reads = Unit {0}
IsOfRead kind.halts = Unit {0}
IsOfRead _ = ⊥

-- a channel whose first command is a read of a page, of which nothing was done
pub record WaitsToRead {D : Type 0} (p : StoreView D) (channel : ℕ) : Type 0 where
  pub volume : VolumeRef
  pub page : ℕ
  pub rest : List Command
  pub row : rows_of p.rows channel ≡ record { left = c.Read volume page ∷ rest; stage = Idle; claim = None }

-- A read of this channel's, which nothing refuses, of a page that is shown as what the device reads at this place, or
-- as zeros.
pub record ReadsNow {D : Type 0} (d : Ghosts D) (p : StoreView D) (channel : ℕ) (place : Option ℕ) : Type 0 where
  pub waits : WaitsToRead p channel
  pub runs : p.stopped ≡ None
  pub free : IsNotFrozen (state_of d p) waits.volume
  pub asked : refusal (fixed_of p.super) (shown (state_of d p)) (c.Read waits.volume waits.page) ≡ None
  pub content : option_and_then (λ x. slice_get x.pages waits.page)
      (volume_at (fixed_of p.super) (shown (state_of d p)) waits.volume)
      ≡ Some (option_map_or (read_now d p.disk) place zero_page)
