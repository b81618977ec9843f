-- The turns of a channel's write of a page, by what its row waits for.
use Rattle.std.specs.Prelude.{◌≡◌, ◌≢◌, ◌⊎◌, ℕ, List}
use Rattle.page_disk.specs.declared.disk.PageDisk.{Ghosts}
use Rattle.volume_model.specs.declared.reply.Msg.{Msg}
use Rattle.store_model.specs.Cases as kind
use Rattle.store_model.specs.Rows.{Row}
use Rattle.channel_turns.specs.ChannelTurns.{IsOfWrite}
use Rattle.running_store.specs.TurnMade.{TurnMade, TurnsAs}
use Rattle.channel_turns.specs.ClaimTurns.{IsOfClaim, IsOfCopy, IsOfSend}
use Rattle.running_store.specs.StoreView.{rows_of, StoreView}
use Rattle.running_store.specs.declared.rows.RowStage.{RowStage}
use Rattle.running_store.specs.declared.rows.RowStage.TheVariants as waits

-- what the row of a write waits for where the next turn is the channel's own
abbrev pub IsAtWrite : RowStage → Type 0
IsAtWrite waits.Write = Unit {0}
IsAtWrite waits.Claim = Unit {0}
IsAtWrite (waits.Copy left) = Unit {0}
IsAtWrite waits.Ready = Unit {0}
IsAtWrite _ = ⊥

-- The turns with which a write goes on: its slot is found empty; found filled by now, or a cluster is claimed; the
-- copies are lost, or a page is copied.
abbrev pub GoesOn : {D : Type 0} → Ghosts D → RowStage → StoreView D → StoreView D → Type 0
GoesOn d waits.Write p q = TurnMade d p q kind.finds_empty
GoesOn d waits.Claim p q = TurnMade d p q kind.finds_filled ⊎ TurnMade d p q kind.claims
GoesOn d (waits.Copy left) p q = TurnMade d p q kind.loses_copy ⊎ TurnMade d p q kind.copies
GoesOn d _ p q = ⊥

-- The turns with which it is logged: refused, done in place or failed; refused a cluster; a copy or its flush failed;
-- or the store had stopped.
abbrev pub LogsWrite : {D : Type 0} → Ghosts D → RowStage → StoreView D → StoreView D → Type 0
LogsWrite d waits.Write p q = TurnsAs d IsOfWrite p q
LogsWrite d waits.Claim p q = TurnsAs d IsOfClaim p q
LogsWrite d (waits.Copy left) p q = TurnsAs d IsOfCopy p q
LogsWrite d waits.Ready p q = TurnsAs d IsOfSend p q
LogsWrite d _ p q = ⊥

-- Its insert is posted under the next number, by this message.
pub record PostsInsert {D : Type 0} (d : Ghosts D) (stage : RowStage) (p q : StoreView D) (channel : ℕ)
    (msg : Msg) : Type 0 where
  pub ready : stage ≡ waits.Ready
  pub made : TurnMade d p q kind.sends
  pub message : msg ≡ record { channel = channel; serial = p.serial }

-- the other rows are as they were
abbrev pub OthersStay : List Row → List Row → ℕ → Type 0
OthersStay old new channel = (other : ℕ) → other ≢ channel → rows_of new other ≡ rows_of old other
