-- The turns that the fill's row alone has: its claim, and its end.
use Rattle.std.specs.Prelude.{◌≡◌, ℕ, None, Some, List}
use Rattle.page_disk.specs.declared.disk.PageDisk.{Ghosts}
use Rattle.volume_model.specs.Refusals.{refusal}
use Rattle.volume_model.specs.Volumes.{head_of}
use Rattle.volume_model.specs.declared.command.Command.{Command}
use Rattle.volume_model.specs.declared.command.VolumeRef.{VolumeRef}
use Rattle.blob_meta.specs.Find.{IsLeast}
use Rattle.blob_meta.specs.Resolving.{resolved}
use Rattle.inflate_delete.specs.Fills.{command_of, is_to_fill}
use Rattle.inflate_delete.specs.declared.filling.FillKind.{FillKind}
use Rattle.store_model.specs.Cases as kind
use Rattle.store_model.specs.Filling.{AsksForFill}
use Rattle.store_model.specs.Rows.{Copying, fill_row, Row}
use Rattle.store_model.specs.Shown.{fixed_of}
use Rattle.store_model.specs.StoreState.{shown, StoreState}
use Rattle.channel_turns.specs.declared.claiming.ClaimTurn.{ClaimTurn}
use Rattle.channel_turns.specs.declared.claiming.ClaimTurn.TheVariants as claim
use Rattle.running_store.specs.Steps.{decided, OnlyRow}
use Rattle.running_store.specs.StoreView.{rows_of, StoreView}
use Rattle.running_store.specs.TurnMade.{TurnMade}

-- The slot is the one that is to be filled next for the command, which nothing refuses, of the blob that it means.
pub record IsNextToFill (p : StoreState) (command : Command) (slot : ℕ) : Type 0 where
  pub asks : AsksForFill command
  pub asked : refusal (fixed_of p.super) (shown p) command ≡ None
  pub head : ℕ
  pub found : head_of (fixed_of p.super) (shown p) asks.volume ≡ Some head
  pub least : IsLeast (is_to_fill (resolved p.base) head asks.kind) slot

-- the command fills slots of this volume
pub record FillsOf (command : Command) (volume : VolumeRef) : Type 0 where
  pub kind : FillKind
  pub is : command ≡ command_of kind volume

-- a cluster is claimed for the slot, or none is clear
abbrev pub ClaimsFillOrNot : {D : Type 0} → Ghosts D → StoreView D → StoreView D → ClaimTurn → Type 0
ClaimsFillOrNot d p q claim.Claimed = TurnMade d p q kind.claims_fill
ClaimsFillOrNot d p q claim.Logged = TurnMade d p q kind.lacks_for_fill
ClaimsFillOrNot d p q _ = ⊥

-- the rows then: the fill's holds the claim, with so many pages to copy, or the channel is to be told
abbrev pub RowsFilling : ClaimTurn → ℕ → List Row → List Row → ℕ → Type 0
RowsFilling claim.Claimed pages old new channel = OnlyRow old new fill_row
    (record (rows_of old fill_row) { stage = Copying pages; claim = (rows_of new fill_row).claim })
RowsFilling claim.Logged pages old new channel = OnlyRow old new channel (decided (rows_of old channel))
RowsFilling _ pages old new channel = ⊥
