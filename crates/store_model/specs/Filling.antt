-- The row on which the metadata thread fills slots of a volume, and the command that it fills them for.
use Rattle.std.specs.Prelude.{◌≡◌, ◌==◌, if◌then◌else◌, ℕ, List, [], ◌∷◌, Option, None, Some}
use Rattle.volume_model.specs.Refusals.{refusal}
use Rattle.volume_model.specs.Volumes.{head_of}
use Rattle.volume_model.specs.declared.command.Command.{Command}
use Rattle.volume_model.specs.declared.command.VolumeRef.{VolumeRef}
use Rattle.blob_meta.specs.Find.{IsLeast}
use Rattle.blob_meta.specs.Resolving.{resolved}
use Rattle.inflate_delete.specs.Fills.{command_of, is_to_fill}
use Rattle.inflate_delete.specs.declared.filling.FillKind.{FillKind}
use Rattle.store_model.specs.Rows.{Answered, Copying, Decided, fill_row, Idle, InJob, Lost, Posted, Ready, Row}
use Rattle.store_model.specs.Rows.{Stage, Won}
use Rattle.store_model.specs.Shown.{fixed_of}
use Rattle.store_model.specs.StoreState.{shown, StoreState}
use Rattle.store_model.specs.Turning.{IsPosted}

-- an inflate or a decouple, for which slots of its volume are filled
pub record AsksForFill (command : Command) : Type 0 where
  pub kind : FillKind
  pub volume : VolumeRef
  pub is : command ≡ command_of kind volume

-- the fill's row while it works for no command
abbrev pub unused_row : Row
unused_row = record { left = []; stage = Idle; claim = None }

-- for whom the fill's row works once this row waits: where it is that row, for no command any more
abbrev pub filling_behind : StoreState → ℕ → Option ℕ
filling_behind p row = if row == fill_row then None else p.filling

-- a posted inflate or decouple that nothing refuses, while no slot is being filled; with the blob, and the slot that is
-- to be filled next
pub record HasToFill (p : StoreState) : Type 0 where
  pub posted : IsPosted p
  pub runs : p.stopped ≡ None
  pub no_job : p.job ≡ None
  pub unused : p.rows fill_row ≡ unused_row
  pub asks : AsksForFill posted.command
  pub asked : refusal (fixed_of p.super) (shown p) posted.command ≡ None
  pub head : ℕ
  pub found : head_of (fixed_of p.super) (shown p) asks.volume ≡ Some head
  pub slot : ℕ
  pub least : IsLeast (is_to_fill (resolved p.base) head asks.kind) slot

-- the stages of the fill's row, while it works for no command, and while it works for one
abbrev pub StandsAt : Option ℕ → Stage → Type 0
StandsAt None Idle = Unit {0}
StandsAt None (Decided Answered) = Unit {0}
StandsAt (Some channel) (Copying left) = Unit {0}
StandsAt (Some channel) Ready = Unit {0}
StandsAt (Some channel) (Posted serial) = Unit {0}
StandsAt (Some channel) InJob = Unit {0}
StandsAt (Some channel) (Decided Won) = Unit {0}
StandsAt (Some channel) (Decided Lost) = Unit {0}
StandsAt _ _ = ⊥

-- a row whose command slots are filled for: it is posted all the while
pub record IsFilledFor (row : Row) : Type 0 where
  pub serial : ℕ
  pub command : Command
  pub rest : List Command
  pub is : row ≡ record { left = command ∷ rest; stage = Posted serial; claim = None }
  pub asks : AsksForFill command

-- What is known of the fill's row in each state of a run.
pub record FillStands (p : StoreState) : Type 0 where
  pub left : (p.rows fill_row).left ≡ []
  pub stage : StandsAt p.filling (p.rows fill_row).stage
  pub filled : (channel : ℕ) → p.filling ≡ Some channel → IsFilledFor (p.rows channel)
