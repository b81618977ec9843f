-- The laws of a driver's steps: each is a step of the run.
use Rattle.std.specs.Prelude.{◌≡◌, ℕ, ◌<◌, ◌≤◌, Bool, true, List, []}
use Rattle.super_block.specs.Numbers.{cluster_pages_of}
use Rattle.super_block.specs.declared.page.Super.{Super}
use Rattle.volume_model.specs.Volumes.{Volumes}
use Rattle.volume_model.specs.declared.command.Command.{Command}
use Rattle.store_model.specs.Cases.{Kind, Run}
use Rattle.store_model.specs.Filling.{FillStands}
use Rattle.store_model.specs.RunInvariant.{RunInvariant}
use Rattle.store_model.specs.StoreState.{Opens, StoreState}
use Rattle.run_work.specs.Following.{ActorInRun}
use Rattle.run_work.specs.RunFacts.{RunFacts}
use Rattle.run_work.specs.Steps.{can_channel, StepOf}
use Rattle.run_moves.specs.DrivenStore.{driven_at_start, DrivenStore, run_of}
use Rattle.run_moves.specs.DriverSteps.{ChannelTurn, driven_at_turn, DriverStep, PostingTurn}
use Rattle.run_moves.specs.FillTurns.{HoldsFill}
use Rattle.run_moves.specs.PlainRows.{HasPlainRows}
use Rattle.run_moves.specs.Projection.{RunMessages, run_state_of}
use Rattle.run_moves.specs.Sizes.{sizes_of}

-- whatever turns were made of a store, from its opening on, rows with a claim and those of inserts have a write first
abbrev pub PlainRowLaws : Type 0
PlainRowLaws = (told : Bool) (kinds : List Kind) (p q : StoreState) → Opens p → Run told p kinds q → HasPlainRows q

-- the rows of the channels alone have commands
abbrev pub IsOfChannels : (ℕ → List Command) → Type 0
IsOfChannels script = (row : ℕ) → 16 ≤ row → script row ≡ []

module _ (s : Super) (first : Volumes) (script : ℕ → List Command) where
  -- of a store with what every state of a run has
  pub record DriverLawsOf : Type 0 where
    -- a driver can start on it, at whatever stages its rows are, and has the command that the fill's row works for
    pub start : (p : StoreState) → IsOfChannels script → RunInvariant s first script p → FillStands p
        → RunFacts (run_of (driven_at_start p))
    pub start_fill : (p : StoreState) → FillStands p → HoldsFill p (driven_at_start p).messages
    -- where a channel makes a turn, it can move
    pub turn_can : (told : Bool) (p q : StoreState) (d : RunMessages) (channel : ℕ) → RunInvariant s first script p
        → channel < 16 → ChannelTurn told p q channel → can_channel (run_state_of p d) channel ≡ true
    pub posting_can : (told : Bool) (p q : StoreState) (d : RunMessages) (channel : ℕ) → RunInvariant s first script p
        → channel < 16 → PostingTurn told p q channel → can_channel (run_state_of p d) channel ≡ true
    -- a step of the driver's is one of the run
    pub step : (told : Bool) (actor : ActorInRun) (w v : DrivenStore) → 0 < cluster_pages_of s → IsOfChannels script
        → RunInvariant s first script w.store → RunInvariant s first script v.store → HasPlainRows w.store
        → FillStands w.store → HoldsFill w.store w.messages → RunFacts (run_of w) → DriverStep told actor w v
        → StepOf (sizes_of s) actor (run_of w) (run_of v)
    -- and leaves the driver with the command that the fill's row works for, as does that a command comes to wait
    pub turn_fill : (w : DrivenStore) → FillStands w.store → HoldsFill w.store w.messages
        → HoldsFill w.store (driven_at_turn w).messages
    pub fill : (told : Bool) (actor : ActorInRun) (w v : DrivenStore) → FillStands w.store
        → HoldsFill w.store w.messages → DriverStep told actor w v → HoldsFill v.store v.messages

abbrev pub DriverLaws : Type 0
DriverLaws = (s : Super) (first : Volumes) (script : ℕ → List Command) → DriverLawsOf s first script
