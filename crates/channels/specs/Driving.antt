-- The driver of a run as a store with its messages, and what it keeps.
use Rattle.std.specs.Prelude.{◌≡◌, ◌⊎◌, ℕ, ◌<◌, Option, Some, Bool, true, false, List, length, slice_get}
use Rattle.std.specs.Option.{option_and_then}
use Rattle.page_disk.specs.declared.disk.PageDisk.{Ghosts}
use Rattle.super_block.specs.declared.page.Super.{Super}
use Rattle.volume_model.specs.declared.reply.Msg.{Msg}
use Rattle.store_model.specs.Repairing.{IsRepaired}
use Rattle.store_model.specs.Rows.{Ended, Row}
use Rattle.running_store.specs.Stages.{is_stage}
use Rattle.running_store.specs.StoreView.{rows_of, state_of}
use Rattle.run_work.specs.Following.{ActorInRun}
use Rattle.run_work.specs.RunFacts.{RunFacts}
use Rattle.run_work.specs.Steps.{StepOf}
use Rattle.run_moves.specs.DrivenStore.{DrivenStore, run_of}
use Rattle.run_moves.specs.DriverSteps.{DriverStep}
use Rattle.run_moves.specs.FillTurns.{HoldsFill}
use Rattle.run_moves.specs.Sizes.{sizes_of}
use Rattle.md_thread.specs.Holding.{driven_by, MetadataState}
use Rattle.store_model.specs.Filling.{IsFilledFor}
use Rattle.store_model.specs.StoreState.{StoreState}
use Rattle.channels.specs.ChannelState.{ChannelState, starting_at}
use Rattle.channels.specs.declared.driver.Driver.{Driver}

-- the serial of the message that each channel has still to send
abbrev pub unsent_of : List ChannelState → ℕ → Option ℕ
unsent_of channels k = option_and_then (λ (c : ChannelState). c.unsent) (slice_get channels k)

-- a store with the messages on their way: those of the channels, of the queue and of the metadata thread
abbrev pub driven_of : StoreState → List ChannelState → List Msg → MetadataState → DrivenStore
driven_of p channels queue s = driven_by p s (unsent_of channels) queue

abbrev pub driven : {D : Type 0} → Ghosts D → Driver D → DrivenStore
driven d w = driven_of (state_of d w.plant.at) w.channels w.queue w.metadata

-- ---- channels

-- A channel stands at its number, and where it has ended so has its row.
pub record IsChannelOf (rows : List Row) (k : ℕ) (c : ChannelState) : Type 0 where
  pub number : c.channel ≡ k
  pub ended : c.ended ≡ true → (rows_of rows k).stage ≡ Ended

pub record AreChannelsOf (rows : List Row) (channels : List ChannelState) : Type 0 where
  pub sixteen : length channels ≡ 16
  pub each : (k : ℕ) (c : ChannelState) → slice_get channels k ≡ Some c → IsChannelOf rows k c

-- sixteen channels, each at the stage of its row, while slots are filled for the command of one of them, or of none
pub record AreStarting (filling : Option ℕ) (rows : List Row) (channels : List ChannelState) : Type 0 where
  pub sixteen : length channels ≡ 16
  pub each : (k : ℕ) → k < 16 → slice_get channels k ≡ Some (starting_at filling k (is_stage (rows_of rows k) k))

-- ---- the driver

-- The metadata thread looks into the queue anew, and fills slots for an inflate or a decouple.
pub record KeepsFill {D : Type 0} (w : Driver D) : Type 0 where
  pub looks : w.metadata.found_none ≡ false
  pub asked : (msg : Msg) → w.metadata.fill ≡ Some msg → IsFilledFor (rows_of w.plant.at.rows msg.channel)

-- so it does, or the state of the metadata thread is as it was
abbrev pub StillKeepsFill : {D : Type 0} → Driver D → Driver D → Type 0
StillKeepsFill w v = KeepsFill v ⊎ (v.metadata ≡ w.metadata)

-- What it keeps: the right is the store's, of which sixteen channels' rows and the fill's began; nothing is left to
-- repair; the store with its messages has what every state of a run has; and the fill that goes on is the one that the
-- fill's row works for.
pub record IsDriven {D : Type 0} (d : Ghosts D) (w : Driver D) : Type 0 where
  pub right : w.right ≡ w.plant.right
  pub seventeen : length w.plant.opening.rows ≡ 17
  pub channels : AreChannelsOf w.plant.at.rows w.channels
  pub repaired : IsRepaired (state_of d w.plant.at)
  pub run : RunFacts (run_of (driven d w))
  pub fill : KeepsFill w
  pub works : HoldsFill (state_of d w.plant.at) (driven d w).messages

-- it is the same store, with the same right to change it
pub record IsOfSameStore {D : Type 0} (w v : Driver D) : Type 0 where
  pub opening : v.plant.opening ≡ w.plant.opening
  pub right : v.right ≡ w.right
  pub name : v.plant.right ≡ w.plant.right

-- ---- steps

-- a step of the driver's, which is a step of the run
pub record Steps (told : Bool) (s : Super) (actor : ActorInRun) (w v : DrivenStore) : Type 0 where
  pub driver : DriverStep told actor w v
  pub run : StepOf (sizes_of s) actor (run_of w) (run_of v)
