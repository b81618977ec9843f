-- The laws of runs: every move lowers the work, what every state has is kept, some actor can move, and rounds end.
use Rattle.std.specs.Prelude.{◌≡◌, ◌⊎◌, ℕ, ◌+◌, ◌<◌, ◌≤◌, Option, Some, None, true, false, List, ◌∷◌}
use Rattle.volume_model.specs.declared.reply.Msg.{Msg}
use Rattle.run_work.specs.RunState.{AtInJob, AtPosted, JobInRun, RunSizes, RunState}
use Rattle.run_work.specs.Reading.{has_any, is_in_use}
use Rattle.run_work.specs.Work.{work}
use Rattle.run_work.specs.ChannelMoves.{ChannelMove}
use Rattle.run_work.specs.ServingMoves.{WaitsInJob}
use Rattle.run_work.specs.Following.{ActorInRun}
use Rattle.run_work.specs.Following as following
use Rattle.run_work.specs.Steps.{all_ended, at_turn, can_channel, can_metadata, can_move, CloseStep, due_in, FillStep}
use Rattle.run_work.specs.Steps.{has_ended, JobStep, MessageStep, MetadataMove, RunFollows, StepOf, TakeStep}
use Rattle.run_work.specs.RunFacts.{at_start, IsOnTheWay, RunFacts}

-- with a row for each channel and one for the metadata thread
pub record WorkLaws : Type 0 where
  -- every move lowers the work, and that a command comes to wait does not raise it
  pub channel : (z : RunSizes) (w v : RunState) (ch : ℕ) → 16 < z.rows → ch < 16 → ChannelMove z w ch v
      → work z v < work z w
  pub metadata : (z : RunSizes) (w v : RunState) → 16 < z.rows → MetadataMove z w v → work z v < work z w
  pub turn : (z : RunSizes) (w : RunState) → work z (at_turn w) ≤ work z w
  -- a step lowers it, or its actor can't move and nothing changes
  pub step : (z : RunSizes) (actor : ActorInRun) (w v : RunState) → 16 < z.rows → StepOf z actor w v
      → (work z v < work z w) ⊎ ((can_move w actor ≡ false) × (v ≡ w))

pub record FactLaws : Type 0 where
  -- A driver can start on a store at whatever stages its rows are, if a row in the job waits for it, a frozen blob is
  -- the job's, and what is held is the message of a channel's row that is posted under its serial.
  pub start : (w : RunState) (held : Option Msg)
      → ((m : Msg) → held ≡ Some m → (m.channel < 16) × ((w.rows m.channel).stage ≡ AtPosted m.serial))
      → ((h : ℕ) → w.frozen h ≡ true → (job : JobInRun) × (w.job ≡ Some job) × (job.freeze ≡ Some h))
      → ((ch : ℕ) → (w.rows ch).stage ≡ AtInJob → WaitsInJob w ch) → RunFacts (at_start w held)
  -- every move keeps the facts
  pub channel : (z : RunSizes) (w v : RunState) (ch : ℕ) → RunFacts w → ChannelMove z w ch v → RunFacts v
  pub metadata : (z : RunSizes) (w v : RunState) → RunFacts w → MetadataMove z w v → RunFacts v
  pub turn : (w : RunState) → RunFacts w → RunFacts (at_turn w)
  pub step : (z : RunSizes) (actor : ActorInRun) (w v : RunState) → RunFacts w → StepOf z actor w v → RunFacts v
  -- no message is stale: the row of one that is on its way is a channel's, and is posted under its serial
  pub posted : (w : RunState) (m : Msg) → RunFacts w → IsOnTheWay w m
      → (m.channel < 16) × ((w.rows m.channel).stage ≡ AtPosted m.serial)

-- What stands where a step of the metadata thread is due that can move.
pub record DueLaws : Type 0 where
  pub job : (w : RunState) → due_in w ≡ JobStep → (job : JobInRun) × (w.job ≡ Some job)
  pub close : (w : RunState) → due_in w ≡ CloseStep
      → (w.job ≡ None) × (w.fill ≡ None) × (is_in_use (w.rows 16).stage ≡ true)
  pub fill : (w : RunState) → due_in w ≡ FillStep
      → (w.job ≡ None) × (w.held ≡ None) × ((m : Msg) × (w.fill ≡ Some m))
  pub take : (w : RunState) → can_metadata w ≡ true → due_in w ≡ TakeStep
      → (w.job ≡ None) × (w.held ≡ None) × (has_any w.queue ≡ true)
  pub message : (w : RunState) (m : Msg) → due_in w ≡ MessageStep m
      → (w.job ≡ None) × ((w.held ≡ Some m) ⊎ ((rest : List Msg) × (w.held ≡ None) × (w.waiting ≡ m ∷ rest)))

pub record ProgressLaws : Type 0 where
  -- where the metadata thread can't move, every channel that hasn't ended can
  pub channel : (w : RunState) (ch : ℕ) → RunFacts w → can_metadata w ≡ false → ch < 16
      → has_ended (w.rows ch).stage ≡ false → can_channel w ch ≡ true
  -- so some actor can move unless all have ended, and then none can
  pub some : (w : RunState) → RunFacts w → all_ended w ≡ false → (actor : ActorInRun) × (can_move w actor ≡ true)
  pub none : (w : RunState) (actor : ActorInRun) → all_ended w ≡ true → can_move w actor ≡ false

pub record EndLaws : Type 0 where
  -- a round lowers the work unless all have ended, so that there are no more rounds than there is work
  pub round : (z : RunSizes) (w v : RunState) → 16 < z.rows → RunFacts w → all_ended w ≡ false
      → following.Round (StepOf z) all_ended w v → work z v < work z w
  pub rounds : (z : RunSizes) (count : ℕ) (w v : RunState) → 16 < z.rows → RunFacts w
      → following.Rounds (StepOf z) all_ended count w v → count + work z v ≤ work z w
  -- nor does a schedule raise it; so a run that follows one has no more rounds than there was work
  pub follows : (z : RunSizes) (schedule : List ActorInRun) (w v : RunState) → 16 < z.rows → RunFacts w
      → (run : RunFollows z schedule w v) → (run.count + work z v ≤ work z w) × RunFacts v
