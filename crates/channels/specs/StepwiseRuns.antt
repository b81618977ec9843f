-- A run a step at a time, from one state of a store to another.
use Rattle.std.specs.Prelude.{◌≡◌, Bool, List}
use Rattle.store_model.specs.StoreState.{StoreState}
use Rattle.run_work.specs.Following.{ActorInRun}
use Rattle.run_moves.specs.DrivenStore.{driven_at_start, DrivenStore}
use Rattle.run_moves.specs.DriverSteps.{StoreFollows}

-- The steps of a schedule, and rounds until all have ended, lead from one state to the other. Whoever drives it begins
-- with the messages that the stages of the rows tell of.
pub record RunsStepwise (told : Bool) (schedule : List ActorInRun) (p q : StoreState) : Type 0 where
  pub last : DrivenStore
  pub is : last.store ≡ q
  pub follows : StoreFollows told schedule (driven_at_start p) last
