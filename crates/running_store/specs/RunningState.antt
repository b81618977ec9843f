-- What is known of the state of a running store, whichever store it is.
use Rattle.std.specs.Prelude.{ℕ, List}
use Rattle.super_block.specs.declared.page.Super.{Super}
use Rattle.super_block.specs.Placed.{IsPlaced}
use Rattle.volume_model.specs.Naming.{AreNamedAlike}
use Rattle.volume_model.specs.Volumes.{Volumes}
use Rattle.volume_model.specs.declared.command.Command.{Command}
use Rattle.store_model.specs.StoreState.{StoreState}
use Rattle.store_model.specs.RunInvariant.{RunInvariant}

-- Some store, its volumes at the opening and its script, of which the state has what every state has. What is read of
-- a volume's name and uuid was on the disk at the opening.
pub record IsRunning (p : StoreState) : Type 0 where
  pub store : Super
  pub first : Volumes
  pub script : ℕ → List Command
  pub placed : IsPlaced store
  pub named : AreNamedAlike first
  pub facts : RunInvariant store first script p
