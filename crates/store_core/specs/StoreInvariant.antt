-- What the type of a running store keeps.
use Rattle.std.specs.Prelude.{◌≡◌, ℕ, List}
use Rattle.std.specs.FinMap as map
use Rattle.page_disk.specs.declared.disk.PageDisk.{Ghosts}
use Rattle.super_block.specs.Faults.{IsFaultless}
use Rattle.super_block.specs.Placed.{IsPlaced}
use Rattle.volume_model.specs.Naming.{AreNamedAlike}
use Rattle.volume_model.specs.declared.command.Command.{Command}
use Rattle.store_model.specs.StoreState.{Opens, shown}
use Rattle.store_model.specs.Cases.{Kind, Run}
use Rattle.store_model.specs.RunInvariant.{RunInvariant}
use Rattle.super_block.specs.Page.{super_of}
use Rattle.clean_images.specs.CleanImages.{CleanImages}
use Rattle.running_store.specs.StoreView.{base_of, StoreView, WithOpening, rows_of, state_of}
use Rattle.running_store.specs.Surviving.{HasOneImage, HoldsMetadata, StoreSurvives}

-- the script with which a store began
abbrev pub opening_script : {D : Type 0} → StoreView D → ℕ → List Command
opening_script p channel = (rows_of p.rows channel).left

-- A store as it opens: its device tells what it holds and has one image, which has the store's super block and says the
-- metadata that the store has in memory.
pub record OpensAsRead {D : Type 0} (d : Ghosts D) (p : StoreView D) : Type 0 where
  pub one : HasOneImage d p.disk
  pub super : p.super ≡ super_of (d.now p.disk 0) p.super.device_pages
  pub holds : HoldsMetadata p.super (base_of p.metas p.marked) (map.get p.chains) (d.now p.disk)

-- It began with nothing logged, on a super block without fault, and with each volume's name and uuid on the disk as
-- they are read; turns led from there to here, and both states have what every state of a run has; and where it was
-- read as its one image says, power may fail at any moment, and as long as the store is clean leaves the fixed clusters
-- as they were.
pub record StoreInvariant {D : Type 0} (d : Ghosts D) (p : WithOpening D) : Type 0 where
  pub began : Opens (state_of d p.opening)
  pub faultless : IsFaultless p.opening.super
  pub first_facts : RunInvariant p.opening.super (shown (state_of d p.opening)) (opening_script p.opening)
      (state_of d p.opening)
  pub run : (kinds : List Kind) × Run d.tells (state_of d p.opening) kinds (state_of d p.at)
  pub facts : RunInvariant p.opening.super (shown (state_of d p.opening)) (opening_script p.opening) (state_of d p.at)
  pub placed : IsPlaced p.opening.super
  pub named : AreNamedAlike (shown (state_of d p.opening))
  pub survives : OpensAsRead d p.opening → StoreSurvives d p.opening.super (shown (state_of d p.opening)) p.at
  -- the device has as many pages as it had
  pub pages : d.pages p.at.disk ≡ d.pages p.opening.disk
  pub images : OpensAsRead d p.opening
      → CleanImages d p.opening.super (d.now p.opening.disk) (state_of d p.at) p.at.disk
