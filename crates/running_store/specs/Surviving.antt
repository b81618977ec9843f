-- What a crash may leave of a device on which a store runs, at any moment since the store was loaded.
use Rattle.std.specs.Prelude.{ℕ, IsTrue}
use Rattle.page_disk.specs.Disk.{Image, Only}
use Rattle.page_disk.specs.declared.disk.PageDisk.{Ghosts}
use Rattle.super_block.specs.declared.page.Super.{Super}
use Rattle.volume_model.specs.Volumes.{Volumes}
use Rattle.store_model.specs.Surviving as model
use Rattle.running_store.specs.StoreView.{StoreView, state_of}
pub use Rattle.store_model.specs.Surviving.{CanBeLoaded, HoldsMetadata, OldOrNew}

-- The device tells what it holds, and has one image: what it reads.
abbrev pub HasOneImage : {D : Type 0} → Ghosts D → D → Type 0
HasOneImage d disk = IsTrue d.tells × Only (d.now disk) (d.images disk)

-- a store that began with this super block and these volumes
module _ {D : Type 0} (d : Ghosts D) (s : Super) (first : Volumes) (p : StoreView D) where
  abbrev pub StoreComesBack : ℕ → Image → Type 0
  StoreComesBack = model.ComesBack d s first (state_of d p) p.disk

  abbrev pub StoreSurvives : Type 0
  StoreSurvives = model.Survives d s first (state_of d p) p.disk
