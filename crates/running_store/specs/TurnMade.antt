-- What a turn is as a case, and what it does to the one device.
use Rattle.page_disk.specs.declared.disk.PageDisk.{Ghosts}
use Rattle.store_model.specs.Cases.{Kind, the, Turn}
use Rattle.store_model.specs.Touches.{DoesTouch}
use Rattle.running_store.specs.StoreView.{StoreView, state_of}

-- A turn of this kind is made, and the device is touched as it says and in no other way.
abbrev pub TurnMade : {D : Type 0} → Ghosts D → StoreView D → StoreView D → Kind → Type 0
TurnMade d p q kind = (case : Turn d.tells (state_of d p) kind (state_of d q))
    × DoesTouch d p.disk q.disk ((the kind).touch d.tells (state_of d p) (state_of d q) case)

-- A turn of one of these kinds is made.
pub record TurnsAs {D : Type 0} (d : Ghosts D) (which : Kind → Type 0) (p q : StoreView D) : Type 0 where
  pub kind : Kind
  pub is : which kind
  pub made : TurnMade d p q kind
