-- The turn marks_dirty.
use Rattle.std.specs.Prelude.{◌≡◌, ℕ, List, Some, Bool, false, true}
use Rattle.store_model.specs.Device.{Device}
use Rattle.store_model.specs.Phases.{Marks}
use Rattle.store_model.specs.Recovers.{SaysInUse}
use Rattle.store_model.specs.StoreState.{StoreState}
use Rattle.store_model.specs.Turning.{Runs, WritesOnePage}
use Rattle.store_model.specs.Touches.{replaces, TurnKind}

-- The super block is replaced by one of the same store that says that it is in use, before all else that a job does: a
-- flush, a write and a flush.
pub record MarksDirty (told : Bool) (p q : StoreState) : Type 0 where
  pub running : Runs p Marks
  pub page : List ℕ
  pub says : SaysInUse p.super page
  pub device : Device
  pub moves : WritesOnePage told p.device 0 page 3 device
  pub next : q ≡ record p {
    clean = false;
    job = Some (record running.job { todo = running.rest });
    device = device;
  }

abbrev pub kind : TurnKind
kind = record {
  Case = λ told p q. MarksDirty told p q;
  touch = λ told p q t. replaces 0 t.page true;
  OfJob = Unit {0};
}
