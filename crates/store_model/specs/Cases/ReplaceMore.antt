-- The turn replaces_more.
use Rattle.std.specs.Prelude.{◌≡◌, ◌≢◌, ℕ, Bool, true, [], None}
use Rattle.store_model.specs.Device.{Device}
use Rattle.store_model.specs.Guarding.{frozen_behind}
use Rattle.store_model.specs.Phases.{page_in, Replaces, Replacing}
use Rattle.store_model.specs.StoreState.{ForInsert, going_on, StoreState}
use Rattle.store_model.specs.Touches.{replaces, TurnKind}
use Rattle.store_model.specs.Turning.{page_of_place, Runs, WritesOnePage}
use Rattle.store_model.specs.WithReplaced.{made_by, with_replaced}

-- A replacement that is no commit, of a command's job or a repair's: the head's page is replaced, by a flush, a write
-- and a flush, and the volumes are shown as they were. (That of an insert decides its row, which is another case.)
pub record ReplacesMore (told : Bool) (p q : StoreState) : Type 0 where
  pub replacing : Replacing
  pub running : Runs p (Replaces replacing None)
  pub no_insert : (channel : ℕ) → running.job.serves ≢ ForInsert channel
  pub device : Device
  pub moves : WritesOnePage told p.device (page_of_place p replacing.head)
      (page_in replacing.planned replacing.head) 3 device
  pub next : q ≡ record (with_replaced p replacing (made_by replacing)) {
    job = going_on (record running.job { claimed = [] }) [] running.rest;
    frozen = frozen_behind p.frozen running.job running.rest;
    device = device;
  }

abbrev pub kind : TurnKind
kind = record {
  Case = λ told p q. ReplacesMore told p q;
  touch = λ told p q t. replaces (page_of_place p t.replacing.head) (page_in t.replacing.planned t.replacing.head) true;
  OfJob = Unit {0};
}
