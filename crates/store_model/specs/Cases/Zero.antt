-- The turn zeroes.
use Rattle.std.specs.Prelude.{◌≡◌, ℕ, Some, Bool, false}
use Rattle.volume_model.specs.Volumes.{zero_page}
use Rattle.store_model.specs.Device.{Device}
use Rattle.store_model.specs.Phases.{Zeros}
use Rattle.store_model.specs.StoreState.{StoreState}
use Rattle.store_model.specs.Turning.{WritesOnePage, Runs}
use Rattle.store_model.specs.Touches.{TurnKind, puts}

-- A page of a claimed cluster is overwritten with zeros: one device call. Of a device that doesn't tell zeros stand for
-- all pages, before and after.
pub record Zeroes (told : Bool) (p q : StoreState) : Type 0 where
  pub page : ℕ
  pub running : Runs p (Zeros page)
  pub blank : told ≡ false → (n : ℕ) → p.device.reads n ≡ zero_page
  pub device : Device
  pub moves : WritesOnePage told p.device page zero_page 1 device
  pub next : q ≡ record p { job = Some (record running.job { todo = running.rest }); device = device }

abbrev pub kind : TurnKind
kind = record {
  Case = λ told p q. Zeroes told p q;
  touch = λ told p q t. puts t.page zero_page false;
  OfJob = Unit {0};
}
