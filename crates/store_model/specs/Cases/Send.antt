-- The turn sends.
use Rattle.std.specs.Prelude.{◌≡◌, None, Some, true}
use Rattle.store_model.specs.Cases.Flush.{IsFlushed}
use Rattle.store_model.specs.Claiming.{IsCopying}
use Rattle.store_model.specs.Device.{Device}
use Rattle.store_model.specs.Rows.{Posted, Ready, with_row}
use Rattle.store_model.specs.StoreState.{next_serial, StoreState}
use Rattle.store_model.specs.Touches.{no_new, TurnKind}

-- All pages are copied: a flush makes them lasting, and the insert is posted under the next serial.
pub record Sends (p q : StoreState) : Type 0 where
  pub copying : IsCopying p Ready
  pub runs : p.stopped ≡ None
  pub device : Device
  pub flushed : IsFlushed p.device device
  pub next : q ≡ record p {
    rows = with_row p.rows copying.row
        (record { left = copying.left; stage = Posted p.serial; claim = Some copying.claim });
    serial = next_serial p.serial;
    device = device;
  }

abbrev pub kind : TurnKind
kind = record { Case = λ told p q. Sends p q; touch = λ told p q t. no_new true; OfJob = ⊥ }
