-- The turn insert_ends.
use Rattle.std.specs.Prelude.{◌≡◌, ℕ, List, [], None, Bool, true, false}
use Rattle.volume_model.specs.Volumes.{zero_page}
use Rattle.store_model.specs.Claiming.{IsInserting}
use Rattle.store_model.specs.Device.{Device}
use Rattle.store_model.specs.Phases.{Frees as Frees_}
use Rattle.store_model.specs.Places.{all_set}
use Rattle.store_model.specs.Rows.{Decided, with_row, Won}
use Rattle.store_model.specs.StoreState.{StoreState}
use Rattle.store_model.specs.Touches.{puts, TurnKind}
use Rattle.store_model.specs.Turning.{page_of_place, Runs, WritesOnePage}

-- With the last turn of its job the row is decided as won.
pub record InsertEnds (told : Bool) (p q : StoreState) : Type 0 where
  pub place : ℕ
  pub old : List ℕ
  pub running : Runs p (Frees_ place old)
  pub last : running.rest ≡ []
  pub inserting : IsInserting p running.job
  pub device : Device
  pub moves : WritesOnePage told p.device (page_of_place p place) zero_page 2 device
  pub next : q ≡ record p {
    rows = with_row p.rows inserting.row
        (record { left = (p.rows inserting.row).left; stage = Decided Won; claim = None });
    job = None;
    pages = all_set p.pages old false;
    device = device;
  }

abbrev pub kind : TurnKind
kind = record {
  Case = λ told p q. InsertEnds told p q;
  touch = λ told p q t. puts (page_of_place p t.place) zero_page true;
  OfJob = ⊥;
}
