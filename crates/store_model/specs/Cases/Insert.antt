-- The turn inserts.
use Rattle.std.specs.Prelude.{◌≡◌, [], ◌∷◌, Some, None, Bool, true}
use Rattle.blob_meta.specs.declared.meta.Meta.{Meta}
use Rattle.store_model.specs.Claiming.{IsInserting, stage_behind}
use Rattle.store_model.specs.Device.{Device}
use Rattle.store_model.specs.Maps.{with_entry}
use Rattle.store_model.specs.Phases.{page_in, Replaces, Replacing}
use Rattle.store_model.specs.Rows.{with_row}
use Rattle.store_model.specs.StoreState.{going_on, StoreState}
use Rattle.store_model.specs.Touches.{replaces, TurnKind}
use Rattle.store_model.specs.Turning.{page_of_place, Runs, WritesOnePage}

-- The head's page is replaced: the cluster stands in the slot, the row's claim has ended, and nothing is logged. Where
-- no old page is left to erase, the job is done.
pub record Inserts (told : Bool) (p q : StoreState) : Type 0 where
  pub replacing : Replacing
  pub running : Runs p (Replaces replacing None)
  pub inserting : IsInserting p running.job
  pub new : Meta
  pub new_is : replacing.new ≡ Some new
  pub device : Device
  pub moves : WritesOnePage told p.device (page_of_place p replacing.head)
      (page_in replacing.planned replacing.head) 3 device
  pub next : q ≡ record p {
    base = with_entry p.base replacing.head new;
    chains = with_entry p.chains replacing.head (replacing.head ∷ replacing.fresh);
    rows = with_row p.rows inserting.row
        (record { left = (p.rows inserting.row).left; stage = stage_behind running.rest; claim = None });
    job = going_on running.job [] running.rest;
    device = device;
  }

abbrev pub kind : TurnKind
kind = record {
  Case = λ told p q. Inserts told p q;
  touch = λ told p q t. replaces (page_of_place p t.replacing.head) (page_in t.replacing.planned t.replacing.head) true;
  OfJob = ⊥;
}
