-- The turn more_breaks_off.
use Rattle.std.specs.Prelude.{◌≡◌, None, Some, false}
use Rattle.store_model.specs.Device.{Device}
use Rattle.store_model.specs.Phases.{page_in, Replaces, Replacing}
use Rattle.store_model.specs.StoreState.{StoreState, waiting}
use Rattle.store_model.specs.Touches.{replaces, TurnKind}
use Rattle.store_model.specs.Turning.{FailsToReplace, page_of_place, Runs, stopped_now}

-- A write or a flush of a replacement failed for which no row waits, behind the commit or in a repair: the store stops,
-- nothing is logged, no job runs any more, and no blob is frozen.
pub record MoreBreaksOff (p q : StoreState) : Type 0 where
  pub replacing : Replacing
  pub running : Runs p (Replaces replacing None)
  pub waits : waiting running.job.serves running.job.todo ≡ None
  pub device : Device
  pub fails : FailsToReplace (Some (page_of_place p replacing.head)) p.device device
  pub next : q ≡ record (stopped_now p) { job = None; device = device }

abbrev pub kind : TurnKind
kind = record {
  Case = λ told p q. MoreBreaksOff p q;
  touch = λ told p q t. replaces (page_of_place p t.replacing.head)
      (page_in t.replacing.planned t.replacing.head) false;
  OfJob = Unit {0};
}
