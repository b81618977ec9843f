-- The turn more_fails.
use Rattle.std.specs.Prelude.{◌≡◌, None, Some, true, false}
use Rattle.volume_model.specs.declared.reply.Reply.TheVariants as r
use Rattle.store_model.specs.Device.{Device}
use Rattle.store_model.specs.Phases.{has_commit, page_in, Replaces, Replacing}
use Rattle.store_model.specs.StoreState.{logged, StoreState}
use Rattle.store_model.specs.Touches.{replaces, TurnKind}
use Rattle.store_model.specs.Turning.{FailsToReplace, IsServedNow, page_of_place, Runs, stopped_now}

-- A write or a flush of a replacement before the commit failed: the store stops, the command is logged as failed, no
-- job runs any more, and no blob is frozen.
pub record MoreFails (p q : StoreState) : Type 0 where
  pub replacing : Replacing
  pub running : Runs p (Replaces replacing None)
  pub served : IsServedNow p running.job
  pub waits : has_commit running.job.todo ≡ true
  pub device : Device
  pub fails : FailsToReplace (Some (page_of_place p replacing.head)) p.device device
  pub next : q ≡ logged (record (stopped_now p) { job = None })
      served.channel served.command served.rest r.Fault device

abbrev pub kind : TurnKind
kind = record {
  Case = λ told p q. MoreFails p q;
  touch = λ told p q t. replaces (page_of_place p t.replacing.head)
      (page_in t.replacing.planned t.replacing.head) false;
  OfJob = Unit {0};
}
