use Rattle.std.proofs.Common.{ap, Some, refl, sym, subst}
use Rattle.store_model.specs.Cases.BeginRepair.{BeginsRepair}
use Rattle.store_model.specs.StoreState.{JobState}
use Rattle.running_store.specs.Blobs.{blobs_of, WillBeKept}
use Rattle.running_store.specs.Jobs.{job_seen, IsHeaded}
use Rattle.running_store.specs.Running.{view_of}
use Rattle.running_store.specs.StoreView.{state_of}
use Rattle.running_store.specs.declared.job.RunningJob.{RunningJob}
use Rattle.running_store.proofs.JobLeft.{seen_with_mark}
use Rattle.running_store.proofs.OrderKept.{job_on, order_kept, room_still}
use Rattle.job_begins.proofs.RepairBegins.{lack_or_not}
use Rattle.job_begins.proofs.repairing.begin_repair.Goals as goal

pub returns-in-Ok-clause-case : goal.returns-in-Ok-clause-case
returns-in-Ok-clause-case g c =
    let d = g.D.PageDisk in
    let q = view_of c.repair_of.new.running in (
      subst (λ (j : RunningJob). BeginsRepair (state_of d (view_of c.args.running.now))
          (state_of d (record q { job = Some (job_seen j) }))) (sym c.with_mark.ensures)
          (subst (λ (j : JobState). BeginsRepair (state_of d (view_of c.args.running.now))
          (state_of d (record q { job = Some j })))
          (sym (seen_with_mark c.in-Ok.job c.in-Ok.ensures.unmarked q.clean)) c.in-Ok.ensures.begins),
      c.repair_of.ensures.disk,
    )

pub returns-in-Ok-clause-order : goal.returns-in-Ok-clause-order
returns-in-Ok-clause-order g c =
    let order = c.repair_of.ensures.order in
    let now = c.repair_of.new.running in
    order_kept g.D.PageDisk now order refl refl (room_still g.D.PageDisk now order) order.no_page order.no_cluster
    (job_on g.D.PageDisk now order (subst IsHeaded (sym c.with_mark.ensures) c.in-Ok.ensures.headed)
    (subst (WillBeKept (blobs_of now)) (sym c.with_mark.ensures) c.in-Ok.ensures.kept))

pub returns-in-Err-clause-case : goal.returns-in-Err-clause-case
returns-in-Err-clause-case g c =
    lack_or_not g.D.PageDisk (view_of c.args.running.now) (view_of c.repair_of.new.running) c.in-Some.head
    c.in-Err.turn c.in-Some.ensures.due c.in-Err.ensures.lack (ap view_of c.in-Err.ensures.same)
