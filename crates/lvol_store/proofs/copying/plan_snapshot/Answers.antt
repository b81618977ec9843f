use Rattle.std.proofs.Common.{None, sym, ◌∙◌, subst}
use Rattle.std.proofs.lemmas.Result.{IfOk-weaker}
use Rattle.volume_model.specs.declared.command.Command.{Command}
use Rattle.blob_meta.specs.declared.job.Job.{Job}
use Rattle.snapshots.specs.SnapshotPlans.{PlansSnapshot}
use Rattle.lvol_store.specs.CopyPlans.{SnapshotsAsAsked}
use Rattle.lvol_store.proofs.NewNames.{named_new}
use Rattle.lvol_store.proofs.copying.plan_snapshot.Goals as goal

pub returns-clause-job : goal.returns-clause-job
returns-clause-job c =
    let metas = c.args.metas.now in
    let sup = c.args.sup.now in
    let head = c.in-Some.head in
    let name = c.in-Snapshot.name in
    IfOk-weaker c.plan_snapshot.result (PlansSnapshot metas head c.args.new name c.uuid_of_new-uuid.result)
    (SnapshotsAsAsked metas sup c.args.new c.args.command.now)
    (λ (job : Job) plan. subst (λ (k : Command). SnapshotsAsAsked metas sup c.args.new k job)
    (sym c.in-Snapshot.is) (record {
      of = head;
      old = plan.old;
      meant = c.in-Some.ensures.meant;
      there = plan.there;
      is_name = plan.is_name;
      xattrs = plan.xattrs;
      named = λ f v s. sym (named_new f v name None _ _ (c.store_uuid.ensures f v s) c.uuid_of_new-uuid.ensures)
          ∙ plan.named f v;
      job_is = plan.job_is;
    }))
    c.plan_snapshot.ensures.job
