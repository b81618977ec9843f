use Rattle.std.proofs.Common.{None, sym, ◌∙◌, subst}
use Rattle.std.proofs.lemmas.Result.{IfOk-weaker}
use Rattle.volume_model.specs.declared.command.Command.{Command}
use Rattle.blob_meta.specs.declared.job.Job.{Job}
use Rattle.snapshots.specs.SnapshotPlans.{PlansClone}
use Rattle.lvol_store.specs.CopyPlans.{ClonesAsAsked}
use Rattle.lvol_store.proofs.NewNames.{named_new}
use Rattle.lvol_store.proofs.copying.plan_clone.Goals as goal

pub returns-clause-job : goal.returns-clause-job
returns-clause-job c =
    let metas = c.args.metas.now in
    let sup = c.args.sup.now in
    let head = c.in-Some.head in
    let name = c.in-Clone.name in
    IfOk-weaker c.plan_clone.result (PlansClone metas head c.args.new name c.uuid_of_new-uuid.result)
    (ClonesAsAsked metas sup c.args.new c.args.command.now)
    (λ (job : Job) plan. subst (λ (k : Command). ClonesAsAsked metas sup c.args.new k job) (sym c.in-Clone.is) (record {
      of = head;
      old = plan.old;
      meant = c.in-Some.ensures.meant;
      there = plan.there;
      is_name = plan.is_name;
      xattrs = plan.xattrs;
      named = λ f v s. sym (named_new f v name None _ _ (c.store_uuid.ensures f v s) c.uuid_of_new-uuid.ensures)
          ∙ plan.named f v;
      job_is = plan.job_is;
    }))
    c.plan_clone.ensures.job
