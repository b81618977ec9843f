use Rattle.std.proofs.Common.{sym, ◌∙◌, subst}
use Rattle.std.proofs.lemmas.Result.{IfOk-weaker}
use Rattle.volume_model.specs.declared.command.Command.{Command}
use Rattle.blob_meta.specs.declared.job.Job.{Job}
use Rattle.lvol_store.specs.SlotPlans.{PlansCreate}
use Rattle.lvol_store.proofs.NewNames.{named_new}
use Rattle.lvol_store.proofs.creating.create.Goals as goal

pub returns : goal.returns
returns c =
    let metas = c.args.metas.now in
    let sup = c.args.sup.now in
    let name = c.in-Create.name in
    let given = c.in-Create.uuid in
    IfOk-weaker c.make_blob.result _ (PlansCreate metas sup c.args.new c.args.command.now)
    (λ (job : Job) is. subst (λ (k : Command). PlansCreate metas sup c.args.new k job) (sym c.in-Create.is) (record {
      is_name = c.named_xattrs.ensures.name;
      xattrs = c.in_ok-xattrs.xattrs;
      named = λ f v s. sym (c.in_ok-xattrs.ensures.two f v
          ∙ named_new f v name given _ _ (c.store_uuid.ensures f v s) c.uuid_of_new-uuid.ensures);
      job_is = is;
    }))
    c.make_blob.ensures
