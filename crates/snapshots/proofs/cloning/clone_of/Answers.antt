use Rattle.std.proofs.Common.{sym, ap, ◌∙◌}
use Rattle.std.proofs.lemmas.Result.{IfOk-weaker}
use Rattle.blob_meta.specs.declared.job.Job.{Job}
use Rattle.blob_meta.specs.Jobs.{job_of_one}
use Rattle.snapshots.specs.SnapshotPlans.{PlansClone}
use Rattle.snapshots.proofs.cloning.clone_of.Goals as goal

pub returns : goal.returns
returns c =
    IfOk-weaker c.of_one.result _
    (PlansClone c.args.metas.now c.args.volume c.args.head c.args.name.now c.args.uuid)
    (λ (job : Job) is. record {
      old = c.args.old.now;
      there = c.requires;
      is_name = c.named_xattrs.ensures.name;
      xattrs = c.in_ok-xattrs.xattrs;
      named = λ f v. sym (c.in_ok-xattrs.ensures.two f v);
      job_is = is ∙ ap (job_of_one c.args.head) c.in_ok-new.ensures;
    })
    c.of_one.ensures
