use Rattle.std.proofs.Common.{sym}
use Rattle.std.proofs.lemmas.Result.{IfOk-weaker}
use Rattle.blob_meta.specs.declared.job.Job.{Job}
use Rattle.snapshots.specs.SnapshotPlans.{PlansSnapshot}
use Rattle.snapshots.proofs.snapshotting.snapshot.Goals as goal

pub returns : goal.returns
returns c =
    IfOk-weaker c.snapshot_job.result _
    (PlansSnapshot c.args.metas.now c.args.volume c.args.head c.args.name.now c.args.uuid)
    (λ (job : Job) is. record {
      old = c.args.old.now;
      there = c.requires;
      is_name = c.named_xattrs.ensures.name;
      xattrs = c.in_ok-xattrs.xattrs;
      named = λ f v. sym (c.in_ok-xattrs.ensures.two f v);
      job_is = is;
    })
    c.snapshot_job.ensures
