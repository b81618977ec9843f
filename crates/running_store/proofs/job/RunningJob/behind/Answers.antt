use Rattle.std.proofs.Common.{arith}
use Rattle.running_store.specs.Jobs.{phases_in}
use Rattle.running_store.proofs.JobLeft.{left_erasing}
use Rattle.running_store.proofs.job.RunningJob.behind.Goals as goal

pub returns-clause-seen : goal.returns-clause-seen
returns-clause-seen c =
    let len = c.len.ensures in
    let some = c.if-len-eq0.false in
    left_erasing c.args.serves c.args.old (phases_in c.args.later.items) (omega (arith, len, some))
