use Rattle.std.proofs.Common.{subst}
use Rattle.running_store.specs.Running.{view_of}
use Rattle.running_store.specs.StoreView.{state_of}
use Rattle.job_begins.specs.Asks.{IsAskedAs}
use Rattle.job_begins.specs.declared.asking.Ask.{Ask}
use Rattle.job_begins.proofs.begin.job_asked.Goals as goal

pub deletion_job-requires-clause-asks : goal.deletion_job-requires-clause-asks
deletion_job-requires-clause-asks g c command rest left =
    subst (λ (x : Ask). IsAskedAs (state_of g.D.PageDisk (view_of c.args.running.now)) command x) c.in-Deletes.is
    (c.requires.asks command rest left)

pub snapshot_job-requires-clause-asks : goal.snapshot_job-requires-clause-asks
snapshot_job-requires-clause-asks g c command rest left =
    subst (λ (x : Ask). IsAskedAs (state_of g.D.PageDisk (view_of c.args.running.now)) command x) c.in-Snapshots.is
    (c.requires.asks command rest left)
