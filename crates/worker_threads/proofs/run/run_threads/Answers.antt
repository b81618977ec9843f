use Rattle.md_thread.proofs.Leading.{leads_on}
use Rattle.worker_threads.proofs.RunsEnded.{none_without_workers, some_with_workers}
use Rattle.worker_threads.proofs.run.run_threads.Goals as goal

pub returns-then-workers-eq0-clause-none : goal.returns-then-workers-eq0-clause-none
returns-then-workers-eq0-clause-none g c =
    none_without_workers c.args.plant.at.rows _ _ c.if-workers-eq0.true c.count_workers-workers.ensures.above

pub returns-clause-leads : goal.returns-clause-leads
returns-clause-leads g c =
    leads_on g.D.PageDisk.tells _ _ _ c.run_given-joined.ensures.leads c.run_stepwise-plant-2.ensures.leads

pub returns-clause-none : goal.returns-clause-none
returns-clause-none g c =
    let counted = c.count_workers-workers.ensures in
    some_with_workers c.args.plant.at.rows _ _ _ _ c.run_stepwise-plant-2.ensures.end c.if-workers-eq0.false counted.few
    counted.last
