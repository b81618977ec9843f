use Rattle.md_thread.proofs.Planned.{is_running}
use Rattle.md_thread.proofs.PlannedFills.{fill_plan, fill_refused}
use Rattle.md_thread.proofs.tasks.planned_fill.Goals as goal

pub returns-clause-plan : goal.returns-clause-plan
returns-clause-plan g c =
    let d = g.D.PageDisk in
    fill_plan d c.plans.ensures c.args.plant.now.at (is_running d c.args.plant.now c.keeps.ensures) c.requires.runs
    c.resolves.ensures c.requires.unmarked c.metas.result.now c.sup.result.now c.metas.ensures c.sup.ensures
    c.args.command.now c.plan_fill.result c.plan_fill.ensures.plan c.plan_fill.ensures.unrefused

pub returns-clause-refused : goal.returns-clause-refused
returns-clause-refused g c =
    let d = g.D.PageDisk in
    fill_refused d c.plans.ensures c.args.plant.now.at (is_running d c.args.plant.now c.keeps.ensures) c.requires.runs
    c.resolves.ensures c.requires.unmarked c.metas.result.now c.sup.result.now c.metas.ensures c.sup.ensures
    c.args.command.now c.requires.fill c.plan_fill.result c.plan_fill.ensures.refused
