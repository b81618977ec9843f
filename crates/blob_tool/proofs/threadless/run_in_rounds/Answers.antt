use Rattle.blob_tool.proofs.ReadyRuns.{done_when_ready, no_usage_when_ready, of_a_ready_store}
use Rattle.blob_tool.proofs.threadless.run_in_rounds.Goals as goal

pub returns-in-Ok-clause-no_usage : goal.returns-in-Ok-clause-no_usage
returns-in-Ok-clause-no_usage g c =
    no_usage_when_ready g.S.Source c.args.script.now c.prepare.new.script g.D.PageDisk g.K.Sink c.args.out.now c.finish.new.out
    c.args.disk c.finish.result.1 c.args.from c.args.by c.in-Ok.ready.quick c.in-Ok.ready.plant c.in-Ok.ensures.ready
    c.drive_in_rounds-plant.result.0 c.drive_in_rounds-plant.ensures.opening c.drive_in_rounds-plant.result.2 c.finish.result.0
    c.drive_in_rounds-plant.ensures.follows (λ is. absurd (c.drive_in_rounds-plant.ensures.end is)) c.finish.ensures

pub returns-in-Ok-clause-outcome : goal.returns-in-Ok-clause-outcome
returns-in-Ok-clause-outcome g c =
    of_a_ready_store g.S.Source c.args.script.now c.prepare.new.script g.D.PageDisk g.K.Sink c.args.out.now c.finish.new.out
    c.args.disk c.finish.result.1 c.args.from c.args.by c.in-Ok.ready.quick c.in-Ok.ready.plant c.in-Ok.ensures.ready
    c.drive_in_rounds-plant.result.0 c.drive_in_rounds-plant.ensures.opening c.drive_in_rounds-plant.result.2 c.finish.result.0
    c.drive_in_rounds-plant.ensures.follows (λ is. absurd (c.drive_in_rounds-plant.ensures.end is)) c.finish.ensures

pub returns-in-Ok-clause-complete : goal.returns-in-Ok-clause-complete
returns-in-Ok-clause-complete g c =
    done_when_ready g.S.Source c.args.script.now c.prepare.new.script g.D.PageDisk g.K.Sink c.args.out.now c.finish.new.out
    c.args.disk c.finish.result.1 c.args.from c.args.by c.in-Ok.ready.quick c.in-Ok.ready.plant c.in-Ok.ensures.ready
    c.drive_in_rounds-plant.result.0 c.drive_in_rounds-plant.ensures.opening c.drive_in_rounds-plant.result.2 c.finish.result.0
    c.drive_in_rounds-plant.ensures.follows (λ is. absurd (c.drive_in_rounds-plant.ensures.end is)) c.finish.ensures

pub returns-clause-outcome : goal.returns-clause-outcome
returns-clause-outcome g c = c.in-Err.ensures.outcome c.args.by c.args.out.now
