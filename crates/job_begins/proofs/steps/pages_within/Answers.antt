use Rattle.std.proofs.Common.{◌+◌, sym, arith}
use Rattle.job_begins.proofs.StepsFollow.{needs_more, needs_within}
use Rattle.job_begins.proofs.steps.pages_within.Goals as goal

pub returns-then-most-count-clause-more : goal.returns-then-most-count-clause-more
returns-then-most-count-clause-more c =
    let steps = c.args.steps.now in
    let index = c.loop-step.step-index in
    let more = needs_more steps index c.step-item.result c.loop-step-test.true (sym c.step-item.is) in
    let within = needs_within (index + 1) steps in
    let now = c.loop-step.invariant.0 in
    let needs = c.needs-needs.ensures in
    let short = c.if-most-count.true in
    omega (arith, more, within, now, needs, short)

pub loop-step-preserved : goal.loop-step-preserved
loop-step-preserved c =
    let steps = c.args.steps.now in
    let index = c.loop-step.step-index in
    let more = needs_more steps index c.step-item.result c.loop-step-test.true (sym c.step-item.is) in
    let now = c.loop-step.invariant.0 in
    let low = c.loop-step.invariant.1 in
    let needs = c.needs-needs.ensures in
    let enough = c.if-most-count.false in
    (omega (arith, more, now, needs), omega (arith, low, enough))
