use Rattle.std.proofs.Common.{◌+◌, ◌-◌, length, take, drop, sym, subst, arith, length-drop}
use Rattle.std.proofs.lemmas.List.{take_all}
use Rattle.descriptors.proofs.LongestRuns.{Turned, one_run_more}
use Rattle.descriptors.proofs.runs.runs_of_slots.Goals as goal

pub loop-done-preserved : goal.loop-done-preserved
loop-done-preserved c =
    let run = c.front_run-run in
    let done = c.loop-done.done in
    let slots = c.args.slots.now in
    let left = drop done slots in
    subst (λ runs. Turned runs slots (done + run.result.length)) (sym c.in_ok-push.ensures.ok)
    (one_run_more c.loop-done.runs slots (take (length slots - done) left) done run.result c.loop-done.invariant
    (take_all (length slots - done) left (omega (arith, length-drop done slots)))
    run.ensures.within.0 run.ensures.within.1 run.ensures.first run.ensures.slots run.ensures.ends)
