use Rattle.worker_threads.proofs.Senders.{few_next, joined_next}
use Rattle.worker_threads.proofs.joining.join_workers.Goals as goal

pub loop-handle-preserved : goal.loop-handle-preserved
loop-handle-preserved g c =
    let i = c.loop-handle.invariant in
    let taken = c.in-Some.ensures.steps.0 in
    record {
      same = joined_next _ _ _ _ _ _ c.join.result i.same taken c.join.ensures c.push.ensures;
      few = few_next _ _ _ _ _ c.join.result taken c.push.ensures i.few;
    }
