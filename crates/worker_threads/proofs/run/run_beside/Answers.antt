use Rattle.worker_threads.proofs.Senders.{all_back, all_ends}
use Rattle.worker_threads.proofs.run.run_beside.Goals as goal

pub returns-clause-ends : goal.returns-clause-ends
returns-clause-ends g c =
    let memory = c.args.crew.memory in
    all_back memory.senders _ memory.receiver c.run-right.result.1 memory.ends
    (all_ends _ _ _ _ _ c.start_all-handles.ensures.same c.join_workers.ensures c.push_all-senders.ensures)
    c.run-right.ensures.receiver
