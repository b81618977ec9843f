use Rattle.std.proofs.Common.{◌≡◌}
use Rattle.worker_threads.specs.Senders.{end_of}
use Rattle.worker_threads.proofs.worker.Worker.run.Given as goal

abbrev pub invariant-loop : goal.invariant-loop
invariant-loop g l = record {
  end : end_of l.out ≡ end_of l.fn.sender;
  channel : l.self.channel ≡ l.fn.self.channel;
}
