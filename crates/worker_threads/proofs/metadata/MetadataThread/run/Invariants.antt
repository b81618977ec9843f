use Rattle.std.proofs.Common.{◌≡◌}
use Rattle.worker_threads.specs.Senders.{IsSameReceiver}
use Rattle.worker_threads.proofs.metadata.MetadataThread.run.Given as goal

abbrev pub invariant-loop : goal.invariant-loop
invariant-loop g l = record {
  right : l.self.right ≡ l.fn.self.right;
  receiver : IsSameReceiver l.fn.receiver l.inbox;
}
