use Rattle.std.proofs.Common.{◌≡◌}
use Rattle.queue_tests.proofs.three_threads.take_all.Given as goal

abbrev pub invariant-loop : goal.invariant-loop
invariant-loop g l = record {
  line : l.receiver.line ≡ l.fn.receiver.line;
  channels : l.receiver.channels ≡ l.fn.receiver.channels;
  joined : l.receiver.joined ≡ l.fn.receiver.joined;
}
