use Rattle.std.proofs.Common.{◌≡◌}
use Rattle.queue_tests.proofs.three_threads.send_all.Given as goal

abbrev pub invariant-loop-serial : goal.invariant-loop-serial
invariant-loop-serial g l = record {
  line : l.sender.line ≡ l.fn.sender.line;
  channel : l.sender.channel ≡ l.fn.sender.channel;
}
