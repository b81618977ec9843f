use Rattle.std.proofs.Common.{◌≡◌}
use Rattle.queue_tests.proofs.three_threads.send_one.Given as goal

abbrev pub invariant-loop : goal.invariant-loop
invariant-loop g l = l.sender ≡ l.fn.sender
