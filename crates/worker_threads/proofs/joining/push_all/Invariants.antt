use Rattle.std.proofs.Common.{◌≡◌, ◌≤◌, ◌+◌, ◌++◌, length}
use Rattle.worker_threads.proofs.joining.push_all.Given as goal

abbrev pub invariant-loop-sender : goal.invariant-loop-sender
invariant-loop-sender l = record {
  all : l.senders ++ l.others ≡ l.fn.senders ++ l.fn.others;
  few : length l.senders + length l.others ≤ 16;
}

abbrev pub decreases-loop-sender : goal.decreases-loop-sender
decreases-loop-sender l = length l.others
