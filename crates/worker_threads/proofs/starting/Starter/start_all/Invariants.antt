use Rattle.std.proofs.Common.{◌≡◌, ◌≤◌, ◌+◌, ◌++◌, length, map, vec_capacity}
use Rattle.worker_threads.specs.Senders.{end_given, ends_of, AreOfOneLine}
use Rattle.worker_threads.proofs.starting.Starter.start_all.Given as goal

abbrev pub invariant-loop-channel : goal.invariant-loop-channel
invariant-loop-channel g l = record {
  rest : AreOfOneLine l.channel l.senders;
  same : map end_given l.handles.items ++ ends_of l.senders ≡ ends_of l.fn.senders;
  count : length l.handles.items + length l.senders ≡ length l.fn.senders;
  room : length l.fn.senders ≤ vec_capacity l.handles;
}
