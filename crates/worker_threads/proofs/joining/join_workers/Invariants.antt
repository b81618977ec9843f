use Rattle.std.proofs.Common.{◌≡◌, ◌≤◌, ◌+◌, ◌++◌, length, map}
use Rattle.std.specs.Vec.Iter.{into_iter_items}
use Rattle.worker_threads.specs.Senders.{end_given, ends_of}
use Rattle.worker_threads.proofs.joining.join_workers.Given as goal

abbrev pub invariant-loop-handle : goal.invariant-loop-handle
invariant-loop-handle g l = record {
  same : ends_of l.senders ++ map end_given (into_iter_items l.handle-iterator) ≡ map end_given l.fn.handles.items;
  few : length l.senders + length (into_iter_items l.handle-iterator) ≤ 16;
}
