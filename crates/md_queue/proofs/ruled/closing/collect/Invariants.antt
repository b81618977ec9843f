use Rattle.std.proofs.Common.{◌≡◌, ◌+◌, ◌≤◌, length}
use Rattle.std.specs.Prelude.{sum_by}
use Rattle.crossbeam_queue.specs.Passes.{view, IsPassOf}
use Rattle.md_queue.specs.Delivery.{receiver_view}
use Rattle.md_queue.specs.Queue.{capacity}
use Rattle.md_queue.proofs.ruled.closing.collect.Given as goal

abbrev pub invariant-loop : goal.invariant-loop
invariant-loop g l = record {
  pass : IsPassOf l.line l.pass;
  known : view l.pass
      ≡ receiver_view (view l.fn.pass).taken l.left (view l.fn.pass).channels (view l.fn.pass).joined;
  few : sum_by length (view l.fn.pass).joined ≤ length (view l.fn.pass).taken + capacity;
  room : length l.left ≤ capacity;
}
