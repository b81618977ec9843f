use Rattle.std.proofs.Common.{◌≡◌, [], length, All}
use Rattle.std.specs.Arc.{arc_value}
use Rattle.crossbeam_queue.specs.Passes.{view, IsPassOf}
use Rattle.md_queue.specs.Delivery.{receiver_view}
use Rattle.md_queue.specs.QueueEnds.{Sender, AreOf}
use Rattle.md_queue.proofs.ruled.making.split_all.Given as goal

abbrev pub invariant-loop-channel : goal.invariant-loop-channel
invariant-loop-channel l = record {
  pass : IsPassOf (arc_value l.line) l.pass;
  known : view l.pass ≡ receiver_view [] [] l._channel [];
  senders : AreOf l.pass.table_id 0 l.senders;
  count : length l.senders ≡ l._channel;
  unsent : All (λ (s : Sender). s.sent ≡ []) l.senders;
}
