use Rattle.std.proofs.Common.{◌≡◌, ◌+◌, [], ◌++◌, length, map}
use Rattle.crossbeam_queue.specs.Passes.{view, IsPassOf}
use Rattle.md_queue.specs.Delivery.{receiver_view}
use Rattle.md_queue.specs.QueueEnds.{Sender, AreOf}
use Rattle.md_queue.proofs.ruled.closing.join_all.Given as goal

abbrev pub invariant-loop-sender : goal.invariant-loop-sender
invariant-loop-sender l = record {
  pass : IsPassOf l.line l.pass;
  same : l.pass.table_id ≡ l.fn.pass.table_id;
  known : view l.pass ≡ receiver_view (view l.fn.pass).taken [] (length l.fn.senders) (view l.pass).joined;
  rest : AreOf l.fn.pass.table_id (length (view l.pass).joined) l.senders;
  parts : (view l.pass).joined ++ map (λ (s : Sender). s.sent) l.senders
      ≡ map (λ (s : Sender). s.sent) l.fn.senders;
  count : length (view l.pass).joined + length l.senders ≡ length l.fn.senders;
}

abbrev pub decreases-loop-sender : goal.decreases-loop-sender
decreases-loop-sender l = length l.senders
