use Rattle.std.proofs.Common.{ap, ◌∙◌, rules, length, sym}
use Rattle.md_queue.specs.declared.ruled.rule.EndView.{EndView}
use Rattle.md_queue.specs.QueueEnds.{Sender, Receiver}
use Rattle.md_queue.proofs.EndSteps.{merges}
use Rattle.md_queue.proofs.ruled.receiver.MdReceiver.join.Goals as goal

pub absorb-requires-clause-rule : goal.absorb-requires-clause-rule
absorb-requires-clause-rule c =
    let channel =
    ap (λ (s : Sender). s.channel) c.sender.view_is ∙ c.requires.next
    ∙ ap (λ (r : Receiver). length r.joined) (sym c.self.view_is) in
    merges _ _ (ap (λ (v : EndView). v.is_receiver) c.self.invariant.1) _ _ c.sender.invariant.1 channel (search rules)
