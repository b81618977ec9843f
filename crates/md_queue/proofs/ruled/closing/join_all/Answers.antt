use Rattle.std.proofs.Common.{ap, ◌∙◌, arith, length}
use Rattle.md_queue.specs.declared.ruled.rule.EndView.{EndView}
use Rattle.md_queue.specs.QueueEnds.{Sender}
use Rattle.md_queue.proofs.EndSteps.{merges}
use Rattle.md_queue.proofs.SenderPlaces.{first-of}
use Rattle.md_queue.proofs.ruled.closing.join_all.Goals as goal

pub absorb-requires-clause-rule : goal.absorb-requires-clause-rule
absorb-requires-clause-rule c =
    let i = c.loop-sender.invariant in
    let came = c.in-Some.ensures.first in
    let first = first-of _ _ _ _ _ i.rest came in
    let made = ap (λ (v : EndView). v.channels) i.known in
    let few = ap (λ (l : _). length l) came in
    merges _ _ (ap (λ (v : EndView). v.is_receiver) i.known) _ _ c.sender.invariant.1
    (ap (λ (s : Sender). s.channel) c.sender.view_is ∙ first.1) (let count = i.count in omega arith)
