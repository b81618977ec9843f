use Rattle.std.proofs.Common.{ap}
use Rattle.md_queue.specs.declared.ruled.rule.EndView.{EndView}
use Rattle.md_queue.proofs.Closed.{all_still}
use Rattle.md_queue.proofs.ReceiverSteps.{accounts_for_all, leaves}
use Rattle.md_queue.proofs.ruled.closing.collect.Goals as goal

pub len_as-requires-clause-rule : goal.len_as-requires-clause-rule
len_as-requires-clause-rule g c =
    accounts_for_all _ _ (ap (λ (v : EndView). v.is_receiver) c.requires.known) c.requires.all

pub pop_as-requires-clause-rule : goal.pop_as-requires-clause-rule
pop_as-requires-clause-rule g c =
    let known = c.loop.invariant.known in
    let is = ap (λ (v : EndView). v.is_receiver) known in
    let all = all_still _ _ _ _ _ known c.requires.all in
    (leaves _ _ is all, accounts_for_all _ _ is all)
