use Rattle.std.proofs.Common.{ap}
use Rattle.md_queue.specs.declared.ruled.rule.EndView.{EndView}
use Rattle.md_queue.proofs.ReceiverSteps.{takes, accounts_for_joined}
use Rattle.md_queue.proofs.ruled.receiver.MdReceiver.take.Goals as goal

pub pop_as-requires-clause-rule : goal.pop_as-requires-clause-rule
pop_as-requires-clause-rule g c =
    let is = ap (λ (v : EndView). v.is_receiver) c.self.invariant.1 in
    (takes _ _ is (ap (λ (v : EndView). v.left) c.self.invariant.1), accounts_for_joined _ _ is)
