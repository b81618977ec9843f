use Rattle.std.proofs.Common.{rules}
use Rattle.md_queue.proofs.SenderSteps.{pushes, holds_last}
use Rattle.md_queue.proofs.ruled.sender.MdSender.send.Goals as goal

pub push_as-requires-clause-rule : goal.push_as-requires-clause-rule
push_as-requires-clause-rule g c =
    let is = c.self.invariant.1 in (pushes _ _ _ _ is (search rules), holds_last _ _ is)
