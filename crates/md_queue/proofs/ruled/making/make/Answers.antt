use Rattle.md_queue.proofs.EndSteps.{begins}
use Rattle.md_queue.proofs.ruled.making.make.Goals as goal

pub ruled-requires-clause-rule : goal.ruled-requires-clause-rule
ruled-requires-clause-rule c = begins
