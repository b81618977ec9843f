use Rattle.std.proofs.Common.{sym}
use Rattle.super_block.proofs.Passed.{faultless}
use Rattle.super_block.proofs.page.read_super.Goals as goal

pub returns-clause-faultless : goal.returns-clause-faultless
returns-clause-faultless c = faultless _ _ (sym c.in_ok-check.ensures)
