use Rattle.std.proofs.Common.{arith}
use Rattle.std.proofs.lemmas.Bool.Decides.{nat_tests}
use Rattle.page_disk.specs.Crash.{remains_by}
use Rattle.page_disk.proofs.crash.remains_of.Goals as goal

pub returns-in-0 : goal.returns-in-0
unfolding remains_by
returns-in-0 c = rw c.in-0.is

pub returns-in-1 : goal.returns-in-1
unfolding remains_by
returns-in-1 c = rw c.in-1.is

pub returns-in_default : goal.returns-in_default
unfolding remains_by
returns-in_default c = grind (arith, nat_tests)
