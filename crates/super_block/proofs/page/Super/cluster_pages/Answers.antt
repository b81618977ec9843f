use Rattle.std.proofs.Common.{true, arith}
use Rattle.super_block.proofs.Passed.{passed, some_pages}
use Rattle.super_block.proofs.page.Super.cluster_pages.Goals as goal

pub returns-clause-some : goal.returns-clause-some
returns-clause-some c =
    let tests = passed true c.args.self.now c.requires in
    omega (arith, some_pages c.args.self.now tests.size)
