use Rattle.std.proofs.Common.{arith}
use Rattle.super_block.proofs.Passed.{size_is_whole, some_pages, clusters-of_device, clusters-of_size}
use Rattle.super_block.proofs.page.Super.whole_clusters.Goals as goal

pub nonzero_div-result : goal.nonzero_div-result
nonzero_div-result c = omega (arith, some_pages c.args.self.now c.requires)

pub nonzero_div-result-else-self-eq0 : goal.nonzero_div-result-else-self-eq0
nonzero_div-result-else-self-eq0 c = omega (arith, size_is_whole c.args.self.now c.requires)

pub returns-then-self-eq0 : goal.returns-then-self-eq0
returns-then-self-eq0 c = let e = clusters-of_device c.args.self.now c.requires c.if-self-eq0.true in cc

pub returns-else-self-eq0 : goal.returns-else-self-eq0
returns-else-self-eq0 c = let e = clusters-of_size c.args.self.now c.if-self-eq0.false in cc
