use Rattle.std.proofs.Common.{true, arith}
use Rattle.super_block.specs.Numbers.{clusters_of}
use Rattle.super_block.proofs.Passed.{passed, few_clusters}
use Rattle.super_block.proofs.page.Super.clusters.Goals as goal

pub whole_clusters-requires : goal.whole_clusters-requires
whole_clusters-requires c = (passed true c.args.self.now c.requires).size

pub overflow_cast-result : goal.overflow_cast-result
overflow_cast-result c =
    let few = few_clusters (clusters_of c.args.self.now) (passed true c.args.self.now c.requires).clusters in
    omega (arith, few)

pub returns-clause-most : goal.returns-clause-most
returns-clause-most c =
    let few = few_clusters (clusters_of c.args.self.now) (passed true c.args.self.now c.requires).clusters in
    omega (arith, few)
