use Rattle.std.proofs.Common.{◌≡◌, true, arith}
use Rattle.super_block.specs.Numbers.{clusters_of, fixed_clusters_of}
use Rattle.super_block.proofs.Passed.{passed, few_clusters, some_pages}
use Rattle.super_block.proofs.Ends.{fixed_within}
use Rattle.super_block.proofs.page.Super.fixed_clusters.Goals as goal

pub clusters_before-requires : goal.clusters_before-requires
clusters_before-requires c =
    let tests = passed true c.args.self.now c.requires in
    omega (arith, some_pages c.args.self.now tests.size)

pub overflow_cast-result : goal.overflow_cast-result
unfolding fixed_clusters_of
overflow_cast-result c =
    let few = few_clusters (clusters_of c.args.self.now) (passed true c.args.self.now c.requires).clusters in
    let within = fixed_within true c.args.self.now c.requires in
    let value : c.clusters_before.result ≡ fixed_clusters_of c.args.self.now = cc in
    omega (arith, few, within)

pub returns-clause-within : goal.returns-clause-within
unfolding fixed_clusters_of
returns-clause-within c =
    let within = fixed_within true c.args.self.now c.requires in
    let value : c.clusters_before.result ≡ fixed_clusters_of c.args.self.now = cc in
    omega (arith, within)
