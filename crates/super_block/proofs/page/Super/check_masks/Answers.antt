use Rattle.std.proofs.Common.{arith}
use Rattle.super_block.specs.Numbers.{clusters_of}
use Rattle.super_block.proofs.Passed.{few_clusters}
use Rattle.super_block.proofs.page.Super.check_masks.Goals as goal

pub overflow_cast-whole_clusters : goal.overflow_cast-whole_clusters
overflow_cast-whole_clusters c =
    let few = few_clusters (clusters_of c.args.self.now) c.requires.counted in omega (arith, few)
