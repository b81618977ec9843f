use Rattle.std.proofs.Common.{arith, ◌≤◌, ◌^◌}
use Rattle.std.proofs.Math.Nat.{mul-le-mul}
use Rattle.super_block.specs.Numbers.{clusters_of}
use Rattle.super_block.proofs.Passed.{few_clusters}
use Rattle.super_block.proofs.page.Super.check_ends.Goals as goal

pub overflow_mul-limit : goal.overflow_mul-limit
overflow_mul-limit c =
    let few = few_clusters (clusters_of c.args.self.now) c.requires.counted in
    let clusters : c.whole_clusters.result ≤ 2 ^ 24 = omega (arith, few) in
    let pages : c.from.result ≤ 2 ^ 32 = omega arith in
    omega (arith, mul-le-mul clusters pages)
