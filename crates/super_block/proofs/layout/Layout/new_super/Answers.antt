use Rattle.std.proofs.Common.{arith}
use Rattle.super_block.specs.Layout.{new_super}
use Rattle.super_block.proofs.Planned.{few_bytes, faultless_planned}
use Rattle.super_block.proofs.layout.Layout.new_super.Goals as goal

pub overflow_mul-result : goal.overflow_mul-result
overflow_mul-result c = let few = few_bytes c.args.self.now c.requires in omega (arith, few)

pub overflow_mul-result-2 : goal.overflow_mul-result-2
overflow_mul-result-2 c = let few = few_bytes c.args.self.now c.requires in omega (arith, few)

pub returns-clause-faultless : goal.returns-clause-faultless
unfolding new_super
returns-clause-faultless c = faultless_planned c.args.self.now c.args.super_blob c.args.bstype c.requires
