use Rattle.super_block.proofs.Planned.{laid_out}
use Rattle.super_block.proofs.laws.layouts_are_placed.Goals as goal

pub returns : goal.returns
returns c = laid_out
