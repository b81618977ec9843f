use Rattle.super_block.proofs.Placed.{is_placed}
use Rattle.super_block.proofs.laws.regions_are_placed.Goals as goal

pub returns : goal.returns
returns c = is_placed
