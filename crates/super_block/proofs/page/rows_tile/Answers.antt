use Rattle.std.proofs.Common.{refl, arith}
use Rattle.page_fields.proofs.Tiled.{one_row}
use Rattle.super_block.specs.declared.page.TheConstants.{ROWS}
use Rattle.super_block.proofs.page.rows_tile.Goals as goal

pub returns : goal.returns
returns c = λ b lt. one_row ROWS 0 4096 b refl (omega arith) lt
