use Rattle.std.proofs.Common.{arith}
use Rattle.bit_array.proofs.Masks.{is_page}
use Rattle.bit_array.proofs.bits.Bits.mask_page.Goals as goal

pub returns : goal.returns
returns c =
    is_page c.args.kind c.args.index c.args.self.now c.loop-at.into c.loop-at.invariant.long c.requires
    (λ k inside. c.loop-at.invariant.written k (omega arith))
