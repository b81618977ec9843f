use Rattle.std.proofs.Common.{arith}
use Rattle.bit_array.proofs.Masks.{bits_in-page}
use Rattle.bit_array.proofs.reader.read_page.Goals as goal

pub returns-clause-says : goal.returns-clause-says
returns-clause-says c = λ text pages was.
    bits_in-page c.args.bits.now c.loop-at.bits c.args.page.now c.args.index
    c.loop-at.at text c.loop-at.invariant c.told-page
    (λ k inside past. omega (arith, c.min-end.ensures))
    (omega (arith, c.min-end.ensures))
    pages was
