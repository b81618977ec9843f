use Rattle.std.proofs.Common.{◌≡◌}
use Rattle.bit_array.specs.Bits.{first_of}
use Rattle.bit_array.proofs.bits.Bits.of_first.Given as goal

-- the numbers so far
abbrev pub invariant-loop-at : goal.invariant-loop-at
invariant-loop-at l = l.bits ≡ first_of l.at l.len
