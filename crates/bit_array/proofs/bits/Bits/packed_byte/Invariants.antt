use Rattle.std.proofs.Common.{◌≡◌, ◌+◌, ◌-◌, ◌*◌}
use Rattle.bit_array.specs.Mask.{packed}
use Rattle.bit_array.proofs.bits.Bits.packed_byte.Given as goal

-- so many bits of the byte's end are in place
abbrev pub invariant-loop-step : goal.invariant-loop-step
invariant-loop-step l = l.byte ≡ packed l.self (8 * l.index + (8 - l.step)) l.step
