use Rattle.std.proofs.Common.{◌≡◌, ℕ, ◌<◌}
use Rattle.bit_array.specs.Bits.{is_in}
use Rattle.unclean_load.proofs.claimed.is_same.Given as goal

-- the places so far are in both or in neither
abbrev pub invariant-loop-at : goal.invariant-loop-at
invariant-loop-at l = (k : ℕ) → k < l.at → is_in l.a k ≡ is_in l.b k
