use Rattle.std.proofs.Common.{◌≡◌, ℕ, ◌<◌, get_or}
use Rattle.bit_array.proofs.bits.Bits.first_clear.Given as goal

-- the words before this one are full
abbrev pub invariant-loop-place : goal.invariant-loop-place
invariant-loop-place l = (k : ℕ) → k < l.place → get_or l.word-items k 0 ≡ 18446744073709551615
