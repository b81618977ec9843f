use Rattle.std.proofs.Common.{◌≡◌, ℕ, ◌+◌, ◌*◌, ◌<◌, get_or, length}
use Rattle.bit_array.specs.Mask.{mask_text}
use Rattle.bit_array.proofs.bits.Bits.mask_page.Given as goal

abbrev pub invariant-loop-at : goal.invariant-loop-at
invariant-loop-at l = record {
  long : length l.into ≡ 4096;
  written : (k : ℕ) → k < l.at → get_or l.into k 0 ≡ get_or (mask_text l.kind l.self) (4096 * l.index + k) 0;
}
