use Rattle.std.proofs.Common.{◌≡◌, ◌∙◌, ◌<◌, ◌*◌, ◌/◌, ap, arith, drop, get_or, List, [], rules, take, ℕ}
use Rattle.std.specs.Int.{from_le_bytes, w32}
use Rattle.std.specs.Simd.{first_chunks}
use mathlib.Core.Path.{ap₂}
use lib.Bits.{bit_xor}
use Rattle.crc32c.specs.Crc.{byte_steps}
use Rattle.crc32c.proofs.Words.{chunk, remainder_of-sixteen}
use Rattle.crc32c.proofs.divide_sixteen.Goals as goal

pub returns : goal.returns
returns c =
    let r = c.args.remainder in
    let bytes = c.args.bytes.now in
    let word : (i : ℕ) → i < 4 → get_or c.as_chunks.result.0.now i [] ≡ take 4 (drop (i * 4) bytes) =
    λ i lt. ap (λ (l : List (List ℕ)). get_or l i [])
    (c.as_chunks.ensures.front ∙ ap (λ n. first_chunks 4 (n / 4) bytes) c.told-bytes)
    ∙ chunk 4 4 i bytes [] lt in
    let small : (i : ℕ) → get_or bytes i 0 < 256 = λ i. (let h = c.fits-bytes i in search rules) in
    let fourth = c.divide_word.ensures ∙ ap (byte_steps 4)
    (c.from_le_bytes.ensures ∙ ap (from_le_bytes w32) (word 3 (omega arith))) in
    let third = c.divide_word-2.ensures ∙ ap (byte_steps 8)
    (c.from_le_bytes-2.ensures ∙ ap (from_le_bytes w32) (word 2 (omega arith))) in
    let second = c.divide_word-3.ensures ∙ ap (byte_steps 12)
    (c.from_le_bytes-3.ensures ∙ ap (from_le_bytes w32) (word 1 (omega arith))) in
    let first = c.divide_word-4.ensures ∙ ap (λ w. byte_steps 16 (bit_xor r w))
    (c.from_le_bytes-4.ensures ∙ ap (from_le_bytes w32) (word 0 (omega arith))) in
    ap₂ bit_xor (ap₂ bit_xor (ap₂ bit_xor fourth third) second) first
    ∙ remainder_of-sixteen r bytes c.told-bytes small
