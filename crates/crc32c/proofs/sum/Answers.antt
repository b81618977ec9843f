use Rattle.std.proofs.Common.{◌≡◌, ◌∙◌, ◌+◌, ◌*◌, ◌/◌, ap, arith, drop, get_or, length, List, [], refl, sym, take, ℕ}
use Rattle.std.specs.Prelude.{bit_xor}
use Rattle.std.proofs.lemmas.List.{take-append-drop}
use mathlib.Core.Path.{ap₂}
use Rattle.crc32c.specs.Crc.{crc32c_of, remainder_of}
use Rattle.crc32c.proofs.Words.{chunk, remainder_of-append, remainder_of-parts}
use Rattle.crc32c.proofs.sum.Goals as goal

pub loop-sixteen-init : goal.loop-sixteen-init
unfolding remainder_of
loop-sixteen-init c = refl

pub loop-sixteen-preserved : goal.loop-sixteen-preserved
loop-sixteen-preserved c =
    let i = c.loop-sixteen.sixteen-index in
    let bytes = c.args.bytes.now in
    let chunks = c.as_chunks.ensures in
    let further : i * 16 + 16 ≡ (i + 1) * 16 = omega arith in
    let sixteen : get_or c.as_chunks.result.0.now i [] ≡ take 16 (drop (i * 16) bytes) =
    ap (λ (l : List (List ℕ)). get_or l i []) chunks.front
    ∙ chunk 16 (length bytes / 16) i bytes [] (omega (arith, c.loop-sixteen-test.true, chunks.front_len)) in
    c.divide_sixteen-remainder.ensures ∙ ap₂ remainder_of c.loop-sixteen.invariant sixteen
    ∙ remainder_of-parts 0xFFFFFFFF (i * 16) 16 bytes
    ∙ ap (λ n. remainder_of 0xFFFFFFFF (take n bytes)) further

pub returns : goal.returns
unfolding crc32c_of
returns c =
    let i = c.loop-sixteen.sixteen-index in
    let bytes = c.args.bytes.now in
    let chunks = c.as_chunks.ensures in
    let end = length bytes / 16 * 16 in
    let all : i * 16 ≡ end =
    omega (arith, c.loop-sixteen-test.false, c.loop-sixteen.auto.sixteen-index-end, chunks.front_len) in
    ap (λ r. bit_xor r 0xFFFFFFFF)
    (c.divide_bytes.ensures
    ∙ ap₂ remainder_of (c.loop-sixteen.invariant ∙ ap (λ n. remainder_of 0xFFFFFFFF (take n bytes)) all) chunks.back
    ∙ sym (remainder_of-append 0xFFFFFFFF (take end bytes) (drop end bytes))
    ∙ ap (remainder_of 0xFFFFFFFF) (take-append-drop end bytes))
