use Rattle.std.proofs.Common.{◌∙◌, ap, sym, refl, take, get_or, List, ℕ}
use Rattle.std.proofs.lemmas.List.{take_more, take_all}
use Rattle.crc32c.specs.Crc.{remainder_of, after_byte}
use Rattle.crc32c.proofs.Division.{remainder_of-push}
use Rattle.crc32c.proofs.divide_bytes.Goals as goal

pub loop-byte-init : goal.loop-byte-init
unfolding remainder_of
loop-byte-init c = refl

pub loop-byte-preserved : goal.loop-byte-preserved
loop-byte-preserved c =
    let i = c.loop-byte.byte-index in
    let bytes = c.args.bytes.now in
    c.divide_byte-remainder.ensures ∙ ap (λ r. after_byte r (get_or bytes i 0)) c.loop-byte.invariant
    ∙ sym (ap (λ (l : List ℕ). remainder_of c.args.first l) (take_more bytes i 0 c.loop-byte-test.true)
    ∙ remainder_of-push c.args.first (take i bytes) (get_or bytes i 0))

pub returns : goal.returns
returns c =
    c.loop-byte.invariant
    ∙ ap (λ (l : List ℕ). remainder_of c.args.first l)
    (take_all c.loop-byte.byte-index c.args.bytes.now c.loop-byte-test.false)
