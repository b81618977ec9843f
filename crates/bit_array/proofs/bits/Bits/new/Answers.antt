use Rattle.std.proofs.Common.{ℕ, ◌≡◌, ◌+◌, ◌*◌, ◌/◌, ◌∙◌, replicate, rules, ap, false, List, Bool, cond, arith}
use Rattle.std.proofs.lemmas.List.{length-replicate}
use Rattle.std.proofs.lemmas.List.Folds.{sum_by-replicate}
use Rattle.bit_array.specs.Words.{bits_of}
use Rattle.bit_array.specs.Bits.{member_count}
use Rattle.bit_array.proofs.Places.{bits_of-zeros}
use Rattle.bit_array.proofs.bits.Bits.new.Goals as goal

pub invariant_of-result : goal.invariant_of-result
invariant_of-result c =
    let words = (c.args.len + 63) / 64 in
    let zeros : c.in_ok-words.words.items ≡ replicate {A = ℕ} words 0 = search rules in
    let none : member_count (replicate c.args.len false) ≡ c.args.len * 0 =
    sum_by-replicate (λ (b : Bool). cond {A = ℕ} b 1 0) c.args.len false in
    rw zeros record {
      words_len = length-replicate {A = ℕ} words 0;
      counted = rw bits_of-zeros (omega arith);
    }

pub returns : goal.returns
returns c =
    let zeros : c.in_ok-words.words.items ≡ replicate {A = ℕ} ((c.args.len + 63) / 64) 0 = search rules in
    ap (λ (words : List ℕ). bits_of words c.args.len) zeros ∙ bits_of-zeros _ _
