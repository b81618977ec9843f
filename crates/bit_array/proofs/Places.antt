-- A set read from its words, place by place.
use Rattle.std.proofs.Common.{◌≡◌, ◌≢◌, ℕ, ◌+◌, ◌-◌, ◌*◌, ◌/◌, ◌%◌, ◌^◌, ◌<◌, ◌≤◌, Bool, true, false, cond, eqb, List}
use Rattle.std.proofs.Common.{length, get_or, set, replicate, sym, ap, ◌∙◌, subst, arith, inl, inr}
use Rattle.std.specs.Prelude.{bit_and, bit_or}
use Rattle.std.specs.Int.{bit_at, bit_not, trailing_ones, w64}
use Rattle.std.proofs.lemmas.Bool.{cases_eq, cases_lt, both_ways}
use Rattle.std.proofs.lemmas.List.{ext_get_or, get_or-set_same, get_or-set_other, length-set, get_or-replicate}
use Rattle.std.proofs.lemmas.List.{length-replicate, get_or_past, get_or_default}
use Rattle.std.proofs.lemmas.List.Sums.{sum_by-set, count_by-le-length}
use Rattle.std.proofs.lemmas.List.FromFn.{length-map-range_with_len, get_or-map-range_with_len}
use Rattle.std.proofs.lemmas.Nat.Bits.{shr_and_one, bit_at-zero, bit_at_ones, bit_at-trailing_ones, bit_at_set_same}
use Rattle.std.proofs.lemmas.Nat.Bits.{bit_at_set_other, bit_at_clear_same, bit_at_clear_other}
use Rattle.bit_array.specs.Bits.{is_in, member_count, IsFull, IsLeastClear}
use Rattle.bit_array.specs.Words.{bits_of, is_set, IsCounted}

-- words hold a set of the length that is wanted
pub length-bits_of : (words : List ℕ) (len : ℕ) → length (bits_of words len) ≡ len
unfolding bits_of
length-bits_of words len = length-map-range_with_len (is_set words) 0 len

-- a place is in the set where its bit of the words is set
pub get_or-bits_of : (words : List ℕ) (len i : ℕ) (d : Bool) → i < len → get_or (bits_of words len) i d ≡ is_set words i
unfolding bits_of
get_or-bits_of words len i d h = get_or-map-range_with_len (is_set words) 0 len i i d h (omega arith)

get_or-zeros : (n i : ℕ) → get_or (replicate {A = ℕ} n 0) i 0 ≡ 0
get_or-zeros n i =
    elim (cases_lt i n) [
      | inl h ↦ get_or-replicate n i 0 0 h
      | inr h ↦ get_or_past (replicate n 0) i 0 (rw length-replicate h)
    ]

-- the words of an empty set
pub bits_of-zeros : (n len : ℕ) → bits_of (replicate n 0) len ≡ replicate len false
bits_of-zeros n len =
    ext_get_or false _ _ (length-bits_of (replicate n 0) len ∙ sym (length-replicate len false))
    (λ i h.
    let below : i < len = subst (λ (m : ℕ). i < m) (length-bits_of (replicate n 0) len) h in
    get_or-bits_of (replicate n 0) len i false below
    ∙ ap (λ (w : ℕ). eqb (bit_at w (i % 64)) 1) (get_or-zeros n (i / 64))
    ∙ ap (λ (b : ℕ). eqb b 1) (bit_at-zero (i % 64))
    ∙ sym (get_or-replicate len i false false below))

-- a word with one bit written
pub record Writes (old new place : ℕ) (bit : Bool) : Type 0 where
  pub same : eqb (bit_at new place) 1 ≡ bit
  pub other : (i : ℕ) → i < 64 → i ≢ place → bit_at new i ≡ bit_at old i

-- an or with one bit sets it
pub Writes-or : (old place : ℕ) → place < 64 → Writes old (bit_or old (1 * 2 ^ place % 2 ^ 64)) place true
Writes-or old place h = record {
  same = ap (λ (b : ℕ). eqb b 1) (bit_at_set_same w64 old place h);
  other = λ i lt ne. bit_at_set_other w64 old place h i ne;
}

-- an and with the other bits clears one
pub Writes-and : (old place : ℕ) → place < 64
    → Writes old (bit_and old (bit_not w64 (1 * 2 ^ place % 2 ^ 64))) place false
Writes-and old place h = record {
  same = ap (λ (b : ℕ). eqb b 1) (bit_at_clear_same w64 old place h);
  other = λ i lt ne. bit_at_clear_other w64 old place h i lt ne;
}

is_set-put_other : (words : List ℕ) (at word k : ℕ) {bit : Bool} → at / 64 < length words
    → Writes (get_or words (at / 64) 0) word (at % 64) bit → k ≢ at
    → is_set (set words (at / 64) word) k ≡ is_set words k
is_set-put_other words at word k within put apart =
    elim (cases_eq (k / 64) (at / 64)) [
      | inl same ↦
          let ne : k % 64 ≢ at % 64 = λ e. apart (omega arith) in
          rw (same, get_or-set_same words (at / 64) word 0 within)
          (ap (λ (b : ℕ). eqb b 1) (put.other (k % 64) (omega arith) ne))
      | inr other ↦ ap (λ (w : ℕ). eqb (bit_at w (k % 64)) 1) (get_or-set_other words (at / 64) (k / 64) word 0 other)
    ]

is_set-put_same : (words : List ℕ) (at word : ℕ) {bit : Bool} → at / 64 < length words
    → Writes (get_or words (at / 64) 0) word (at % 64) bit → is_set (set words (at / 64) word) at ≡ bit
is_set-put_same words at word within put =
    ap (λ (w : ℕ). eqb (bit_at w (at % 64)) 1) (get_or-set_same words (at / 64) word 0 within) ∙ put.same

-- the set after a word was written in which one bit differs
pub bits_of-put : (words : List ℕ) (len at word : ℕ) {bit : Bool} → at < len → at / 64 < length words
    → Writes (get_or words (at / 64) 0) word (at % 64) bit
    → bits_of (set words (at / 64) word) len ≡ set (bits_of words len) at bit
bits_of-put words len at word {bit} h within put =
    let new = set words (at / 64) word in
    ext_get_or false _ _
    (length-bits_of new len ∙ sym (length-bits_of words len) ∙ sym (length-set (bits_of words len) at bit))
    (λ i lt.
    let below : i < len = subst (λ (m : ℕ). i < m) (length-bits_of new len) lt in
    let inside : at < length (bits_of words len) = subst (λ (m : ℕ). at < m) (sym (length-bits_of words len)) h in
    get_or-bits_of new len i false below
    ∙ elim (cases_eq i at) [
      | inl e ↦
          rw e (is_set-put_same words at word within put
          ∙ sym (get_or-set_same (bits_of words len) at bit false inside))
      | inr apart ↦
          is_set-put_other words at word i within put apart
          ∙ sym (get_or-bits_of words len i false below)
          ∙ sym (get_or-set_other (bits_of words len) at i bit false apart)
    ])

-- the count of a set that one place joins or leaves
pub member_count-join : (bits : List Bool) (at : ℕ) → at < length bits → get_or bits at false ≡ false
    → member_count (set bits at true) ≡ member_count bits + 1
member_count-join bits at h off =
    let sums : member_count (set bits at true) + cond {A = ℕ} (get_or bits at false) 1 0 ≡ member_count bits + 1 =
    sum_by-set (λ (b : Bool). cond {A = ℕ} b 1 0) bits at true false h in
    let nothing : cond {A = ℕ} (get_or bits at false) 1 0 ≡ 0 = ap (λ (b : Bool). cond {A = ℕ} b 1 0) off in
    omega arith

-- a set has one member less once a place left it
pub member_count-leave : (bits : List Bool) (at : ℕ) → at < length bits → get_or bits at false ≡ true
    → member_count (set bits at false) + 1 ≡ member_count bits
member_count-leave bits at h on =
    let sums : member_count (set bits at false) + cond {A = ℕ} (get_or bits at false) 1 0 ≡ member_count bits + 0 =
    sum_by-set (λ (b : Bool). cond {A = ℕ} b 1 0) bits at false false h in
    let one : cond {A = ℕ} (get_or bits at false) 1 0 ≡ 1 = ap (λ (b : Bool). cond {A = ℕ} b 1 0) on in
    omega arith

-- there is a word for each place
pub word_within : (words : List ℕ) (len count at : ℕ) (bits : List Bool) → bits_of words len ≡ bits → at < length bits
    → IsCounted words len count → at / 64 < length words
word_within words len count at bits view inside was =
    let long : length bits ≡ len = rw (← view) (length-bits_of words len) in
    omega (arith, was.words_len)

-- the words with one of them written, when a place joins or leaves the set
pub record Puts (words : List ℕ) (len count : ℕ) (bits : List Bool) (at word : ℕ) (bit : Bool) : Type 0 where
  pub counted : IsCounted (set words (at / 64) word) len count
  pub view : bits_of (set words (at / 64) word) len ≡ set bits at bit

-- a word with a bit set more: the set has the place, and is counted
pub joins : (words : List ℕ) (len count : ℕ) (bits : List Bool) (at word : ℕ) → bits_of words len ≡ bits
    → at < length bits → IsCounted words len count → is_in bits at ≡ false → word ≡ get_or words (at / 64) word
    → (count < len) × Puts words len (count + 1) bits at (bit_or word (1 * 2 ^ (at % 64) % 2 ^ 64)) true
joins words len count bits at word view inside was off read =
    let long : length bits ≡ len = rw (← view) (length-bits_of words len) in
    let within : at / 64 < length words = word_within words len count at bits view inside was in
    let old : word ≡ get_or words (at / 64) 0 = read ∙ get_or_default words (at / 64) word 0 within in
    let joined : member_count (set bits at true) ≡ member_count bits + 1 = member_count-join bits at inside off in
    let most : member_count (set bits at true) ≤ length (set bits at true) =
    count_by-le-length (λ b. b) (set bits at true) in
    let same_long : length (set bits at true) ≡ length bits = length-set bits at true in
    let counted : count ≡ member_count bits = was.counted ∙ ap member_count view in
    let new : bits_of (set words (at / 64) (bit_or word (1 * 2 ^ (at % 64) % 2 ^ 64))) len ≡ set bits at true =
    rw (old, ← view)
    (bits_of-put words len at _ (omega arith) within
    (Writes-or (get_or words (at / 64) 0) (at % 64) (omega arith))) in (
      omega arith,
      record {
        counted = record {
          words_len = length-set words (at / 64) _ ∙ was.words_len;
          counted = ap (λ (n : ℕ). n + 1) counted ∙ sym joined ∙ ap member_count (sym new);
        };
        view = new;
      },
    )

-- a word with a bit set less: the set has the place no longer, and is counted
pub leaves : (words : List ℕ) (len count : ℕ) (bits : List Bool) (at word : ℕ) → bits_of words len ≡ bits
    → at < length bits → IsCounted words len count → is_in bits at ≡ true → word ≡ get_or words (at / 64) word
    → Puts words len (count - 1) bits at (bit_and word (bit_not w64 (1 * 2 ^ (at % 64) % 2 ^ 64))) false
leaves words len count bits at word view inside was on read =
    let long : length bits ≡ len = rw (← view) (length-bits_of words len) in
    let within : at / 64 < length words = word_within words len count at bits view inside was in
    let old : word ≡ get_or words (at / 64) 0 = read ∙ get_or_default words (at / 64) word 0 within in
    let left : member_count (set bits at false) + 1 ≡ member_count bits = member_count-leave bits at inside on in
    let counted : count ≡ member_count bits = was.counted ∙ ap member_count view in
    let new : bits_of
    (set words (at / 64) (bit_and word (bit_not w64 (1 * 2 ^ (at % 64) % 2 ^ 64)))) len ≡ set bits at false =
    rw (old, ← view)
    (bits_of-put words len at _ (omega arith) within (Writes-and (get_or words (at / 64) 0) (at % 64) (omega arith))) in
    let one_less : count - 1 ≡ member_count (set bits at false) = omega arith in
    record {
      counted = record {
        words_len = length-set words (at / 64) _ ∙ was.words_len;
        counted = one_less ∙ ap member_count (sym new);
      };
      view = new;
    }

-- what a read word says of a place
pub is_in-read : (words : List ℕ) (len count at word : ℕ) (bits : List Bool) → bits_of words len ≡ bits
    → at < length bits → IsCounted words len count → word ≡ get_or words (at / 64) word
    → eqb (bit_and (word / 2 ^ (at % 64)) 1) 1 ≡ is_in bits at
is_in-read words len count at word bits view inside was read =
    let long : length bits ≡ len = rw (← view) (length-bits_of words len) in
    let within : at / 64 < length words = word_within words len count at bits view inside was in
    let old : word ≡ get_or words (at / 64) 0 = read ∙ get_or_default words (at / 64) word 0 within in
    ap (λ (b : ℕ). eqb b 1) (shr_and_one word (at % 64) ∙ ap (λ (w : ℕ). bit_at w (at % 64)) old)
    ∙ sym (get_or-bits_of words len at false (omega arith))
    ∙ ap (λ (xs : List Bool). get_or xs at false) view

-- ---- the least clear place

-- the bits below a place of a word are set in it, and those of the words before
record FullBelow (words : List ℕ) (place low : ℕ) : Type 0 where
  before : (k : ℕ) → k < place → get_or words k 0 ≡ 18446744073709551615
  here : (i : ℕ) → i < low → bit_at (get_or words place 0) i ≡ 1

is_set-full : (words : List ℕ) (place low i : ℕ) → FullBelow words place low → low ≤ 64 → i < 64 * place + low
    → is_set words i ≡ true
is_set-full words place low i full h lt =
    elim (cases_lt (i / 64) place) [
      | inl k ↦ rw (full.before (i / 64) k) (ap (λ (b : ℕ). eqb b 1) (bit_at_ones 64 (i % 64) (omega arith)))
      | inr k ↦
          let e : i / 64 ≡ place = omega arith in
          rw e (ap (λ (b : ℕ). eqb b 1) (full.here (i % 64) (omega arith)))
    ]

is_in-full : (words : List ℕ) (len place low : ℕ) (bits : List Bool) → bits_of words len ≡ bits
    → FullBelow words place low → low ≤ 64 → (k : ℕ) → k < length bits → k < 64 * place + low → is_in bits k ≡ true
is_in-full words len place low bits view full h k inside lt =
    let long : length bits ≡ len = rw (← view) (length-bits_of words len) in
    rw (← view) (get_or-bits_of words len k false (omega arith) ∙ is_set-full words place low k full h lt)

-- what the first word that isn't full says
pub record Found (bits : List Bool) (len at : ℕ) : Type 0 where
  pub least : at < len → IsLeastClear bits at
  pub not_full : at < len → IsFull bits → ⊥
  pub full : len ≤ at → IsFull bits

-- the lowest clear bit of the first word that is not full
pub found_in : (words : List ℕ) (len place word : ℕ) (bits : List Bool) → bits_of words len ≡ bits
    → ((k : ℕ) → k < place → get_or words k 0 ≡ 18446744073709551615) → word ≡ get_or words place 0 → word < 2 ^ 64
    → (word ≡ 18446744073709551615 → ⊥) → Found bits len (64 * place + trailing_ones w64 word)
found_in words len place word bits view before read fits not_ones =
    let low = trailing_ones w64 word in
    let lowest : (low < 64) × (bit_at word low ≡ 0) × ((i : ℕ) → i < low → bit_at word i ≡ 1) =
    bit_at-trailing_ones w64 word (omega (arith, not_ones)) in
    let below : FullBelow words place low =
    record { before = before; here = rw (← read) lowest.2 } in
    let long : length bits ≡ len = rw (← view) (length-bits_of words len) in
    let all : (k : ℕ) → k < length bits → k < 64 * place + low → is_in bits k ≡ true =
    is_in-full words len place low bits view below (omega (arith, lowest.0)) in
    let clear : 64 * place + low < len → is_in bits (64 * place + low) ≡ false = λ within.
    let quotient : (64 * place + low) / 64 ≡ place = omega (arith, lowest.0) in
    let rest : (64 * place + low) % 64 ≡ low = omega (arith, lowest.0) in
    rw (← view)
    (get_or-bits_of words len (64 * place + low) false within
    ∙ rw (quotient, rest, ← read) (ap (λ (b : ℕ). eqb b 1) lowest.1)) in
    record {
      least = λ within. record {
        within = omega arith;
        clear = clear within;
        below = λ k lt. all k (omega arith) lt;
      };
      not_full =
          λ within every. both_ways (is_in bits (64 * place + low)) (clear within)
          (every (64 * place + low) (omega arith));
      full = λ past k lt. all k lt (omega arith);
    }

-- no word is left that isn't full
pub full_words : (words : List ℕ) (len count place : ℕ) (bits : List Bool) → bits_of words len ≡ bits
    → IsCounted words len count → ((k : ℕ) → k < place → get_or words k 0 ≡ 18446744073709551615) → length words ≤ place
    → IsFull bits
full_words words len count place bits view was before all k lt =
    let long : length bits ≡ len = rw (← view) (length-bits_of words len) in
    is_in-full words len place 0 bits view record { before = before; here = λ i h. absurd (omega arith) }
    (omega arith) k lt (omega (arith, was.words_len))
