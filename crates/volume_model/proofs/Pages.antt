-- Pages that say one word again and again.
use Rattle.std.proofs.Common.{◌≡◌, ℕ, zero, suc, ◌*◌, ◌-◌, ◌%◌, ◌<◌, List, length, get_or, refl, sym, ap, ◌∙◌, inl, inr}
use Rattle.std.proofs.Common.{arith, length-append}
use Rattle.std.specs.List.{repeat}
use Rattle.std.proofs.lemmas.Bool.{cases_lt}
use Rattle.std.proofs.Math.ListN.{get_or-append}
use Rattle.std.proofs.Math.Seq.{get_or-append_right}
use Rattle.std.proofs.lemmas.List.{ext_get_or}

length-repeat : (n : ℕ) (xs : List ℕ) → length xs ≡ 8 → length (repeat n xs) ≡ n * 8
length-repeat zero xs eight = refl
length-repeat (suc n) xs eight = omega (arith, length-append xs (repeat n xs), length-repeat n xs eight)

repeat_at : (n : ℕ) (xs : List ℕ) (k : ℕ) → length xs ≡ 8 → k < n * 8 → get_or (repeat n xs) k 0 ≡ get_or xs (k % 8) 0
repeat_at zero xs k eight lt = absurd (omega (arith, lt))
repeat_at (suc n) xs k eight lt = elim (cases_lt k (length xs)) [
  | inl front ↦ let same : k ≡ k % 8 = omega (arith, front, eight) in
      get_or-append xs (repeat n xs) 0 k front ∙ ap (λ i. get_or xs i 0) same
  | inr back ↦
      let within : k - length xs < n * 8 = omega (arith, back, eight, lt) in
      let same : (k - length xs) % 8 ≡ k % 8 = omega (arith, back, eight) in
      get_or-append_right xs (repeat n xs) k 0 back ∙ repeat_at n xs (k - length xs) eight within
      ∙ ap (λ i. get_or xs i 0) same
]

-- a page whose bytes are those of a word in turn
pub all_repeat : (page bytes : List ℕ) → length page ≡ 4096 → length bytes ≡ 8
    → ((k : ℕ) → k < 4096 → get_or page k 0 ≡ get_or bytes (k % 8) 0) → page ≡ repeat 512 bytes
all_repeat page bytes long eight each =
    let same : length page ≡ length (repeat 512 bytes) = long ∙ sym (length-repeat 512 bytes eight) in
    ext_get_or 0 page (repeat 512 bytes) same (λ k lt. each k (omega (arith, lt, long))
    ∙ sym (repeat_at 512 bytes k eight (omega (arith, lt, long))))
