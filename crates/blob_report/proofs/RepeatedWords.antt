-- A page is its first word again and again exactly where each byte is the one eight places before it.
use Rattle.std.proofs.Common.{◌≡◌, ℕ, zero, suc, ◌+◌, ◌*◌, ◌/◌, ◌%◌, ◌<◌, List, ◌++◌, length, get_or}
use Rattle.std.proofs.Common.{drop, take, refl, sym, ap, ◌∙◌, subst, inl, inr, arith, append_assoc, length-append}
use Rattle.std.specs.Prelude.{min}
use Rattle.std.specs.Int.{to_le_bytes, w64}
use Rattle.std.specs.List.{repeat}
use Rattle.std.specs.Str.{bytes_eq}
use Rattle.std.proofs.lemmas.Bool.{cases_Bool, cases_lt, false≢true}
use Rattle.std.proofs.lemmas.List.{append-nil, get_or-drop, get_or-take, get_or_past, length-take}
use Rattle.std.proofs.lemmas.Nat.{le_bytes_8}
use Rattle.std.proofs.lemmas.Slice.Eq.{bytes_eq-Decides}
use Rattle.std.proofs.Math.Seq.{drop-append_seam, take-append_seam}
use Rattle.volume_model.specs.Volumes.{fill_page}
use Rattle.volume_model.proofs.Pages.{all_repeat}
use Rattle.blob_report.specs.PageText.{first_word}

-- ---- a repeated word

length-repeated : (n : ℕ) (word : List ℕ) → length word ≡ 8 → length (repeat n word) ≡ 8 * n
length-repeated zero word eight = refl
length-repeated (suc n) word eight = omega
    (arith, length-append word (repeat n word), length-repeated n word eight, eight)

at_either_end : (n : ℕ) (word : List ℕ) → word ++ repeat n word ≡ repeat n word ++ word
at_either_end zero word = append-nil word
at_either_end (suc n) word =
    ap (λ l. word ++ l) (at_either_end n word) ∙ sym (append_assoc word (repeat n word) word)

shifted : (n : ℕ) (word : List ℕ) → length word ≡ 8
    → drop 8 (repeat (suc n) word) ≡ take (8 * n) (repeat (suc n) word)
shifted n word eight =
    ap (λ k. drop k (word ++ repeat n word)) (sym eight) ∙ drop-append_seam word (repeat n word)
    ∙ sym (ap (take (8 * n)) (at_either_end n word)
    ∙ ap (λ k. take k (repeat n word ++ word)) (sym (length-repeated n word eight))
    ∙ take-append_seam (repeat n word) word)

-- ---- a page whose bytes come again after eight

module _ (page : List ℕ) (long : length page ≡ 4096) (again : drop 8 page ≡ take 4088 page) where
  eight : length (take 8 page) ≡ 8
  eight = length-take 8 page ∙ ap (min 8) long

  byte_at : (n at : ℕ) → at < 8 → 8 * n + at < 4096 → get_or page (8 * n + at) 0 ≡ get_or page at 0
  byte_at zero at low within = let e : 8 * 0 + at ≡ at = omega arith in ap (λ i. get_or page i 0) e
  byte_at (suc n) at low within =
      let e : 8 * suc n + at ≡ 8 + (8 * n + at) = omega arith in
      ap (λ i. get_or page i 0) e ∙ sym (get_or-drop 8 page (8 * n + at) 0)
      ∙ ap (λ l. get_or l (8 * n + at) 0) again ∙ get_or-take 4088 page (8 * n + at) 0 (omega (arith, within))
      ∙ byte_at n at low (omega (arith, within))

  repeats : page ≡ repeat 512 (take 8 page)
  repeats = all_repeat page (take 8 page) long eight (λ k within.
      let e : k ≡ 8 * (k / 8) + k % 8 = omega arith in
      let low : k % 8 < 8 = omega arith in
      ap (λ i. get_or page i 0) e ∙ byte_at (k / 8) (k % 8) low (omega (arith, within))
      ∙ sym (get_or-take 8 page (k % 8) 0 low))

-- ---- the test

module _ (page : List ℕ) (long : length page ≡ 4096) (bytes : (i : ℕ) → get_or page i 0 < 256) where
  first_bytes : (i : ℕ) → get_or (take 8 page) i 0 < 256
  first_bytes i = elim (cases_lt i 8) [
    | inl low ↦ subst (λ b. b < 256) (sym (get_or-take 8 page i 0 low)) (bytes i)
    | inr past ↦ subst (λ b. b < 256) (sym (get_or_past (take 8 page) i 0 (omega (arith, past, length_first))))
        (omega arith)
  ]
    where
      length_first : length (take 8 page) ≡ 8
      length_first = length-take 8 page ∙ ap (min 8) long

  word_is : to_le_bytes w64 (first_word page) ≡ take 8 page
  word_is = le_bytes_8 (take 8 page) (first_word page) (length-take 8 page ∙ ap (min 8) long) first_bytes refl

  filled : drop 8 page ≡ take 4088 page → page ≡ fill_page (first_word page)
  unfolding fill_page
  filled again = repeats page long again ∙ ap (repeat 512) (sym word_is)

  comes_again : page ≡ fill_page (first_word page) → drop 8 page ≡ take 4088 page
  unfolding fill_page
  comes_again is =
      subst (λ (p : List ℕ). drop 8 p ≡ take 4088 p) (sym (is ∙ ap (repeat 512) word_is))
      (shifted 511 (take 8 page) (length-take 8 page ∙ ap (min 8) long))

  -- the two parts are compared in place of the page and its word repeated
  pub repeats_word : bytes_eq (drop 8 page) (take 4088 page) ≡ bytes_eq page (fill_page (first_word page))
  repeats_word = elim (cases_Bool (bytes_eq (drop 8 page) (take 4088 page))) [
    | inl again ↦ again ∙ sym ((bytes_eq-Decides page (fill_page (first_word page))).1
        (filled ((bytes_eq-Decides (drop 8 page) (take 4088 page)).0 again)))
    | inr differs ↦ elim (cases_Bool (bytes_eq page (fill_page (first_word page)))) [
      | inl is ↦ absurd (false≢true (sym differs ∙ (bytes_eq-Decides (drop 8 page) (take 4088 page)).1
          (comes_again ((bytes_eq-Decides page (fill_page (first_word page))).0 is))))
      | inr not ↦ differs ∙ sym not
    ]
  ]
