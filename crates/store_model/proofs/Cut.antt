-- Lists that are cut to a length, or lengthened to it by one value; maps among them.
use Rattle.std.proofs.Common.{◌≡◌, ℕ, zero, suc, ◌-◌, ◌<◌, ◌≤◌, Bool, List, [], ◌∷◌, ◌++◌, length, Option}
use Rattle.std.proofs.Common.{Some, None, refl, sym, ap, ◌∙◌, inl, inr, arith, length-append, subst}
use Rattle.std.specs.Prelude.{find, if◌then◌else◌, replicate, slice_get, take}
use Rattle.std.specs.Option.{option_and_then}
use Rattle.std.proofs.lemmas.Bool.{cases_lt}
use Rattle.std.proofs.lemmas.List.{append-nil, length-replicate, length-take-le, take_all}
use Rattle.std.proofs.lemmas.Option.{slice_get_past}
use Rattle.blob_meta.specs.Faults.{clusters_held, is_outside}
use Rattle.shown_volumes.proofs.Inside.{passes}
use Rattle.store_model.proofs.NewBlob.{empty_slot}
pub use Rattle.shown_volumes.proofs.MapTests.{all_full, slot_in}

-- so many elements: the first ones, and then as many of this value as are wanting
abbrev pub cut : {X : Type 0} → List X → ℕ → X → List X
cut xs n x = take n xs ++ replicate (n - length xs) x

module _ {X : Type 0} (xs : List X) (n : ℕ) (x : X) where
  pub is_cut : n ≤ length xs → cut xs n x ≡ take n xs
  is_cut le = let none : n - length xs ≡ 0 = omega (arith, le) in
      ap (λ i. take n xs ++ replicate i x) none ∙ append-nil (take n xs)

  pub is_longer : length xs ≤ n → cut xs n x ≡ xs ++ replicate (n - length xs) x
  is_longer le = ap (λ ys. ys ++ replicate (n - length xs) x) (take_all n xs le)

  pub length_cut : length (cut xs n x) ≡ n
  length_cut = elim (cases_lt (length xs) n) [
    | inl lt ↦
        let le : length xs ≤ n = omega (arith, lt) in
        ap length (is_longer le) ∙ omega (
          arith,
          le,
          length-append xs (replicate (n - length xs) x),
          length-replicate (n - length xs) x,
        )
    | inr le ↦ ap length (is_cut le) ∙ length-take-le n xs le
  ]

get_take : {X : Type 0} (xs : List X) (n i : ℕ) → i < n → slice_get (take n xs) i ≡ slice_get xs i
get_take [] zero i lt = refl
get_take [] (suc n) i lt = refl
get_take (x ∷ xs) zero i lt = absurd (omega (arith, lt))
get_take (x ∷ xs) (suc n) zero lt = refl
get_take (x ∷ xs) (suc n) (suc i) lt = get_take xs n i (omega (arith, lt))

-- ---- maps

slot_longer : (map : List (Option ℕ)) (n i : ℕ) → slot_in (map ++ replicate n None) i ≡ slot_in map i
slot_longer [] n i = empty_slot n i
slot_longer (s ∷ map) n zero = refl
slot_longer (s ∷ map) n (suc i) = slot_longer map n i

-- slots are as they were
pub slot_kept : (map : List (Option ℕ)) (slots i : ℕ) → i < slots → slot_in (cut map slots None) i ≡ slot_in map i
slot_kept map slots i lt = elim (cases_lt (length map) slots) [
  | inl longer ↦
      ap (λ m. slot_in m i) (is_longer map slots None (omega (arith, longer)))
      ∙ slot_longer map (slots - length map) i
  | inr le ↦
      ap (λ m. slot_in m i) (is_cut map slots None le) ∙ ap (option_and_then (λ s. s)) (get_take map slots i lt)
]

-- and none is behind the last
pub slot_past : (map : List (Option ℕ)) (i : ℕ) → length map ≤ i → slot_in map i ≡ None
slot_past map i le = ap (option_and_then (λ s. s)) (slice_get_past map i le)

-- so no cluster is new
pub slot_was : (map : List (Option ℕ)) (slots i cluster : ℕ) → slot_in (cut map slots None) i ≡ Some cluster
    → slot_in map i ≡ Some cluster
slot_was map slots i cluster at = elim (cases_lt i slots) [
  | inl lt ↦ sym (slot_kept map slots i lt) ∙ at
  | inr past ↦ absurd (let bad = sym (slot_past (cut map slots None) i
      (subst (λ n. n ≤ i) (sym (length_cut map slots None)) past)) ∙ at in cc bad)
]

-- ---- tests of maps

module _ (fixed clusters : ℕ) where
  inside_take : (map : List (Option ℕ)) (n : ℕ) → find (is_outside fixed clusters) (clusters_held map) ≡ None
      → find (is_outside fixed clusters) (clusters_held (take n map)) ≡ None
  inside_take [] zero none = refl
  inside_take [] (suc n) none = refl
  inside_take (s ∷ map) zero none = refl
  inside_take (None ∷ map) (suc n) none = inside_take map n none
  inside_take (Some c ∷ map) (suc n) none =
      let parts = passes fixed clusters c (clusters_held map) none in
      subst (λ (b : Bool). (if b then Some c else find (is_outside fixed clusters) (clusters_held (take n map))) ≡ None)
      (sym parts.0) (inside_take map n parts.1)
