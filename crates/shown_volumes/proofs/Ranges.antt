-- Lists of what a function gives at each number of a range.
use Rattle.std.proofs.Common.{◌≡◌, ◌≢◌, ℕ, zero, suc, ◌+◌, ◌<◌, ◌≤◌, ◌++◌, List, [], ◌∷◌, map, Some, refl, sym, ap, ◌∙◌}
use Rattle.std.proofs.Common.{arith}
use Rattle.std.specs.Prelude.{replicate, slice_get, slice_set}
use Rattle.std.specs.List.{range_with_len}

-- one and the same from some number on
pub all_one : {X : Type 0} (f : ℕ → X) (x : X) (a n : ℕ) → ((q : ℕ) → a ≤ q → f q ≡ x)
    → map f (range_with_len a n) ≡ replicate n x
all_one f x a zero each = refl
all_one f x a (suc n) each = ap (λ y. y ∷ map f (range_with_len (a + 1) n)) (each a (omega arith))
    ∙ ap (λ xs. x ∷ xs) (all_one f x (a + 1) n (λ q le. each q (omega (arith, le))))

-- a range in two parts
pub in_two : {X : Type 0} (f : ℕ → X) (a m n : ℕ)
    → map f (range_with_len a (m + n)) ≡ map f (range_with_len a m) ++ map f (range_with_len (a + m) n)
in_two f a zero n =
    let none : 0 + n ≡ n = omega arith in
    let here : a + 0 ≡ a = omega arith in
    ap (λ i. map f (range_with_len a i)) none ∙ ap (λ i. map f (range_with_len i n)) (sym here)
in_two f a (suc m) n =
    let one : suc m + n ≡ suc (m + n) = omega arith in
    let next : (a + 1) + m ≡ a + suc m = omega arith in
    ap (λ i. map f (range_with_len a i)) one
    ∙ ap (λ xs. f a ∷ xs)
    (in_two f (a + 1) m n ∙ ap (λ i. map f (range_with_len (a + 1) m) ++ map f (range_with_len i n)) next)

module _ {X : Type 0} (f g : ℕ → X) where
  -- two functions that give the same at one number
  pub same_at : (a n i : ℕ) → f (a + i) ≡ g (a + i)
      → slice_get (map f (range_with_len a n)) i ≡ slice_get (map g (range_with_len a n)) i
  same_at a zero i e = refl
  same_at a (suc n) zero e = let z : a + 0 ≡ a = omega arith in ap (λ x. Some x) (ap f (sym z) ∙ e ∙ ap g z)
  same_at a (suc n) (suc i) e =
      let m : (a + 1) + i ≡ a + suc i = omega arith in same_at (a + 1) n i (ap f m ∙ e ∙ ap g (sym m))

  -- or at all below some number
  pub same_below : (a n : ℕ) → ((q : ℕ) → q < a + n → g q ≡ f q)
      → map g (range_with_len a n) ≡ map f (range_with_len a n)
  same_below a zero each = refl
  same_below a (suc n) each = ap (λ x. x ∷ map g (range_with_len (a + 1) n)) (each a (omega arith))
      ∙ ap (λ xs. f a ∷ xs) (same_below (a + 1) n (λ q lt. each q (omega (arith, lt))))

  -- or at all from some number on
  same_from : (a n : ℕ) → ((q : ℕ) → a ≤ q → g q ≡ f q) → map g (range_with_len a n) ≡ map f (range_with_len a n)
  same_from a zero each = refl
  same_from a (suc n) each = ap (λ x. x ∷ map g (range_with_len (a + 1) n)) (each a (omega arith))
      ∙ ap (λ xs. f a ∷ xs) (same_from (a + 1) n (λ q le. each q (omega (arith, le))))

  -- or at all but one
  pub set_at : (a n i : ℕ) (x : X) → g (a + i) ≡ x → ((q : ℕ) → q ≢ a + i → g q ≡ f q)
      → map g (range_with_len a n) ≡ slice_set (map f (range_with_len a n)) i x
  set_at a zero i x here other = refl
  set_at a (suc n) zero x here other =
      let z : a + 0 ≡ a = omega arith in
      ap (λ y. y ∷ map g (range_with_len (a + 1) n)) (ap g (sym z) ∙ here)
      ∙ ap (λ xs. x ∷ xs) (same_from (a + 1) n (λ q le. other q (λ e. omega (arith, e, le))))
  set_at a (suc n) (suc i) x here other =
      let m : (a + 1) + i ≡ a + suc i = omega arith in
      ap (λ y. y ∷ map g (range_with_len (a + 1) n)) (other a (λ e. omega (arith, e)))
      ∙ ap (λ xs. f a ∷ xs) (set_at (a + 1) n i x (ap g m ∙ here) (λ q ne. other q (λ e. ne (e ∙ sym m))))

-- an element is set, and another is read
pub get_set_other : {X : Type 0} (xs : List X) (i j : ℕ) (x : X) → j ≢ i
    → slice_get (slice_set xs i x) j ≡ slice_get xs j
get_set_other [] i j x ne = refl
get_set_other (y ∷ ys) zero zero x ne = absurd (ne refl)
get_set_other (y ∷ ys) zero (suc j) x ne = refl
get_set_other (y ∷ ys) (suc i) zero x ne = refl
get_set_other (y ∷ ys) (suc i) (suc j) x ne = get_set_other ys i j x (λ e. ne (ap suc e))
