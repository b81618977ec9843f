-- What is found among heads, and what adds up over them.
use Rattle.std.proofs.Common.{◌≡◌, ℕ, zero, suc, ◌+◌, ◌-◌, ◌<◌, ◌≤◌, Bool, true, false, Option, Some, None, IsSome}
use Rattle.std.proofs.Common.{refl, sym, ap, ◌∙◌, inl, inr, arith}
use Rattle.std.specs.List.{range_with_len, find, sum_by}
use Rattle.std.proofs.lemmas.Bool.{cases_Bool, cases_lt, false≢true}
use Rattle.volume_model.proofs.Heads.{sum_more}

-- the first number that passes
pub find_first : (p : ℕ → Bool) (a n h : ℕ) → a ≤ h → h < a + n → p h ≡ true
    → ((k : ℕ) → a ≤ k → k < h → p k ≡ false) → find p (range_with_len a n) ≡ Some h
find_first p a zero h low high passes below = absurd (omega arith)
find_first p a (suc n) h low high passes below = elim (cases_Bool (p a)) [
  | inl here ↦ elim (cases_lt a h) [
    | inl lt ↦ absurd (false≢true (sym (below a (omega arith) lt) ∙ here))
    | inr le ↦ let same : a ≡ h = omega arith in rw here (ap Some same)
  ]
  | inr not_here ↦ elim (cases_lt a h) [
    | inl lt ↦ rw not_here
        (find_first p (a + 1) n h (omega arith) (omega arith) passes (λ k le l. below k (omega arith) l))
    | inr le ↦ let same : a ≡ h = omega arith in absurd (false≢true (sym not_here ∙ ap p same ∙ passes))
  ]
]

-- none passes
pub find_none : (p : ℕ → Bool) (a n : ℕ) → ((k : ℕ) → a ≤ k → k < a + n → p k ≡ false)
    → find p (range_with_len a n) ≡ None
find_none p a zero fails = refl
find_none p a (suc n) fails = rw (fails a (omega arith) (omega arith))
    (find_none p (a + 1) n (λ k le lt. fails k (omega arith) (omega arith)))

sum_past : (g : ℕ → ℕ) (m d : ℕ) → ((k : ℕ) → m ≤ k → k < m + d → g k ≡ 0)
    → sum_by g (range_with_len 0 (m + d)) ≡ sum_by g (range_with_len 0 m)
sum_past g m zero none = let e : m + 0 ≡ m = omega arith in ap (λ k. sum_by g (range_with_len 0 k)) e
sum_past g m (suc d) none =
    let e : m + suc d ≡ (m + d) + 1 = omega arith in
    let more = sum_more g (m + d) in
    let before = sum_past g m d (λ k le lt. none k le (omega arith)) in
    let last = none (m + d) (omega arith) (omega arith) in
    ap (λ k. sum_by g (range_with_len 0 k)) e ∙ omega (arith, more, before, last)

-- numbers that add nothing
pub sum_same : (g : ℕ → ℕ) (m n : ℕ) → m ≤ n → ((k : ℕ) → m ≤ k → k < n → g k ≡ 0)
    → sum_by g (range_with_len 0 n) ≡ sum_by g (range_with_len 0 m)
sum_same g m n le none =
    let e : m + (n - m) ≡ n = omega arith in
    ap (λ k. sum_by g (range_with_len 0 k)) (sym e) ∙ sum_past g m (n - m) (λ k low lt. none k low (omega arith))

-- what is not there is none
pub none_of : {X : Type 0} (o : Option X) → (IsSome o → ⊥) → o ≡ None
none_of None never = refl
none_of (Some x) never = absurd (never refl)
