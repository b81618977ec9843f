-- Sums over the heads below a place.
use Rattle.std.proofs.Common.{◌≡◌, ℕ, zero, suc, ◌+◌, ◌<◌, ◌≤◌, refl, ap, subst, inl, inr, arith}
use Rattle.std.proofs.lemmas.Bool.{cases_lt}
use Rattle.std.specs.List.{sum_by, range_with_len}
use Rattle.std.proofs.lemmas.List.Sums.{sum_by-cons}

-- the numbers from a on, n of them
abbrev total : (ℕ → ℕ) → ℕ → ℕ → ℕ
total f a n = sum_by f (range_with_len a n)

total_first : (f : ℕ → ℕ) (a n : ℕ) → total f a (suc n) ≡ f a + total f (a + 1) n
total_first f a n = sum_by-cons f a (range_with_len (a + 1) n)

total_more : (f : ℕ → ℕ) (a n k : ℕ) → a + n ≡ k → total f a (suc n) ≡ total f a n + f k
total_more f a zero k e =
    let x = total_first f a 0 in let y : f a ≡ f k = ap f (omega (arith, e)) in omega (arith, x, y)
total_more f a (suc n) k e =
    let x = total_first f a (suc n) in
    let y = total_more f (a + 1) n k (omega (arith, e)) in
    let z = total_first f a n in
    omega (arith, x, y, z)

total_same : (f g : ℕ → ℕ) (a n : ℕ) → ((k : ℕ) → a ≤ k → k < a + n → f k ≡ g k) → total f a n ≡ total g a n
total_same f g a zero same = refl
total_same f g a (suc n) same =
    let x = total_first f a n in
    let y = total_first g a n in
    let z = total_same f g (a + 1) n (λ k le lt. same k (omega (arith, le)) (omega (arith, lt))) in
    let h = same a (omega arith) (omega arith) in
    omega (arith, x, y, z, h)

-- ---- from 0 on

-- a sum with one term more
pub sum_more : (f : ℕ → ℕ) (n : ℕ) → sum_by f (range_with_len 0 (n + 1)) ≡ sum_by f (range_with_len 0 n) + f n
sum_more f n = subst (λ (m : ℕ). total f 0 m ≡ total f 0 n + f n) (suc_more n) (total_more f 0 n n (omega arith))
  where
    suc_more : (n : ℕ) → suc n ≡ n + 1
    suc_more n = omega arith

-- sums of the same terms are the same
pub sum_same : (f g : ℕ → ℕ) (n : ℕ) → ((k : ℕ) → k < n → f k ≡ g k)
    → sum_by f (range_with_len 0 n) ≡ sum_by g (range_with_len 0 n)
sum_same f g n same = total_same f g 0 n (λ k le lt. same k (omega (arith, lt)))

-- a sum of more terms is no smaller
pub sum_grows : (f : ℕ → ℕ) (m n : ℕ) → m ≤ n → sum_by f (range_with_len 0 m) ≤ sum_by f (range_with_len 0 n)
sum_grows f m zero le = let none : m ≡ 0 = omega (arith, le) in rw none (omega arith)
sum_grows f m (suc n) le = elim (cases_lt n m) [
  | inl all ↦ let e : m ≡ suc n = omega (arith, le, all) in rw e (omega arith)
  | inr less ↦ let x = sum_grows f m n less in let y = total_more f 0 n n (omega arith) in omega (arith, x, y)
]

-- a sum of terms that are no greater is no greater
pub sum_le : (f g : ℕ → ℕ) (n : ℕ) → ((k : ℕ) → f k ≤ g k)
    → sum_by f (range_with_len 0 n) ≤ sum_by g (range_with_len 0 n)
sum_le f g n le = total_le 0 n
  where
    total_le : (a n : ℕ) → total f a n ≤ total g a n
    total_le a zero = omega arith
    total_le a (suc n) =
        let x = total_first f a n in
        let y = total_first g a n in
        let z = total_le (a + 1) n in
        let h = le a in
        omega (arith, x, y, z, h)
