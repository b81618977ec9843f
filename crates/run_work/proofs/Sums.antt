-- Sums of which one term changes, and the others by no more than a bound.
use Rattle.std.proofs.Common.{◌≡◌, ◌≢◌, inl, inr, ℕ, zero, suc, ◌+◌, ◌*◌, ◌<◌, ◌≤◌, if◌then◌else◌, refl, sym, ap}
use Rattle.std.proofs.Common.{subst, arith}
use Rattle.std.proofs.lemmas.Bool.Decides.{eqb_tells}
use Rattle.run_work.specs.RunState.{RowInRun, RowsInRun}
use Rattle.run_work.specs.Reading.{with_row_in_run}
use Rattle.run_work.specs.Work.{sum_below}

-- ---- products

-- one more on the left
pub suc_times : (n d : ℕ) → suc n * d ≡ d + n * d
suc_times n d = grind arith

-- one more on the right
pub times_suc : (n d : ℕ) → n * suc d ≡ n + n * d
times_suc n d = grind arith

-- a sum on the right
pub times_plus : (n a b : ℕ) → n * (a + b) ≡ n * a + n * b
times_plus n a b = grind arith

-- a factor may grow on the right
pub times_le : (n a b : ℕ) → a ≤ b → n * a ≤ n * b
times_le zero a b le = omega arith
times_le (suc n) a b le =
    let rest = times_le n a b le in
    let l = suc_times n a in
    let r = suc_times n b in
    omega (arith, rest, l, r, le)

-- and on the left
pub le_times : (a b n : ℕ) → a ≤ b → a * n ≤ b * n
le_times a b n le =
    let rest = times_le n a b le in
    let l : a * n ≡ n * a = grind arith in
    let r : b * n ≡ n * b = grind arith in
    omega (arith, rest, l, r)

-- ---- sums

sum_same : (g h : ℕ → ℕ) (n : ℕ) → ((k : ℕ) → k < n → g k ≡ h k) → sum_below g n ≡ sum_below h n
sum_same g h zero same = refl
sum_same g h (suc n) same =
    let rest = sum_same g h n (λ k lt. same k (omega (arith, lt))) in
    let here = same n (omega arith) in
    omega (arith, rest, here)

-- one term changes
pub sum_at : (g h : ℕ → ℕ) (n i : ℕ) → ((k : ℕ) → k ≢ i → g k ≡ h k) → i < n
    → sum_below g n + h i ≡ sum_below h n + g i
sum_at g h zero i same low = absurd (omega (arith, low))
sum_at g h (suc n) i same low = elim (eqb_tells i n) [
  | inl e ↦
      let rest = sum_same g h n (λ k lt. same k
      (λ is. absurd (let is = is in let e = e.1 in omega (arith, is, e, lt)))) in
      subst (λ j. sum_below g n + g n + h j ≡ sum_below h n + h n + g j) (sym e.1) (omega (arith, rest))
  | inr e ↦
      let ne = e.1 in
      let rest = sum_at g h n i same (omega (arith, low, ne)) in
      let here = same n (λ is. ne (sym is)) in
      omega (arith, rest, here)
]

-- each term grows by so much at most
pub sum_up : (g h : ℕ → ℕ) (n d : ℕ) → ((k : ℕ) → k < n → g k ≤ h k + d) → sum_below g n ≤ sum_below h n + n * d
sum_up g h zero d up = omega arith
sum_up g h (suc n) d up =
    let rest = sum_up g h n d (λ k lt. up k (omega (arith, lt))) in
    let here = up n (omega arith) in
    let many : suc n * d ≡ d + n * d = suc_times n d in
    omega (arith, rest, here, many)

-- each term but one does
pub sum_more : (g h : ℕ → ℕ) (n i d : ℕ) → ((k : ℕ) → k ≢ i → g k ≤ h k + d) → i < n
    → sum_below g n + h i ≤ sum_below h n + g i + n * d
sum_more g h zero i d up low = absurd (omega (arith, low))
sum_more g h (suc n) i d up low =
    let many : suc n * d ≡ d + n * d = suc_times n d in
    elim (eqb_tells i n) [
      | inl e ↦
          let rest = sum_up g h n d
          (λ k lt. up k (λ is. absurd (let is = is in let e = e.1 in omega (arith, is, e, lt)))) in
          subst (λ j. sum_below g n + g n + h j ≤ sum_below h n + h n + g j + suc n * d) (sym e.1)
          (omega (arith, rest, many))
      | inr e ↦
          let ne = e.1 in
          let rest = sum_more g h n i d up (omega (arith, low, ne)) in
          let here = up n (λ is. ne (sym is)) in
          omega (arith, rest, here, many)
    ]

-- ---- rows

-- the row that is another
pub row_here : (rows : RowsInRun) (ch : ℕ) (row : RowInRun) → with_row_in_run rows ch row ch ≡ row
row_here rows ch row = elim (eqb_tells ch ch) [
  | inl h ↦ ap (λ t. if t then row else rows ch) h.0
  | inr h ↦ absurd (h.1 refl)
]

-- and the others, which stay
pub row_there : (rows : RowsInRun) (ch : ℕ) (row : RowInRun) (k : ℕ) → k ≢ ch → with_row_in_run rows ch row k ≡ rows k
row_there rows ch row k ne = elim (eqb_tells k ch) [
  | inl h ↦ absurd (ne h.1)
  | inr h ↦ ap (λ t. if t then row else rows k) h.0
]
