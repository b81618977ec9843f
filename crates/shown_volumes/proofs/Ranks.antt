-- In lawful metadata following parents ends before the number of metadata pages: any ranks of blobs give ranks up to
-- that number.
use Rattle.std.proofs.Common.{◌≡◌, ℕ, zero, suc, ◌+◌, ◌<◌, ◌≤◌, Bool, true, false, Some, refl, ap, inl, inr}
use Rattle.std.proofs.Common.{arith}
use Rattle.std.specs.Prelude.{if◌then◌else◌, nat_lt}
use Rattle.std.specs.List.{range_with_len, sum_by}
use Rattle.std.proofs.lemmas.Bool.{cases_eq}
use Rattle.std.proofs.lemmas.Bool.Decides.{nat_tests}
use Rattle.std.proofs.lemmas.List.Sums.{sum_by-cons}
use Rattle.blob_meta.specs.declared.meta.Meta.{Meta}
use Rattle.blob_meta.specs.Parents.{parent_of}
use Rattle.blob_meta.specs.Resolving.{IsLawful}
use Rattle.shown_volumes.specs.Maps.{Metas}

-- ---- sums of which one is the less

module _ (f g : ℕ → ℕ) (le : (q : ℕ) → f q ≤ g q) where
  sum_le : (a n : ℕ) → sum_by f (range_with_len a n) ≤ sum_by g (range_with_len a n)
  sum_le a zero = omega arith
  sum_le a (suc n) =
      let fs = sum_by-cons f a (range_with_len (a + 1) n) in
      let gs = sum_by-cons g a (range_with_len (a + 1) n) in
      let rest = sum_le (a + 1) n in
      let here = le a in
      omega (arith, fs, gs, rest, here)

  sum_lt : (a n i : ℕ) → a ≤ i → i < a + n → f i < g i
      → sum_by f (range_with_len a n) < sum_by g (range_with_len a n)
  sum_lt a zero i low below lt = absurd (omega (arith, low, below))
  sum_lt a (suc n) i low below lt =
      let fs = sum_by-cons f a (range_with_len (a + 1) n) in
      let gs = sum_by-cons g a (range_with_len (a + 1) n) in
      elim (cases_eq a i) [
        | inl e ↦
            let fi : f a ≡ f i = ap f e in
            let gi : g a ≡ g i = ap g e in
            let rest = sum_le (a + 1) n in
            omega (arith, fs, gs, fi, gi, lt, rest)
        | inr ne ↦
            let rest = sum_lt (a + 1) n i (omega (arith, low, ne)) (omega (arith, below)) lt in
            let here = le a in
            omega (arith, fs, gs, rest, here)
      ]

sum_ones : (a n : ℕ) → sum_by (λ _. 1) (range_with_len a n) ≡ n
sum_ones a zero = refl
sum_ones a (suc n) =
    let cons = sum_by-cons (λ _. 1) a (range_with_len (a + 1) n) in
    let rest = sum_ones (a + 1) n in
    omega (arith, cons, rest)

-- ---- ranks

-- one for each place of a lower rank
module _ (n : ℕ) (rank : ℕ → ℕ) where
  abbrev one_for : Bool → ℕ
  one_for lower = if lower then 1 else 0

  abbrev lower : ℕ → ℕ → ℕ
  lower h q = one_for (nat_lt (rank q) (rank h))

  abbrev level : ℕ → ℕ
  level h = sum_by (lower h) (range_with_len 0 n)

  at_most_one : (b : Bool) → one_for b ≤ 1
  at_most_one true = omega arith
  at_most_one false = omega arith

  most : (h : ℕ) → level h ≤ n
  most h =
      let sum = sum_le (lower h) (λ _. 1) (λ q. at_most_one (nat_lt (rank q) (rank h))) 0 n in
      let ones = sum_ones 0 n in
      omega (arith, sum, ones)

  rises : (p h : ℕ) → p < n → rank p < rank h → level p < level h
  rises p h low lt = sum_lt (lower p) (lower h) (λ q. grind (arith, nat_tests, lt)) 0 n p (omega arith)
      (omega (arith, low)) (grind (arith, nat_tests, lt))

-- Ranks that fall from a blob to its parent, up to the number of metadata pages.
pub record Levels (md_len : ℕ) (metas : Metas) : Type 0 where
  pub level : ℕ → ℕ
  pub most : (h : ℕ) → level h ≤ md_len
  pub falls : (h p : ℕ) (m : Meta) → metas h ≡ Some m → parent_of m ≡ Some p → level p < level h

-- lawful metadata of heads of the region has such ranks
pub levels : (md_len : ℕ) (metas : Metas) → IsLawful md_len metas → ((h : ℕ) (m : Meta) → metas h ≡ Some m → h < md_len)
    → Levels md_len metas
levels md_len metas lawful low = record {
  level = level md_len lawful.rank;
  most = most md_len lawful.rank;
  falls = λ h p m there of.
      let parent = lawful.parents h p m there of in
      rises md_len lawful.rank p h (low p parent.0 parent.1) (lawful.falls h p m there of);
}
