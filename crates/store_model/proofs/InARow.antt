-- Numbers in a row.
use Rattle.std.proofs.Common.{◌≡◌, ◌≢◌, ℕ, zero, suc, ◌+◌, ◌<◌, ◌≤◌, true, ◌∷◌, sym, subst, inl, inr, arith}
use Rattle.std.specs.List.{range_with_len}
use Rattle.std.proofs.lemmas.Bool.{cases_Bool, cases_eq, cases_lt}
use Rattle.md_chain.specs.Chain.{is_among}
use Rattle.store_model.specs.Places.{AreDistinct}
use Rattle.store_model.proofs.Sets.{among_either, among_first, among_later}

-- a number is one of a row exactly where it lies in it
pub among_range : (first count i : ℕ) → is_among i (range_with_len first count) ≡ true
    → (first ≤ i) × (i < first + count)
among_range first zero i among = absurd (cc among)
among_range first (suc count) i among =
    elim (among_either i first (range_with_len (first + 1) count) among) [
      | inl e ↦ (omega (arith, e), omega (arith, e))
      | inr later ↦
          let x = among_range (first + 1) count i later in
          let le = x.0 in
          let lt = x.1 in
          (omega (arith, le), omega (arith, lt))
    ]

pub range_among : (first count i : ℕ) → first ≤ i → i < first + count → is_among i (range_with_len first count) ≡ true
range_among first zero i le lt = absurd (omega (arith, le, lt))
range_among first (suc count) i le lt = elim (cases_eq i first) [
  | inl e ↦ subst (λ n. is_among n (first ∷ range_with_len (first + 1) count) ≡ true) (sym e)
      (among_first first (range_with_len (first + 1) count))
  | inr ne ↦ among_later i first (range_with_len (first + 1) count)
      (range_among (first + 1) count i (behind ne) (omega (arith, lt)))
]
  where
    behind : i ≢ first → first + 1 ≤ i
    behind ne = elim (cases_lt first i) [
      | inl less ↦ omega (arith, less)
      | inr ge ↦ absurd (ne (omega (arith, le, ge)))
    ]

-- no number is in it twice
pub range_differs : (first count : ℕ) → AreDistinct (range_with_len first count)
range_differs first zero = tt
range_differs first (suc count) = (
  elim (cases_Bool (is_among first (range_with_len (first + 1) count))) [
    | inl among ↦ absurd (let le = (among_range (first + 1) count first among).0 in omega (arith, le))
    | inr out ↦ out
  ],
  range_differs (first + 1) count,
)
