-- From a place to the next head that a map has, over the places between, which are none.
use Rattle.std.proofs.Common.{◌≡◌, ℕ, zero, suc, ◌+◌, ◌-◌, ◌<◌, ◌≤◌, None, subst, arith}
use Rattle.std.specs.Ordering.{nat_cmp}
use Rattle.std.specs.FinMap as map
use Rattle.blob_meta.specs.Heads.{IsNextFrom}

-- what is kept from each place to the one behind it is kept over all
kept_over : (P : ℕ → Type 0) (from count : ℕ) → ((h : ℕ) → from ≤ h → h < from + count → P h → P (h + 1)) → P from
    → P (from + count)
kept_over P from zero step p = subst P (omega arith) p
kept_over P from (suc count) step p =
    let before : P (from + count) =
    kept_over P from count (λ h le lt. step h le (omega (arith, lt))) p in
    subst P (omega arith) (step (from + count) (omega arith) (omega arith) before)

module _ {V : Type 0} (m : map.FinMap nat_cmp V) (P : ℕ → Type 0)
    (skips : (h : ℕ) → map.get m h ≡ None → P h → P (h + 1)) where
  -- what is kept over a place without head is kept up to an end below which there is no further head
  pub up_to_end : (from end : ℕ) → from ≤ end → ((h : ℕ) → from ≤ h → h < end → map.get m h ≡ None) → P from
      → P end
  up_to_end from end le none p =
      subst P (omega (arith, le))
      (kept_over P from (end - from) (λ h low high. skips h (none h low (omega (arith, le, high)))) p)

  -- and up to the next head
  pub up_to_next : (from next : ℕ) → IsNextFrom m from next → P from → P next
  up_to_next from next is p = up_to_end from next is.above is.none_between p
