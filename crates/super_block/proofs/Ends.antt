-- Where every region ends in the store, so do the fixed clusters.
use Rattle.std.proofs.Common.{◌≡◌, ℕ, ◌+◌, ◌*◌, ◌<◌, ◌≤◌, Bool, true, false, List, [], ◌∷◌, Some, None, map, fold, max}
use Rattle.std.proofs.Common.{refl, arith}
use Rattle.std.specs.Prelude.{cond, find, nat_lt, option_map}
use Rattle.std.specs.Int.{div_ceil}
use Rattle.std.proofs.lemmas.Grind.{div_ceil_times}
use Rattle.std.proofs.lemmas.Bool.Decides.{nat_tests}
use Rattle.std.proofs.Math.Nat.{lt_of_mul-lt-mul_right}
use Rattle.super_block.specs.declared.fault.SuperFault.TheVariants.{PastEnd}
use Rattle.super_block.specs.declared.span.Span.{Span}
use Rattle.super_block.specs.declared.page.Super.{Super}
use Rattle.super_block.specs.Span.{end_of, greatest_end}
use Rattle.super_block.specs.Numbers.{cluster_pages_of, clusters_of, fixed_clusters_of, super_page, page_mask}
use Rattle.super_block.specs.Numbers.{cluster_mask, blob_mask, md_region, placed}
use Rattle.super_block.specs.Faults.{past, past_fault, fault_of}
use Rattle.super_block.proofs.Passed.{passed, some_pages, mask_takes_page}

none_past : (limit : ℕ) (a : Span) (rest : List Span) → past limit (a ∷ rest) ≡ None → (end_of a ≤ limit)
    × (past limit rest ≡ None)
none_past limit a rest none = at (nat_lt limit (end_of a)) refl none
  where
    at : (b : Bool) → nat_lt limit (end_of a) ≡ b
        → option_map (λ (x : Span). PastEnd x.region)
        (cond b (Some a) (find (λ (x : Span). nat_lt limit (end_of x)) rest)) ≡ None → (end_of a ≤ limit)
        × (past limit rest ≡ None)
    at true e h = absurd cc
    at false e h = (grind (arith, nat_tests), h)

greatest_within : (limit : ℕ) (spans : List Span) (from : ℕ) → from ≤ limit → past limit spans ≡ None
    → fold max from (map end_of spans) ≤ limit
greatest_within limit [] from le none = le
greatest_within limit (a ∷ rest) from le none =
    let here = none_past limit a rest none in
    greatest_within limit rest (max from (end_of a)) (omega (arith, here)) here.1

ceil_within : (end pages clusters : ℕ) → 0 < pages → end ≤ clusters * pages → div_ceil end pages ≤ clusters
ceil_within end pages clusters some le =
    let times = div_ceil_times end pages some in
    let below : div_ceil end pages * pages < (clusters + 1) * pages = omega (arith, times) in
    omega (arith, lt_of_mul-lt-mul_right pages below)

-- the fixed clusters are clusters of the store
pub fixed_within : (sound : Bool) (s : Super) → fault_of sound s ≡ None → fixed_clusters_of s ≤ clusters_of s
unfolding fixed_clusters_of past_fault placed
fixed_within sound s none =
    let tests = passed sound s none in
    let limit = clusters_of s * cluster_pages_of s in
    let first = none_past limit (page_mask s) (cluster_mask s ∷ blob_mask s ∷ md_region s ∷ []) tests.ends in
    let one : 1 ≤ limit = let long = mask_takes_page s tests.masks in omega (arith, first) in
    ceil_within (greatest_end (super_page ∷ placed s)) (cluster_pages_of s) (clusters_of s) (some_pages s tests.size)
    (greatest_within limit (placed s) 1 one tests.ends)
