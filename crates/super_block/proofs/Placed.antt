-- The regions lie apart, in the fixed clusters, and the clusters on the device.
use Rattle.std.proofs.Common.{◌≡◌, ℕ, zero, suc, ◌*◌, ◌/◌, ◌<◌, ◌≤◌, Bool, true, false, List, [], ◌∷◌, Some, None, All}
use Rattle.std.proofs.Common.{AllPairs, min, max, refl, subst, arith}
use Rattle.std.specs.Prelude.{cond, find, option_map}
use Rattle.std.proofs.lemmas.Bool.{leb-true}
use Rattle.std.proofs.lemmas.Bool.Decides.{nat_tests}
use Rattle.std.proofs.lemmas.Grind.{div_ceil_times}
use Rattle.std.proofs.lemmas.List.Elements.{All-cons, All-nil}
use Rattle.std.proofs.lemmas.List.Kept.{AllPairs-cons}
use Rattle.std.proofs.Math.Nat.{div-mul-le_self}
use Rattle.super_block.specs.declared.fault.SuperFault.TheVariants.{Overlap}
use Rattle.super_block.specs.declared.span.Span.{Span}
use Rattle.super_block.specs.declared.page.Super.{Super}
use Rattle.super_block.specs.Span.{end_of, greatest_end, shares}
use Rattle.super_block.specs.Numbers.{cluster_pages_of, clusters_of, fixed_clusters_of, size_of, super_page, placed}
use Rattle.super_block.specs.Faults.{fault_of, overlap, overlap_with, overlap_fault, cluster_size_fault, size_fault}
use Rattle.super_block.specs.Placed.{Covers, AreApart, IsPlaced}
use Rattle.super_block.proofs.Passed.{AllPass, all_pass, passed, holds, size_is_whole, some_pages, few_pages}
use Rattle.super_block.proofs.Passed.{few_clusters}
use Rattle.super_block.proofs.Ends.{fixed_within}

-- two regions that share pages share the first page of the later one
pub share_where : (a b : Span) → shares a b ≡ true → (page : ℕ) × (Covers a page × Covers b page)
share_where a b both =
    let lt : max a.start b.start < min (end_of a) (end_of b) = grind (arith, nat_tests) in
    (max a.start b.start, ((omega arith, omega arith), (omega arith, omega arith)))

-- two regions with a page in common are found to share
pub shared : (a b : Span) (page : ℕ) → Covers a page → Covers b page → shares a b ≡ true
shared a b page in_a in_b =
    let lt : max a.start b.start < min (end_of a) (end_of b) = omega (arith, in_a, in_b) in
    grind (arith, nat_tests)

apart_from : (a : Span) (rest : List Span) → overlap_with a rest ≡ None → All (AreApart a) rest
apart_from a [] none = All-nil (AreApart a)
apart_from a (b ∷ rest) none = at (apart_from a rest) (shares a b) refl none
  where
    at : (overlap_with a rest ≡ None → All (AreApart a) rest) → (test : Bool) → shares a b ≡ test
        → option_map (λ (x : Span). Overlap a.region x.region) (cond test (Some b) (find (shares a) rest)) ≡ None
        → All (AreApart a) (b ∷ rest)
    at later true e h = absurd cc
    at later false e h =
        All-cons (AreApart a) b rest (λ page in_a in_b. let both = shared a b page in_a in_b in cc) (later h)

all_apart : (spans : List Span) → overlap spans ≡ None → AllPairs AreApart spans
unfolding AllPass
all_apart [] none = λ i j d lt len. absurd (omega arith)
all_apart (a ∷ rest) none =
    let both = all_pass (overlap_with a rest ∷ overlap rest ∷ []) none in
    AllPairs-cons AreApart a rest (apart_from a rest both.0) (all_apart rest both.1.0)

-- the bytes of the clusters are the store's, and those the device's
clusters_on_device : (s : Super) → cluster_size_fault s ≡ None → size_fault s ≡ None
    → clusters_of s * cluster_pages_of s ≤ s.device_pages
unfolding clusters_of cluster_pages_of size_fault
clusters_on_device s whole_size none =
    let whole = size_is_whole s whole_size in
    let bytes : s.cluster_size ≡ s.cluster_size / 4096 * 4096 = omega (arith, whole) in
    let fits : s.size ≤ 4096 * s.device_pages = leb-true _ _ (holds _ _ none) in
    let size : size_of s ≤ 4096 * s.device_pages = grind (arith, nat_tests) in
    let clusters : size_of s / s.cluster_size * s.cluster_size ≤ size_of s =
    div-mul-le_self (size_of s) s.cluster_size in
    let pages : size_of s / s.cluster_size * (s.cluster_size / 4096 * 4096) ≤ size_of s =
    subst (λ (n : ℕ). size_of s / s.cluster_size * n ≤ size_of s) bytes clusters in
    omega arith

some_factor : (m n : ℕ) → 1 ≤ m * n → 0 < m
some_factor zero n le = absurd (omega arith)
some_factor (suc m) n le = omega arith

-- a super block without fault is placed
pub is_placed : (s : Super) → fault_of true s ≡ None → IsPlaced s
unfolding fixed_clusters_of overlap_fault placed
is_placed s none =
    let tests = passed true s none in
    let k = cluster_pages_of s in
    let some = some_pages s tests.size in
    let end = greatest_end (super_page ∷ placed s) in
    let fixed : end ≤ fixed_clusters_of s * k = (div_ceil_times end k some).0 in
    record {
      some_pages = some;
      few_md_pages = few_pages s.md_len tests.pages;
      few_clusters = few_clusters (clusters_of s) tests.clusters;
      on_device = clusters_on_device s tests.size tests.bytes;
      some_fixed = some_factor (fixed_clusters_of s) k (omega arith);
      fixed_clusters = fixed_within true s none;
      page_mask_end = omega arith;
      cluster_mask_end = omega arith;
      blob_mask_end = omega arith;
      md_end = omega arith;
      apart = all_apart (super_page ∷ placed s) tests.overlaps;
    }
