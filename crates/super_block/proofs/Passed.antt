-- What the tests tell of a super block that passes them.
use Rattle.std.proofs.Common.{◌≡◌, ℕ, ◌*◌, ◌/◌, ◌%◌, ◌^◌, ◌<◌, ◌≤◌, Bool, true, false, List, [], ◌∷◌, Option, Some}
use Rattle.std.proofs.Common.{None, refl, sym, ap, ◌∙◌, subst, arith, eq-eqb}
use Rattle.std.specs.Prelude.{◌==◌, cond}
use Rattle.std.proofs.lemmas.Bool.{and_parts, ltb-true, leb-true, eqb-true}
use Rattle.std.proofs.lemmas.Bool.Decides.{nat_tests}
use Rattle.std.proofs.Math.Nat.{mul-div-mul_right}
use Rattle.bit_array.specs.Mask.{mask_pages}
use Rattle.super_block.specs.declared.fault.SuperFault.{SuperFault}
use Rattle.super_block.specs.declared.fault.SuperFault.TheVariants.{BadChecksum}
use Rattle.super_block.specs.declared.page.Super.{Super}
use Rattle.super_block.specs.Numbers.{cluster_pages_of, clusters_of, page_mask, cluster_mask, blob_mask}
use Rattle.super_block.specs.Faults.{first_fault, tests, unless, short, cluster_size_fault, pages_fault, clusters_fault}
use Rattle.super_block.specs.Faults.{size_fault, past_fault, mask_fault, overlap_fault, fault_of}

-- a test without fault holds
pub holds : (test : Bool) (fault : SuperFault) → unless test fault ≡ None → test ≡ true
holds true fault none = refl
holds false fault none = cc

-- no test of these has a fault
unfoldable pub AllPass : List (Option SuperFault) → Type 0
AllPass [] = Unit {0}
AllPass (fault ∷ rest) = (fault ≡ None) × AllPass rest

-- where there is no first fault there is none
pub all_pass : (faults : List (Option SuperFault)) → first_fault faults ≡ None → AllPass faults
unfolding AllPass
all_pass [] none = tt
all_pass (None ∷ rest) none = (refl, all_pass rest none)
all_pass (Some fault ∷ rest) none = absurd cc

-- the tests on which others stand
pub record Passed (s : Super) : Type 0 where
  pub size : cluster_size_fault s ≡ None
  pub pages : pages_fault s.md_len ≡ None
  pub clusters : clusters_fault (clusters_of s) ≡ None
  pub bytes : size_fault s ≡ None
  pub ends : past_fault s ≡ None
  pub masks : mask_fault s ≡ None
  pub overlaps : overlap_fault s ≡ None

-- a super block without fault passes them
pub passed : (sound : Bool) (s : Super) → fault_of sound s ≡ None → Passed s
unfolding fault_of tests AllPass
passed sound s none =
    let all = all_pass (tests sound s) none in
    let from_size = all.1.1.1.1 in
    let from_bytes = from_size.1.1.1 in
    record {
      size = from_size.0;
      pages = from_size.1.0;
      clusters = from_size.1.1.0;
      bytes = from_bytes.0;
      ends = from_bytes.1.0;
      masks = from_bytes.1.1.0;
      overlaps = from_bytes.1.1.1.0;
    }

-- of the sum nothing else is asked than that it is right
pub faultless : (sound : Bool) (s : Super) → fault_of sound s ≡ None → fault_of true s ≡ None
unfolding fault_of tests AllPass
faultless sound s none =
    let is_sound : sound ≡ true = holds sound BadChecksum (all_pass (tests sound s) none).1.1.0 in
    subst (λ (b : Bool). first_fault (tests b s) ≡ None) is_sound none

-- the bytes of a cluster are whole pages
pub size_is_whole : (s : Super) → cluster_size_fault s ≡ None → (0 < s.cluster_size) × (s.cluster_size % 4096 ≡ 0)
unfolding cluster_size_fault
size_is_whole s none =
    let both = and_parts _ _ (holds _ _ none) in
    (ltb-true _ _ both.0, eqb-true _ _ both.1)

-- a cluster has a page at least
pub some_pages : (s : Super) → cluster_size_fault s ≡ None → 0 < cluster_pages_of s
unfolding cluster_pages_of
some_pages s none = let whole = size_is_whole s none in omega (arith, whole)

-- the metadata pages are at most 2^20
pub few_pages : (pages : ℕ) → pages_fault pages ≡ None → pages ≤ 2 ^ 20
unfolding pages_fault
few_pages pages none = leb-true _ _ (holds _ _ none)

-- the clusters are at most 2^24
pub few_clusters : (clusters : ℕ) → clusters_fault clusters ≡ None → clusters ≤ 2 ^ 24
unfolding clusters_fault
few_clusters clusters none = leb-true _ _ (holds _ _ none)

-- a mask takes a page for its head alone
pub mask_takes_page : (s : Super) → mask_fault s ≡ None → 0 < s.used_page_mask_len
unfolding mask_fault AllPass
mask_takes_page s none =
    let long : mask_pages s.md_len ≤ s.used_page_mask_len =
    leb-true _ _
    (holds _ _ (all_pass
    (short (page_mask s) s.md_len ∷ short (cluster_mask s) (clusters_of s) ∷ short
    (blob_mask s) s.md_len ∷ []) none).0) in
    omega arith

-- the bytes of a device and of a cluster are 4096 times their pages
pub clusters-of_device : (s : Super) → cluster_size_fault s ≡ None → s.size ≡ 0
    → s.device_pages / cluster_pages_of s ≡ clusters_of s
unfolding clusters_of cluster_pages_of
clusters-of_device s none zero_size =
    let whole = size_is_whole s none in
    let is_zero : (s.size == 0) ≡ true = eq-eqb _ _ zero_size in
    let bytes : s.cluster_size / 4096 * 4096 ≡ s.cluster_size = omega (arith, whole) in
    sym (mul-div-mul_right {m = 4096} s.device_pages (s.cluster_size / 4096) (omega arith))
    ∙ ap (λ (n : ℕ). s.device_pages * 4096 / n) bytes
    ∙ ap (λ (b : Bool). cond b (s.device_pages * 4096) s.size / s.cluster_size) (sym is_zero)

-- a size other than 0 has its own whole clusters
pub clusters-of_size : (s : Super) → (s.size ≡ 0 → ⊥) → s.size / s.cluster_size ≡ clusters_of s
unfolding clusters_of
clusters-of_size s some_size = grind (arith, nat_tests)
