-- A super block with another `clean`.
use Rattle.std.proofs.Common.{◌≡◌, ℕ, true, List, None, refl, subst, ◌∙◌}
use Rattle.clean_stop.specs.Stopping.{with_clean, IsSuperPage}
use Rattle.super_block.specs.Faults.{fault_of, tests, signature_fault, version_fault, page_size_fault, IsFaultless}
use Rattle.super_block.specs.Faults.{cluster_size_fault, size_fault, past_fault, mask_fault, overlap_fault, super_fault}
use Rattle.super_block.specs.Page.{super_bytes, super_of}
use Rattle.super_block.specs.Numbers.{cluster_pages_of, clusters_of, placed}
use Rattle.super_block.specs.declared.page.Super.{Super}

-- `clean` has no part in the tests
fault_of-clean : (s : Super) (clean : ℕ) → fault_of true (with_clean clean s) ≡ fault_of true s
unfolding fault_of tests signature_fault version_fault page_size_fault cluster_size_fault size_fault past_fault
    mask_fault overlap_fault cluster_pages_of clusters_of placed
fault_of-clean s clean = refl

-- one without fault stays so
pub faultless_with : (s : Super) (clean : ℕ) → IsFaultless s → IsFaultless (with_clean clean s)
faultless_with s clean none = fault_of-clean s clean ∙ none

-- the page that it is written as is read as it
pub is_page_of : (s : Super) (page : List ℕ) (sum : ℕ) → page ≡ super_bytes s
    → super_of page s.device_pages ≡ record s { crc = sum } → super_fault page s.device_pages ≡ None
    → IsSuperPage s (super_bytes s)
is_page_of s page sum bytes again none = record {
  bytes = refl;
  faultless = subst (λ (p : List ℕ). super_fault p s.device_pages ≡ None) bytes none;
  sum = sum;
  reads = subst (λ (p : List ℕ). super_of p s.device_pages ≡ record s { crc = sum }) bytes again;
}
