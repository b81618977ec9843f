-- Where the masks of a super block without fault stand.
use Rattle.std.proofs.Common.{ℕ, ◌+◌, ◌*◌, ◌<◌, ◌≤◌, true, [], ◌∷◌, inl, inr, ⊎_elim, arith}
use Rattle.std.proofs.Math.Nat.{mul-le-mul_right}
use Rattle.std.proofs.lemmas.Bool.{cases_lt, leb-true}
use Rattle.bit_array.specs.Mask.{mask_pages}
use Rattle.clean_stop.specs.Masks.{IsMaskPage, StandsApart}
use Rattle.page_runs.specs.Writing.{IsBetween}
use Rattle.super_block.specs.Faults.{short, mask_fault, IsFaultless}
use Rattle.super_block.specs.Numbers.{cluster_pages_of, clusters_of, fixed_clusters_of, super_page, page_mask}
use Rattle.super_block.specs.Numbers.{cluster_mask, blob_mask, md_region}
use Rattle.super_block.specs.Span.{end_of}
use Rattle.super_block.specs.Placed.{Covers, IsPlaced}
use Rattle.super_block.specs.declared.page.Super.{Super}
use Rattle.super_block.specs.declared.span.Span.{Span}
use Rattle.super_block.proofs.Passed.{AllPass, all_pass, holds, passed}

-- each region has the pages that its mask takes
pub record AreLong (s : Super) : Type 0 where
  pub pages : mask_pages s.md_len ≤ s.used_page_mask_len
  pub clusters : mask_pages (clusters_of s) ≤ s.used_cluster_mask_len
  pub blobs : mask_pages s.md_len ≤ s.used_blobid_mask_len

are_long : (s : Super) → IsFaultless s → AreLong s
unfolding mask_fault AllPass
are_long s none =
    let all =
    all_pass
    (short (page_mask s) s.md_len ∷ short (cluster_mask s) (clusters_of s) ∷ short
    (blob_mask s) s.md_len ∷ []) (passed true s none).masks in
    record {
      pages = leb-true _ _ (holds _ _ all.0);
      clusters = leb-true _ _ (holds _ _ all.1.0);
      blobs = leb-true _ _ (holds _ _ all.1.1.0);
    }

-- where the masks of a store stand
pub record MasksPlaced (s : Super) : Type 0 where
  -- they lie on the device
  pub pages_end : s.used_page_mask_start + mask_pages s.md_len ≤ s.device_pages
  pub clusters_end : s.used_cluster_mask_start + mask_pages (clusters_of s) ≤ s.device_pages
  pub blobs_end : s.used_blobid_mask_start + mask_pages s.md_len ≤ s.device_pages
  -- no page is in two of them, or in another region
  pub pages_clusters : (page : ℕ)
      → IsBetween s.used_page_mask_start (s.used_page_mask_start + mask_pages s.md_len) page
      → IsBetween s.used_cluster_mask_start (s.used_cluster_mask_start + mask_pages (clusters_of s)) page → ⊥
  pub pages_blobs : (page : ℕ)
      → IsBetween s.used_page_mask_start (s.used_page_mask_start + mask_pages s.md_len) page
      → IsBetween s.used_blobid_mask_start (s.used_blobid_mask_start + mask_pages s.md_len) page → ⊥
  pub clusters_blobs : (page : ℕ)
      → IsBetween s.used_cluster_mask_start (s.used_cluster_mask_start + mask_pages (clusters_of s)) page
      → IsBetween s.used_blobid_mask_start (s.used_blobid_mask_start + mask_pages s.md_len) page → ⊥
  -- the super block is in none
  pub apart : (page : ℕ) → IsMaskPage s page → StandsApart s page
  pub some_page : 0 < s.device_pages

-- a page of a region that lies apart from the super block
behind_super : (region : Span) (page : ℕ) → (Covers super_page page → Covers region page → ⊥) → Covers region page
    → 0 < page
behind_super region page apart at = elim (cases_lt 0 page) [
  | inl lt ↦ lt
  | inr le ↦ absurd (apart (omega arith, omega (arith, le)) at)
]

-- a page of a region that lies apart from the super block and the metadata region, in the fixed clusters
stands_apart : (s : Super) (region : Span) (page : ℕ) → (Covers super_page page → Covers region page → ⊥)
    → (Covers region page → Covers (md_region s) page → ⊥)
    → end_of region ≤ fixed_clusters_of s * cluster_pages_of s → Covers region page → StandsApart s page
stands_apart s region page no_super no_metadata end at = record {
  behind_super = behind_super region page no_super at;
  no_metadata = λ q low is. no_metadata at (omega (arith, is), omega (arith, is, low));
  fixed = let below = at.1 in omega (arith, end, below);
}

pub masks_placed : (s : Super) → IsFaultless s → IsPlaced s → MasksPlaced s
masks_placed s none placed =
    let long = are_long s none in
    let fixed : fixed_clusters_of s * cluster_pages_of s ≤ clusters_of s * cluster_pages_of s =
    mul-le-mul_right (cluster_pages_of s) placed.fixed_clusters in
    record {
      pages_end = omega (arith, fixed, long.pages, placed.page_mask_end, placed.on_device);
      clusters_end = omega (arith, fixed, long.clusters, placed.cluster_mask_end, placed.on_device);
      blobs_end = omega (arith, fixed, long.blobs, placed.blob_mask_end, placed.on_device);
      pages_clusters =
          λ page a b. placed.apart 1 2 super_page (omega arith) (omega arith) page (a.0, omega (arith, a, long.pages))
          (b.0, omega (arith, b, long.clusters));
      pages_blobs =
          λ page a b. placed.apart 1 3 super_page (omega arith) (omega arith) page (a.0, omega (arith, a, long.pages))
          (b.0, omega (arith, b, long.blobs));
      clusters_blobs =
          λ page a b. placed.apart 2 3 super_page (omega arith) (omega arith) page
          (a.0, omega (arith, a, long.clusters)) (b.0, omega (arith, b, long.blobs));
      apart =
          λ page at. ⊎_elim
          (λ a. stands_apart s (page_mask s) page (placed.apart 0 1 super_page (omega arith) (omega arith) page)
          (placed.apart 1 4 super_page (omega arith) (omega arith) page) placed.page_mask_end
          (a.0, omega (arith, a, long.pages)))
          (⊎_elim
          (λ a. stands_apart s (cluster_mask s) page (placed.apart 0 2 super_page (omega arith) (omega arith) page)
          (placed.apart 2 4 super_page (omega arith) (omega arith) page) placed.cluster_mask_end
          (a.0, omega (arith, a, long.clusters)))
          (λ a. stands_apart s (blob_mask s) page (placed.apart 0 3 super_page (omega arith) (omega arith) page)
          (placed.apart 3 4 super_page (omega arith) (omega arith) page) placed.blob_mask_end
          (a.0, omega (arith, a, long.blobs))))
          at;
      some_page = omega (arith, fixed, long.pages, placed.page_mask_end, placed.on_device);
    }
