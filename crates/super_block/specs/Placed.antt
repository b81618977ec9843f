-- Where the regions and the clusters of a super block without fault lie, and those of a planned store.
use Rattle.std.specs.Prelude.{◌≡◌, ℕ, ◌+◌, ◌*◌, ◌^◌, ◌<◌, ◌≤◌, [], ◌∷◌, AllPairs}
use Rattle.bit_array.specs.Mask.{mask_pages}
use Rattle.super_block.specs.declared.layout.Layout.{Layout}
use Rattle.super_block.specs.declared.page.Super.{Super}
use Rattle.super_block.specs.declared.span.Span.{Span}
use Rattle.super_block.specs.Span.{end_of}
use Rattle.super_block.specs.Numbers.{cluster_pages_of, clusters_of, fixed_clusters_of, super_page, page_mask}
use Rattle.super_block.specs.Numbers.{cluster_mask, blob_mask, md_region}

-- the page is in the region
abbrev pub Covers : Span → ℕ → Type 0
Covers a page = (a.start ≤ page) × (page < end_of a)

-- no page is in both
abbrev pub AreApart : Span → Span → Type 0
AreApart a b = (page : ℕ) → Covers a page → Covers b page → ⊥

-- where the regions and the clusters of a super block lie
pub record IsPlaced (s : Super) : Type 0 where
  pub some_pages : 0 < cluster_pages_of s
  pub few_md_pages : s.md_len ≤ 2 ^ 20
  pub few_clusters : clusters_of s ≤ 2 ^ 24
  -- the clusters lie on the device, and cluster 0 is fixed
  pub on_device : clusters_of s * cluster_pages_of s ≤ s.device_pages
  pub some_fixed : 0 < fixed_clusters_of s
  pub fixed_clusters : fixed_clusters_of s ≤ clusters_of s
  -- each region lies in the fixed clusters, and no page is in two regions
  pub page_mask_end : end_of (page_mask s) ≤ fixed_clusters_of s * cluster_pages_of s
  pub cluster_mask_end : end_of (cluster_mask s) ≤ fixed_clusters_of s * cluster_pages_of s
  pub blob_mask_end : end_of (blob_mask s) ≤ fixed_clusters_of s * cluster_pages_of s
  pub md_end : end_of (md_region s) ≤ fixed_clusters_of s * cluster_pages_of s
  pub apart : AllPairs AreApart (super_page ∷ page_mask s ∷ cluster_mask s ∷ blob_mask s ∷ md_region s ∷ [])

-- the regions of a planned store, one behind the other
pub record IsLaidOut (plan : Layout) : Type 0 where
  pub page_mask_start : plan.page_mask_start ≡ 1
  pub page_mask_len : plan.page_mask_len ≡ mask_pages plan.md_pages
  pub cluster_mask_start : plan.cluster_mask_start ≡ plan.page_mask_start + plan.page_mask_len
  pub cluster_mask_len : plan.cluster_mask_len ≡ mask_pages plan.clusters
  pub blob_mask_start : plan.blob_mask_start ≡ plan.cluster_mask_start + plan.cluster_mask_len
  pub blob_mask_len : plan.blob_mask_len ≡ mask_pages plan.md_pages
  pub md_start : plan.md_start ≡ plan.blob_mask_start + plan.blob_mask_len
  -- the last of them ends on the device, and each cluster that they take is there
  pub inside : plan.md_start + plan.md_pages ≤ plan.device_pages
  pub fixed_clusters : plan.fixed_clusters ≤ plan.clusters
