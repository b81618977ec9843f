-- The masks of a store lie on its device.
use Rattle.std.proofs.Common.{ℕ, ◌+◌, ◌-◌, ◌*◌, ◌<◌, ◌≤◌, inl, inr, arith}
use Rattle.std.proofs.Math.Nat.{mul-le-mul_right}
use Rattle.bit_array.specs.Mask.{mask_pages}
use Rattle.clean_stop.specs.Masks.{IsMaskPage, StandsApart}
use Rattle.super_block.specs.Numbers.{cluster_pages_of, clusters_of, fixed_clusters_of}
use Rattle.super_block.specs.Placed.{IsPlaced}
use Rattle.super_block.specs.declared.page.Super.{Super}

-- what the laws of regions and of masks say of a store
module _ (s : Super) (placed : IsPlaced s) (apart : (page : ℕ) → IsMaskPage s page → StandsApart s page) where
  -- pages that are those of masks lie on the device
  on_device : (start n : ℕ) → 0 < n → ((page : ℕ) → (start ≤ page) × (page < start + n) → IsMaskPage s page)
      → start + n ≤ s.device_pages
  on_device start n some are =
      let last = (apart (start + n - 1) (are (start + n - 1) (omega (arith, some), omega (arith, some)))).fixed in
      let fixed : fixed_clusters_of s * cluster_pages_of s ≤ clusters_of s * cluster_pages_of s =
      mul-le-mul_right (cluster_pages_of s) placed.fixed_clusters in
      let all = placed.on_device in
      omega (arith, last, fixed, all, some)

  pub pages_end : s.used_page_mask_start + mask_pages s.md_len ≤ s.device_pages
  pages_end = on_device s.used_page_mask_start (mask_pages s.md_len) (omega arith) (λ page is. inl is)

  pub clusters_end : s.used_cluster_mask_start + mask_pages (clusters_of s) ≤ s.device_pages
  clusters_end =
      on_device s.used_cluster_mask_start (mask_pages (clusters_of s)) (omega arith) (λ page is. inr (inl is))

  pub blobs_end : s.used_blobid_mask_start + mask_pages s.md_len ≤ s.device_pages
  blobs_end = on_device s.used_blobid_mask_start (mask_pages s.md_len) (omega arith) (λ page is. inr (inr is))
