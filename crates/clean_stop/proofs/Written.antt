-- The masks are written, one after the other.
use Rattle.std.proofs.Common.{◌≡◌, ℕ, ◌+◌, Bool, List, length, inl, inr, subst, ◌∙◌, arith, IsTrue}
use Rattle.bit_array.specs.Mask.{mask_pages}
use Rattle.clean_stop.specs.Masks.{HasMask, HasMasks, IsMaskPage, MasksFit}
use Rattle.clean_stop.proofs.Places.{MasksPlaced}
use Rattle.page_disk.specs.Disk.{Image, Telling}
use Rattle.page_disk.specs.declared.disk.PageDisk.{Ghosts}
use Rattle.page_runs.specs.Writing.{IsBetween, SameBut, WritesOnly}
use Rattle.page_runs.proofs.Runs.{none_written, written_after}
use Rattle.super_block.specs.declared.masks.Masks.{Masks}
use Rattle.super_block.specs.declared.page.Super.{Super}

-- a page of the mask of so many bits that begins there
abbrev pub InMask : ℕ → ℕ → ℕ → Type 0
InMask start bits page = IsBetween start (start + mask_pages bits) page

-- as many bits
abbrev pub resized : (start : ℕ) {m n : ℕ} (page : ℕ) → m ≡ n → InMask start m page → InMask start n page
resized start page e at = subst (λ (bits : ℕ). InMask start bits page) e at

-- a mask stays where other pages are written
pub mask_stays : (start kind : ℕ) (bits : List Bool) (some : ℕ → Type 0) (old new : Image) → SameBut some old new
    → ((page : ℕ) → InMask start (length bits) page → some page → ⊥)
    → HasMask start kind bits old → HasMask start kind bits new
mask_stays start kind bits some old new same apart has k lt =
    same (start + k) (apart (start + k) (omega arith, omega (arith, lt))) ∙ has k lt

module _ {D : Type 0} (d : Ghosts D) (law : IsTrue d.tells → Telling d.now d.images d.since d.clock) (s : Super)
    (masks : Masks) (fit : MasksFit s masks) (first pages : D)
    (page_mask : WritesOnly d (InMask s.used_page_mask_start (length masks.pages)) first pages) where
  -- first the mask of metadata pages
  pub page_mask_written : WritesOnly d (IsMaskPage s) first pages
  page_mask_written =
      written_after d (IsMaskPage s) first first pages (none_written d law (IsMaskPage s) first)
      (InMask s.used_page_mask_start (length masks.pages))
      (λ page at. inl (resized s.used_page_mask_start page fit.pages at)) page_mask

  module _ (clusters : D)
      (cluster_mask : WritesOnly d (InMask s.used_cluster_mask_start (length masks.clusters)) pages clusters) where
    -- then that of clusters
    pub cluster_mask_written : WritesOnly d (IsMaskPage s) first clusters
    cluster_mask_written =
        written_after d (IsMaskPage s) first pages clusters page_mask_written
        (InMask s.used_cluster_mask_start (length masks.clusters))
        (λ page at. inr (inl (resized s.used_cluster_mask_start page fit.clusters at))) cluster_mask

    module _ (blobs : D)
        (blob_mask : WritesOnly d (InMask s.used_blobid_mask_start (length masks.blobs)) clusters blobs) where
      -- and then that of heads
      pub blob_mask_written : WritesOnly d (IsMaskPage s) first blobs
      blob_mask_written =
          written_after d (IsMaskPage s) first clusters blobs cluster_mask_written
          (InMask s.used_blobid_mask_start (length masks.blobs))
          (λ page at. inr (inr (resized s.used_blobid_mask_start page fit.blobs at))) blob_mask

      -- each of them is there behind the last
      pub masks_there : MasksPlaced s → IsTrue d.tells
          → HasMask s.used_page_mask_start 0 masks.pages (d.now pages)
          → HasMask s.used_cluster_mask_start 1 masks.clusters (d.now clusters)
          → HasMask s.used_blobid_mask_start 2 masks.blobs (d.now blobs) → HasMasks s masks (d.now blobs)
      masks_there placed told in_pages in_clusters in_blobs = record {
        pages =
            mask_stays s.used_page_mask_start 0 masks.pages _ (d.now clusters) (d.now blobs) (blob_mask.now told)
            (λ page a b. placed.pages_blobs page (resized _ page fit.pages a) (resized _ page fit.blobs b))
            (mask_stays s.used_page_mask_start 0 masks.pages _ (d.now pages) (d.now clusters) (cluster_mask.now told)
            (λ page a b. placed.pages_clusters page (resized _ page fit.pages a) (resized _ page fit.clusters b))
            in_pages);
        clusters =
            mask_stays s.used_cluster_mask_start 1 masks.clusters _ (d.now clusters) (d.now blobs)
            (blob_mask.now told)
            (λ page a b. placed.clusters_blobs page (resized _ page fit.clusters a) (resized _ page fit.blobs b))
            in_clusters;
        blobs = in_blobs;
      }
