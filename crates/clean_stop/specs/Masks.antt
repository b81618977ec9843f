-- The three masks of a store on its device.
use Rattle.std.specs.Prelude.{◌≡◌, ◌≢◌, ◌⊎◌, ℕ, ◌+◌, ◌*◌, ◌<◌, Bool, List, None, length, map}
use Rattle.std.specs.List.{concat, range_with_len}
use Rattle.bit_array.specs.Fault.{head_fault}
use Rattle.bit_array.specs.Mask.{bits_in, mask_pages, mask_text, text_page}
use Rattle.page_disk.specs.Disk.{Image}
use Rattle.page_runs.specs.Writing.{IsBetween}
use Rattle.super_block.specs.Numbers.{cluster_pages_of, clusters_of, fixed_clusters_of}
use Rattle.super_block.specs.declared.masks.Masks.{Masks}
use Rattle.super_block.specs.declared.page.Super.{Super}

-- the masks have a bit for each metadata page, and for each cluster
pub record MasksFit (s : Super) (masks : Masks) : Type 0 where
  pub pages : length masks.pages ≡ s.md_len
  pub clusters : length masks.clusters ≡ clusters_of s
  pub blobs : length masks.blobs ≡ s.md_len

-- The pages from a start on are the mask of this type that holds the set.
abbrev pub HasMask : ℕ → ℕ → List Bool → Image → Type 0
HasMask start kind bits image =
    (k : ℕ) → k < mask_pages (length bits) → image (start + k) ≡ text_page k (mask_text kind bits)

-- The masks stand where the super block places them: that of used metadata pages has type 0, that of used clusters 1,
-- and that of heads 2.
pub record HasMasks (s : Super) (masks : Masks) (image : Image) : Type 0 where
  pub pages : HasMask s.used_page_mask_start 0 masks.pages image
  pub clusters : HasMask s.used_cluster_mask_start 1 masks.clusters image
  pub blobs : HasMask s.used_blobid_mask_start 2 masks.blobs image

-- so many pages of an image from a start on, one after the other
abbrev pub text_from : ℕ → ℕ → Image → List ℕ
text_from start count image = concat (map (λ k. image (start + k)) (range_with_len 0 count))

-- A mask of this type and so many bits can be read from a start on, and says this set, whatever stands behind its bits.
pub record SaysMask (start kind : ℕ) (bits : List Bool) (image : Image) : Type 0 where
  pub head : head_fault kind (length bits) (image start) ≡ None
  pub says : bits ≡ bits_in (length bits) (text_from start (mask_pages (length bits)) image)

-- The masks can be read where the super block places them, and say these sets.
pub record SaysMasks (s : Super) (masks : Masks) (image : Image) : Type 0 where
  pub fit : MasksFit s masks
  pub pages : SaysMask s.used_page_mask_start 0 masks.pages image
  pub clusters : SaysMask s.used_cluster_mask_start 1 masks.clusters image
  pub blobs : SaysMask s.used_blobid_mask_start 2 masks.blobs image

-- a page of one of the masks; a region may have further ones behind its mask
abbrev pub IsMaskPage : Super → ℕ → Type 0
IsMaskPage s page =
    IsBetween s.used_page_mask_start (s.used_page_mask_start + mask_pages s.md_len) page
    ⊎ (IsBetween s.used_cluster_mask_start (s.used_cluster_mask_start + mask_pages (clusters_of s)) page
    ⊎ IsBetween s.used_blobid_mask_start (s.used_blobid_mask_start + mask_pages s.md_len) page)

-- The page lies behind the super block and in the fixed clusters, and is none of the metadata region.
pub record StandsApart (s : Super) (page : ℕ) : Type 0 where
  pub behind_super : 0 < page
  pub no_metadata : (q : ℕ) → q < s.md_len → s.md_start + q ≢ page
  pub fixed : page < fixed_clusters_of s * cluster_pages_of s
