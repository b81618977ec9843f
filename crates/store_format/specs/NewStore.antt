-- What a new store is on its device.
use Rattle.std.specs.Prelude.{◌≡◌, ◌⊎◌, ℕ, zero, suc, ◌+◌, ◌-◌, ◌^◌, ◌<◌, true, List, ◌++◌, Option, Some, None}
use Rattle.std.specs.Prelude.{codes, replicate, slice_set}
use Rattle.bit_array.specs.Mask.{mask_text, text_page}
use Rattle.page_disk.specs.Disk.{Image, Images, Rose}
use Rattle.page_disk.specs.Moments.{CallsLeaveOnly}
use Rattle.page_disk.specs.declared.disk.PageDisk as disk
use Rattle.super_block.specs.Faults.{super_fault}
use Rattle.super_block.specs.Layout.{new_masks, new_super}
use Rattle.super_block.specs.Page.{super_bytes, super_of}
use Rattle.super_block.specs.declared.layout.Layout.{Layout}
use Rattle.super_block.specs.declared.masks.Masks.{Masks}
use Rattle.super_block.specs.declared.page.Super.{Super}
use Rattle.store_model.specs.Maps.{Metas, Chains}
use Rattle.store_model.specs.Regions.{region_of}
use Rattle.store_model.specs.Scans.{Says}
use Rattle.store_model.specs.Surviving.{HoldsMetadata}
use Rattle.unclean_load.specs.Accepted.{IsAccepted}
use Rattle.unclean_load.specs.Quick.{HasNoHeadBesideMask, IsQuick}
use Rattle.page_runs.specs.Writing.{IsAnyBut, IsBetween}
use Rattle.store_format.specs.SuperBlob.{new_chains, new_metas, super_blob_page_of}
use Rattle.store_format.specs.declared.fault.FormatFault.{FormatFault}
use Rattle.store_format.specs.declared.fault.FormatFault.TheVariants as fault
use Rattle.store_format.specs.declared.super_blob.StoreName.{StoreName}

-- the super block of a new store: no super blob, and of no kind; or one at the first metadata page of a logical volume
-- store, if there is its page
abbrev pub first_super : Layout → Option (List ℕ) → Super
first_super plan None = new_super plan (2 ^ 64 - 1) (replicate 16 0)
first_super plan (Some page) = new_super plan (2 ^ 32) (codes "LVOLSTORE" ++ replicate 7 0)

-- its page has no fault, and is read as that super block, whose sum the page holds
pub record IsReadAsPlanned (plan : Layout) (super_blob : Option (List ℕ)) : Type 0 where
  pub sum : ℕ
  pub same : super_of (super_bytes (first_super plan super_blob)) plan.device_pages
      ≡ record (first_super plan super_blob) { crc = sum }
  pub no_fault : super_fault (super_bytes (first_super plan super_blob)) plan.device_pages ≡ None

-- the masks of a new store, in which the super blob's page is used, and is a head
abbrev pub first_masks : Layout → Option (List ℕ) → Masks
first_masks plan None = new_masks plan
first_masks plan (Some page) = record (new_masks plan) {
  pages = slice_set (new_masks plan).pages 0 true;
  blobs = slice_set (new_masks plan).blobs 0 true;
}

-- a page of zeros
abbrev pub zeroed_page : List ℕ
zeroed_page = replicate 4096 0

-- the metadata page at a place: that of the super blob, and else zeros
abbrev pub md_page : Option (List ℕ) → ℕ → List ℕ
md_page None place = zeroed_page
md_page (Some page) zero = page
md_page (Some page) (suc place) = zeroed_page

-- a new store with this layout, and this page of its super blob, if it has one
module _ (plan : Layout) (super_blob : Option (List ℕ)) where
  -- the metadata pages stand where the layout places them
  abbrev pub HasMetadata : Image → Type 0
  HasMetadata image = (k : ℕ) → k < plan.md_pages → image (plan.md_start + k) ≡ md_page super_blob k

  -- and the three masks, each of its type
  pub record HasNewRegions (image : Image) : Type 0 where
    pub page_mask : (k : ℕ) → k < plan.page_mask_len
        → image (plan.page_mask_start + k) ≡ text_page k (mask_text 0 (first_masks plan super_blob).pages)
    pub cluster_mask : (k : ℕ) → k < plan.cluster_mask_len
        → image (plan.cluster_mask_start + k) ≡ text_page k (mask_text 1 (first_masks plan super_blob).clusters)
    pub blob_mask : (k : ℕ) → k < plan.blob_mask_len
        → image (plan.blob_mask_start + k) ≡ text_page k (mask_text 2 (first_masks plan super_blob).blobs)
    pub md : HasMetadata image

  -- and so does the super block
  pub record IsNewStore (image : Image) : Type 0 where
    pub super : image 0 ≡ super_bytes (first_super plan super_blob)
    pub regions : HasNewRegions image

-- the page behind the metadata region
abbrev pub md_end_of : Layout → ℕ
md_end_of plan = plan.md_start + plan.md_pages

-- What power that fails may leave while a store is written: one of the old images, of which no page but those of the
-- masks and of the metadata region has changed, or the new store.
abbrev pub IsUnderWay : Layout → Option (List ℕ) → Images → Images
IsUnderWay plan super_blob images image =
    IsAnyBut (IsBetween 1 (md_end_of plan)) images image
    ⊎ (IsNewStore plan super_blob image × IsAnyBut (IsBetween 0 (md_end_of plan)) images image)

-- The image is accepted as the planned store, whose sum the page holds: it is loaded by its masks, beside which no head
-- stands. It says the super blob alone, if the store has a name, and else no blob; and whatever it says is that.
pub record LoadsAsPlanned (plan : Layout) (named : Option StoreName) (image : Image) : Type 0 where
  pub sum : ℕ
  pub super_is : super_of (image 0) plan.device_pages
      ≡ record (first_super plan (super_blob_page_of named)) { crc = sum }
  pub accepted : IsAccepted plan.device_pages image
  pub quick : IsQuick (super_of (image 0) plan.device_pages) (first_masks plan (super_blob_page_of named)) image
  pub no_head : HasNoHeadBesideMask (super_of (image 0) plan.device_pages) image
  pub holds : HoldsMetadata (super_of (image 0) plan.device_pages) (new_metas named) (new_chains named) image
  pub no_other : (metas : Metas) (chains : Chains)
      → Says (region_of (super_of (image 0) plan.device_pages)) metas chains image →
      (head : ℕ) → (metas head ≡ new_metas named head) × (chains head ≡ new_chains named head)

-- A store with this layout was written, or a part of it, and no page was read.
pub record Writes {D : Type 0} (d : disk.Ghosts D) (plan : Layout) (super_blob : Option (List ℕ)) (before back : D)
    : Type 0 where
  pub any_moment : CallsLeaveOnly d before back (IsUnderWay plan super_blob (d.images before))
  pub pages : d.pages back ≡ d.pages before
  pub read_faults : d.read_faults back ≡ d.read_faults before
  pub reads : d.reads back ≡ d.reads before

-- why a store wasn't written: a write or a flush failed; or memory ran out, before anything was done
module _ {D : Type 0} (d : disk.Ghosts D) (before back : D) where
  abbrev pub IsCause : FormatFault → Type 0
  IsCause fault.Device = Rose (d.write_faults before) (d.write_faults back)
  IsCause fault.Memory = back ≡ before
