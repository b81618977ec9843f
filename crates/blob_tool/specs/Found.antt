-- A store that is found on a device.
use Rattle.std.specs.Prelude.{◌≡◌, ◌↔◌, ℕ, Bool, true, IsTrue}
use Rattle.std.specs.FinMap as map
use Rattle.page_disk.specs.Disk.{Image}
use Rattle.page_disk.specs.declared.disk.PageDisk as disk
use Rattle.super_block.specs.Page.{super_of}
use Rattle.super_block.specs.declared.masks.Masks.{Masks}
use Rattle.super_block.specs.declared.page.Super.{Super}
use Rattle.md_chain.specs.Reading.{OnlyRead}
use Rattle.store_model.specs.Maps.{Metas, Chains}
use Rattle.store_model.specs.Regions.{look_of, region_of}
use Rattle.store_model.specs.Scans.{Says}
use Rattle.running_store.specs.declared.loaded.Loaded.{Loaded}
use Rattle.running_store.specs.Recovered.{base_of, IsLoadedFrom}
use Rattle.running_store.specs.Surviving.{HasOneImage, HoldsMetadata}
use Rattle.unclean_load.specs.Accepted.{IsAccepted}
use Rattle.unclean_load.specs.Quick.{AreListed, HasNoHeadBesideMask, IsQuick, IsReadBy}

-- A load accepts the image of so many pages, and finds just what a scan does: where its masks are trusted, no page
-- outside of its blob-id mask is a head.
pub record IsSoundImage (pages : ℕ) (image : Image) : Type 0 where
  pub accepted : IsAccepted pages image
  pub no_head : HasNoHeadBesideMask (super_of (image 0) pages) image

module _ {D : Type 0} (d : disk.Ghosts D) where
  -- The device tells what it holds and has one image, which is sound.
  pub record HasSoundImage (before : D) : Type 0 where
    pub one : HasOneImage d before
    pub sound : IsSoundImage (d.pages before) (d.now before)

  -- A store with this super block, metadata and chains is read of a device, by its masks or not. What the device says
  -- is just that, if no head stands beside masks that are trusted.
  pub record ReadsAs (quick : Bool) (s : Super) (base : Metas) (chains : Chains) (disk : D) : Type 0 where
    pub device_pages : s.device_pages ≡ d.pages disk
    pub super : IsTrue d.tells → s ≡ super_of (d.now disk 0) (d.pages disk)
    pub holds : IsTrue d.tells → HasNoHeadBesideMask s (d.now disk) → HoldsMetadata s base chains (d.now disk)
    pub trusted : IsTrue d.tells → quick ≡ true → (masks : Masks) × IsQuick s masks (d.now disk)
        × AreListed (look_of (region_of s) (d.now disk)) (region_of s) masks.blobs base chains

  -- A store as the device says it, by its masks where these are trusted, and what recovery makes of it: the masks in
  -- memory are what the blobs that stay claim. No read failed.
  pub record IsFound (before : D) (loaded : Loaded D) : Type 0 where
    pub super : IsTrue d.tells → loaded.sup ≡ super_of (d.now before 0) (d.pages before)
    pub read : IsTrue d.tells
        → IsReadBy loaded.quick loaded.sup (d.now before) (base_of loaded.metas loaded.marked) (map.get loaded.chains)
    pub quick : IsTrue d.tells
        → (loaded.quick ≡ true) ↔ ((masks : Masks) × IsQuick loaded.sup masks (d.now before))
    pub accepted : IsTrue d.tells → IsAccepted (d.pages before) (d.now before)
    pub says : IsTrue d.tells → HasNoHeadBesideMask loaded.sup (d.now before)
        → Says (region_of loaded.sup) (base_of loaded.metas loaded.marked) (map.get loaded.chains) (d.now before)
    pub recovered : IsLoadedFrom (base_of loaded.metas loaded.marked) loaded
    pub same : OnlyRead d before loaded.disk
    pub no_fault : d.read_faults loaded.disk ≡ d.read_faults before
    pub sound : HasSoundImage before → HasSoundImage loaded.disk
