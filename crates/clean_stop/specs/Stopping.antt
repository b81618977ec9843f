-- What a device holds while a store is marked as in use, and while it is unloaded.
use Rattle.std.specs.Prelude.{◌≡◌, ◌⊎◌, ℕ, List, None}
use Rattle.clean_stop.specs.Masks.{HasMasks, IsMaskPage}
use Rattle.page_disk.specs.Disk.{Image, Images}
use Rattle.page_runs.specs.Writing.{IsAnyBut, SameBut}
use Rattle.super_block.specs.Faults.{super_fault}
use Rattle.super_block.specs.Page.{super_bytes, super_of}
use Rattle.super_block.specs.declared.masks.Masks.{Masks}
use Rattle.super_block.specs.declared.page.Super.{Super}

-- the super block with this `clean`
abbrev pub with_clean : ℕ → Super → Super
with_clean clean s = record s { clean = clean }

-- The page is that of the super block: it is read without a fault, and as this one, but for its sum.
pub record IsSuperPage (s : Super) (page : List ℕ) : Type 0 where
  pub bytes : page ≡ super_bytes s
  pub faultless : super_fault page s.device_pages ≡ None
  pub sum : ℕ
  pub reads : super_of page s.device_pages ≡ record s { crc = sum }

-- The super block says that the store is clean, and the masks are whole. All other pages are as before.
pub record IsUnloaded (s : Super) (masks : Masks) (old new : Image) : Type 0 where
  pub super : IsSuperPage (with_clean 1 s) (new 0)
  pub whole : HasMasks s masks new
  pub others : SameBut (λ page. (page ≡ 0) ⊎ IsMaskPage s page) old new

-- What power that fails may leave while a store is unloaded: one of the images from before, but for the pages of the
-- masks; or what was read, unloaded.
abbrev pub IsUnloading : Super → Masks → Images → Image → Images
IsUnloading s masks images now image = IsAnyBut (IsMaskPage s) images image ⊎ IsUnloaded s masks now image
