-- How the device of a run is left behind the last turn.
use Rattle.std.specs.Prelude.{◌≡◌, ◌≢◌, ◌⊎◌, ℕ, Bool, true, Option, Some, None, IsTrue}
use Rattle.clean_stop.specs.Masks.{HasMasks, IsMaskPage}
use Rattle.clean_stop.specs.Stopping.{with_clean, IsSuperPage}
use Rattle.page_disk.specs.Disk.{Image, Images, Only, Rose}
use Rattle.page_disk.specs.Moments.{CallsLeaveOnly}
use Rattle.page_disk.specs.declared.disk.PageDisk.{Ghosts}
use Rattle.page_runs.specs.Writing.{SameBut}
use Rattle.super_block.specs.declared.masks.Masks.{Masks}
use Rattle.super_block.specs.declared.page.Super.{Super}

-- The super block says that the store is clean, beside whole masks.
pub record IsCleanWith (s : Super) (masks : Masks) (image : Image) : Type 0 where
  pub super : IsSuperPage (with_clean 1 s) (image 0)
  pub whole : HasMasks s masks image

-- Of a store with this super block an image becomes another one, of which the super block or the masks may be others:
-- nothing is; or the super block is as it was, and doesn't say that the store is clean; or it says that the store is in
-- use; or it says that the store is clean, and the masks are whole.
pub data Becomes (s : Super) (masks : Masks) (image other : Image) : Type 0 where
  as_before : ((page : ℕ) → other page ≡ image page) → Becomes s masks image other
  kept : s.clean ≢ 1 → other 0 ≡ image 0 → Becomes s masks image other
  in_use : IsSuperPage (with_clean 0 s) (other 0) → Becomes s masks image other
  clean : IsCleanWith s masks other → Becomes s masks image other

-- a page that closing a store may write: the super block, or one of a mask
abbrev pub IsOfClosing : Super → ℕ → Type 0
IsOfClosing s page = (page ≡ 0) ⊎ IsMaskPage s page

-- What power that fails may leave while a store is closed: what becomes so of an image from before, all but the super
-- block and the masks as in it.
pub record Closing (s : Super) (masks : Masks) (images : Images) (other : Image) : Type 0 where
  pub image : Image
  pub was : images image
  pub others : SameBut (IsOfClosing s) image other
  pub becomes : Becomes s masks image other

-- The masks on the device were trusted: the store is clean, and was loaded by them.
abbrev pub AreTrusted : Super → Bool → Type 0
AreTrusted s quick = (s.clean ≡ 1) × (quick ≡ true)

-- a store with this super block and these masks
module _ {D : Type 0} (d : Ghosts D) (s : Super) (masks : Masks) (old new : D) where
  -- what a crash leaves at any moment while the store is closed
  abbrev pub LeavesClosing : Type 0
  LeavesClosing = CallsLeaveOnly d old new (Closing s masks (d.images old))

  module _ (quick : Bool) where
    -- The store was unloaded, and no fault was counted: one image is left, which is clean, and in which all but the
    -- super block and the masks is as it was read. Where the masks were trusted nothing was written.
    pub record IsClosed : Type 0 where
      pub closing : LeavesClosing
      pub lasting : IsTrue d.tells → Only (d.now new) (d.images new)
      pub others : IsTrue d.tells → SameBut (IsOfClosing s) (d.now old) (d.now new)
      pub same : IsTrue d.tells → AreTrusted s quick → d.now new ≡ d.now old
      pub clean : IsTrue d.tells → (AreTrusted s quick → ⊥) → IsCleanWith s masks (d.now new)
      pub quiet : d.write_faults new ≡ d.write_faults old

    -- A run that stopped leaves the device alone. Any other is closed by an unload; where that fails the run ends
    -- behind so many entries.
    abbrev pub Closes : ℕ → Option ℕ → Option ℕ → Type 0
    Closes entries (Some at) ended = (ended ≡ Some at) × (new ≡ old)
    Closes entries None None = IsClosed
    Closes entries None (Some at) = (at ≡ entries) × LeavesClosing × Rose (d.write_faults old) (d.write_faults new)
