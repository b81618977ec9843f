-- What a target holds of a volume's pages, and what its copy leaves where a device fails.
use Rattle.std.specs.Prelude.{◌≡◌, ℕ, ◌<◌, ◌≤◌, List, length, slice_get, Some}
use Rattle.page_disk.specs.Disk.{Image, Rose}
use Rattle.page_disk.specs.declared.disk.PageDisk as disk
use Rattle.volume_model.specs.Volumes.{Page}
use Rattle.whole_copy.specs.declared.copying.CopyFault.{CopyFault}
use Rattle.whole_copy.specs.declared.copying.CopyFault.TheVariants.{Image as OfImage, Target}

-- this is the page at a place of the list
abbrev pub HoldsSo : List Page → ℕ → Page → Type 0
HoldsSo pages place page = slice_get pages place ≡ Some page

-- The first pages are these; every page behind them is as it was.
pub record BeginsWith (pages : List Page) (old new : Image) : Type 0 where
  pub copied : (page : ℕ) → page < length pages → HoldsSo pages page (new page)
  pub behind : (page : ℕ) → length pages ≤ page → new page ≡ old page

-- Some of the first pages are these, up to one at which a call may have failed; behind that one, and behind as many
-- pages as these, each is as it was.
pub record IsLeft (pages : List Page) (old new : Image) : Type 0 where
  pub done : ℕ
  pub copied : (page : ℕ) → page < done → HoldsSo pages page (new page)
  pub untouched : (page : ℕ) → done < page → new page ≡ old page
  pub behind : (page : ℕ) → length pages ≤ page → new page ≡ old page

module _ {D : Type 0} (d : disk.Ghosts D) (image image_now : D) {E : Type 0} (e : disk.Ghosts E) (target target_now : E)
  where
    -- a read of the image failed, or a write or the flush of the target; the other device has no fault
    abbrev pub HasFailed : CopyFault → Type 0
    HasFailed OfImage = Rose (d.read_faults image) (d.read_faults image_now)
        × (e.write_faults target_now ≡ e.write_faults target)
    HasFailed Target = Rose (e.write_faults target) (e.write_faults target_now)
        × (d.read_faults image_now ≡ d.read_faults image)

    -- no call of either device failed
    pub record NoneFailed : Type 0 where
      pub reads : d.read_faults image_now ≡ d.read_faults image
      pub writes : e.write_faults target_now ≡ e.write_faults target
