-- Some pages of a device are written, and no other.
use Rattle.std.specs.Prelude.{◌≡◌, ℕ, ◌<◌, ◌≤◌, IsTrue}
use Rattle.page_disk.specs.Disk.{Image, Images}
use Rattle.page_disk.specs.Moments.{CallsLeaveOnly}
use Rattle.page_disk.specs.declared.disk.PageDisk.{Ghosts}

-- the page is one of those from a start to an end
abbrev pub IsBetween : ℕ → ℕ → ℕ → Type 0
IsBetween start end page = (start ≤ page) × (page < end)

-- all but these pages are the same
abbrev pub SameBut : (ℕ → Type 0) → Image → Image → Type 0
SameBut some old new = (page : ℕ) → (some page → ⊥) → new page ≡ old page

-- one of these images, but for these pages
abbrev pub IsAnyBut : (ℕ → Type 0) → Images → Images
IsAnyBut some images image = (before : Image) × images before × SameBut some before image

-- No page but these was written, and none read: every other one stays as it was, also in each image that a crash at
-- some moment may leave.
pub record WritesOnly {D : Type 0} (d : Ghosts D) (some : ℕ → Type 0) (old new : D) : Type 0 where
  pub now : IsTrue d.tells → SameBut some (d.now old) (d.now new)
  pub images : IsTrue d.tells → (image : Image) → d.images new image → IsAnyBut some (d.images old) image
  pub any_moment : CallsLeaveOnly d old new (IsAnyBut some (d.images old))
  pub later : d.clock old ≤ d.clock new
  pub pages : d.pages new ≡ d.pages old
  pub write_faults : d.write_faults old ≤ d.write_faults new
  pub read_faults : d.read_faults new ≡ d.read_faults old
  pub reads : d.reads new ≡ d.reads old
