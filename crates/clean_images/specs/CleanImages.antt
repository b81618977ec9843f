-- Which images a crash may leave of a store that was found clean: none of them is trusted by mistake.
use Rattle.std.specs.Prelude.{◌≡◌, ◌≢◌, ◌⊎◌, ℕ, List, ◌∷◌, None, Some, true, false}
use Rattle.page_disk.specs.Disk.{Image}
use Rattle.page_disk.specs.Marks.{MarksKept}
use Rattle.page_disk.specs.declared.disk.PageDisk.{Ghosts}
use Rattle.super_block.specs.Page.{super_of}
use Rattle.super_block.specs.declared.page.Super.{Super}
use Rattle.store_model.specs.Phases.{Marks, Phase}
use Rattle.store_model.specs.StateLaws.{HasFixedPagesOf}
use Rattle.store_model.specs.StoreState.{JobState, StoreState}

-- the super block of the image doesn't say that the store is clean
abbrev pub IsInUse : Super → Image → Type 0
IsInUse s image = (super_of (image 0) s.device_pages).clean ≢ 1

-- the image is marked as in use, so that it is scanned; or it is loaded just as the one that was opened
abbrev pub IsMarkedOrOpened : Super → Image → Image → Type 0
IsMarkedOrOpened s opened image = IsInUse s image ⊎ HasFixedPagesOf s opened image

-- a store that is clean is marked as in use before all else that its job does
abbrev pub MarksFirst : StoreState → Type 0
MarksFirst p = p.clean ≡ true → (job : JobState) → p.job ≡ Some job → (rest : List Phase) × (job.todo ≡ Marks ∷ rest)

-- What a crash may leave of a device on which a store runs, by whether the device says that the store is clean.
pub record CleanImages {D : Type 0} (d : Ghosts D) (s : Super) (opened : Image) (p : StoreState)
    (disk : D) : Type 0 where
  pub marks_first : MarksFirst p
  -- As long as it is clean and runs, the fixed clusters of every image are as they were;
  pub as_opened : p.clean ≡ true → p.stopped ≡ None → (image : Image) → d.images disk image
      → HasFixedPagesOf s opened image
  -- once the store is marked, every image is,
  pub in_use : p.clean ≡ false → (image : Image) → d.images disk image → IsInUse s image
  -- and at any moment since it was loaded every image was, or was as it was opened.
  pub any_moment : MarksKept d disk p.marks (λ i. IsMarkedOrOpened s opened)
