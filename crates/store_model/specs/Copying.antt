-- The old content of a slot, as it is copied into the cluster that is claimed for it.
use Rattle.std.specs.Prelude.{◌≡◌, ℕ, suc, ◌+◌, ◌*◌, ◌<◌, None, Some}
use Rattle.page_disk.specs.Disk.{Image}
use Rattle.super_block.specs.declared.page.Super.{Super}
use Rattle.super_block.specs.Numbers.{cluster_pages_of}
use Rattle.volume_model.specs.Volumes.{Page}
use Rattle.blob_meta.specs.declared.meta.Meta.{Meta}
use Rattle.blob_meta.specs.Parents.{slot}
use Rattle.blob_meta.specs.Resolving.{resolved}
use Rattle.store_model.specs.Maps.{Metas}
use Rattle.shown_volumes.specs.EmptySlots as slots
use Rattle.store_model.specs.Shown.{content, fixed_of}
use Rattle.store_model.specs.Rows.{Copying, InJob, OpenClaim, Posted, Ready, Stage}
use Rattle.store_model.specs.StoreState.{StoreState}

-- ---- empty slots

-- each slot of a blob that is empty with later metadata was empty, and shows what it showed
abbrev pub LeavesSlotsEmpty : Super → Metas → Metas → (Image → Type 0) → ℕ → Type 0
LeavesSlotsEmpty s = slots.LeavesEmpty (fixed_of s)

-- ---- open claims

-- the blob of the claim is there, and was neither emptied nor copied since
abbrev pub IsUpToDate : StoreState → OpenClaim → Type 0
IsUpToDate p claim = p.generations claim.head ≡ Some claim.generation

-- A claim that is up to date, of a slot that is empty still.
pub record IsWanted (p : StoreState) (claim : OpenClaim) : Type 0 where
  pub current : IsUpToDate p claim
  pub meta : Meta
  pub there : resolved p.base claim.head ≡ Some meta
  pub empty : slot meta claim.slot ≡ None

-- a page of the device, by its place in the claimed cluster
abbrev pub page_of_claim : StoreState → OpenClaim → ℕ → ℕ
page_of_claim p claim page = claim.cluster * cluster_pages_of p.super + page

-- what the slot shows there
abbrev pub shown_in_slot : StoreState → OpenClaim → ℕ → Page
shown_in_slot p claim page =
    content (cluster_pages_of p.super) p.device.reads (resolved p.base) (suc p.super.md_len) claim.head
    (claim.slot * cluster_pages_of p.super + page)

-- a row at this stage has copied this one of so many pages
abbrev pub HasCopied : ℕ → Stage → ℕ → Type 0
HasCopied pages (Copying left) page = page + left < pages
HasCopied pages Ready page = page < pages
HasCopied pages (Posted serial) page = page < pages
HasCopied pages InJob page = page < pages
HasCopied pages _ page = ⊥

-- Each page that was copied for a claim that is still wanted reads what the slot shows.
abbrev pub AreCopied : StoreState → Type 0
AreCopied p =
    (row : ℕ) (claim : OpenClaim) → (p.rows row).claim ≡ Some claim → IsWanted p claim
    → (page : ℕ) → HasCopied (cluster_pages_of p.super) (p.rows row).stage page
    → p.device.reads (page_of_claim p claim page) ≡ shown_in_slot p claim page
