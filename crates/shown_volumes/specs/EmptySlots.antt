-- Empty slots of blobs whose metadata is followed by other metadata.
use Rattle.std.specs.Prelude.{◌≡◌, ℕ, suc, ◌/◌, None, Some}
use Rattle.page_disk.specs.Disk.{Image}
use Rattle.volume_model.specs.Volumes.{Fixed}
use Rattle.blob_meta.specs.declared.meta.Meta.{Meta}
use Rattle.blob_meta.specs.Parents.{slot}
use Rattle.shown_volumes.specs.Maps.{Metas}
use Rattle.shown_volumes.specs.Shown.{content}

-- A slot of a blob is empty in this metadata, and shows at this page what it shows with later metadata, by what an
-- image holds.
pub record WasEmpty (f : Fixed) (metas later : Metas) (Held : Image → Type 0) (head page : ℕ) : Type 0 where
  pub old : Meta
  pub there : metas head ≡ Some old
  pub empty : slot old (page / f.cluster_pages) ≡ None
  pub same : (image : Image) → Held image
      → content f.cluster_pages image later (suc f.md_len) head page
      ≡ content f.cluster_pages image metas (suc f.md_len) head page

-- each slot of a blob that is empty with later metadata was empty, and shows what it showed
abbrev pub LeavesEmpty : Fixed → Metas → Metas → (Image → Type 0) → ℕ → Type 0
LeavesEmpty f metas later Held head =
    (page : ℕ) (m : Meta) → later head ≡ Some m → slot m (page / f.cluster_pages) ≡ None
    → WasEmpty f metas later Held head page

-- nothing is known of what an image holds
abbrev pub Anything : Image → Type 0
Anything image = Unit {0}
