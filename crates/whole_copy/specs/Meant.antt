-- The volume that a reference means, and the pages that an image shows of it.
use Rattle.std.specs.Prelude.{◌≡◌, ℕ, List, [], length, Some, None, IsSome}
use Rattle.std.specs.Option.{option_map_or}
use Rattle.std.specs.Ordering.{nat_cmp}
use Rattle.std.specs.FinMap as map
use Rattle.page_disk.specs.Disk.{Image}
use Rattle.super_block.specs.declared.page.Super.{Super}
use Rattle.volume_model.specs.Volumes.{head_of, Page, Volumes}
use Rattle.volume_model.specs.declared.command.VolumeRef.{VolumeRef}
use Rattle.blob_meta.specs.declared.meta.Meta.{Meta}
use Rattle.shown_volumes.specs.Shown.{fixed_of, shows}
use Rattle.shown_volumes.specs.Steady.{IsStored}
use Rattle.whole_copy.specs.declared.finding.MeantVolume.{MeantVolume}

module _ (s : Super) (metas : map.FinMap nat_cmp Meta) where
  -- the store can hold each blob
  abbrev pub AreHeld : Type 0
  AreHeld = (head : ℕ) (m : Meta) → map.get metas head ≡ Some m → IsStored s head m

  -- the volumes that an image shows
  abbrev pub volumes_shown : Image → Volumes
  volumes_shown image = shows (fixed_of s) image (map.get metas)

  -- the pages that it shows of the volume at a head, in order
  abbrev pub pages_shown : Image → ℕ → List Page
  pages_shown image head = option_map_or (λ x. x.pages) (volumes_shown image head) []

  -- a volume is at this head, and shows so many pages, whatever they hold
  pub record IsVolume (volume : MeantVolume) : Type 0 where
    pub there : IsSome (map.get metas volume.head)
    pub long : (image : Image) → length (pages_shown image volume.head) ≡ volume.pages

  -- the reference means this volume
  pub record IsMeant (reference : VolumeRef) (volume : MeantVolume) : Type 0 where
    pub is_volume : IsVolume volume
    pub named : (image : Image) → head_of (fixed_of s) (volumes_shown image) reference ≡ Some volume.head

  -- the reference means no volume
  abbrev pub NoneIsMeant : VolumeRef → Type 0
  NoneIsMeant reference = (image : Image) → head_of (fixed_of s) (volumes_shown image) reference ≡ None
