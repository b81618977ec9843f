-- The volumes that metadata and an image show.
use Rattle.std.specs.Prelude.{[], ℕ, zero, suc, ◌+◌, ◌*◌, ◌/◌, ◌%◌, nat_lt, if◌then◌else◌, Option, Some, None, length}
use Rattle.std.specs.Prelude.{map}
use Rattle.std.specs.List.{range_with_len}
use Rattle.std.specs.Option.{option_map, option_map_or}
use Rattle.page_disk.specs.Disk.{Image}
use Rattle.super_block.specs.declared.page.Super.{Super}
use Rattle.super_block.specs.Numbers.{cluster_pages_of}
use Rattle.volume_model.specs.Volumes.{Page, Volume, Volumes, Fixed, zero_page}
use Rattle.volume_model.specs.Xattrs.{Xattrs}
use Rattle.blob_meta.specs.declared.meta.Meta.{Meta}
use Rattle.blob_meta.specs.Faults.{is_thin}
use Rattle.blob_meta.specs.Parents.{head_of_id, parent_of, slot, is_read_only, is_locked}
use Rattle.shown_volumes.specs.Maps.{Map, Metas}

-- what a super block fixes for volumes
abbrev pub fixed_of : Super → Fixed
fixed_of s = record { cluster_pages = cluster_pages_of s; md_len = s.md_len; super_blob = head_of_id s.super_blob }

module _ (cluster_pages : ℕ) (image : Image) (metas : Metas) where
  -- A page of a volume: that of the cluster in its slot; where the slot is empty the parent's, if the page is below the
  -- parent's length; else zeros.
  abbrev pub content_by : (ℕ → ℕ → Page) → ℕ → Meta → Page
  content_by content_of page m = in_slot (slot m (page / cluster_pages))
    where
      in_slot : Option ℕ → Page
      in_slot (Some cluster) = image (cluster * cluster_pages + page % cluster_pages)
      in_slot None = option_map_or (λ p. option_map_or (λ parent. if nat_lt page (cluster_pages * length parent.map)
          then content_of p page else zero_page) (metas p) zero_page) (parent_of m) zero_page

  -- following parents so many times at most
  abbrev pub content : ℕ → ℕ → ℕ → Page
  content zero head page = zero_page
  content (suc times) head page = option_map_or (content_by (λ p q. content times p q) page) (metas head) zero_page

  -- a blob as a volume; there are fewer parents than metadata pages
  abbrev pub volume_of : ℕ → Xattrs → ℕ → Meta → Volume
  volume_of md_len live head m = record {
    pages = map (content (suc md_len) head) (range_with_len 0 (cluster_pages * length m.map));
    live = live;
    synced = m.xattrs;
    thin = is_thin m.flags;
    read_only = is_read_only m.flags;
    locked = is_locked m.flags;
    parent = parent_of m;
  }

-- attributes, which are none where none are given
abbrev pub or_empty : Option Xattrs → Xattrs
or_empty o = option_map_or (λ xs. xs) o []

-- what an image shows that says this metadata, with these attributes live
abbrev pub shown_by : Fixed → Image → Metas → Map Xattrs → Volumes
shown_by f image metas live head = option_map
    (λ m. volume_of f.cluster_pages image metas f.md_len (or_empty (live head)) head m) (metas head)

-- each attribute being live as it is synced
abbrev pub shows : Fixed → Image → Metas → Volumes
shows f image metas head = option_map (λ m. volume_of f.cluster_pages image metas f.md_len m.xattrs head m) (metas head)

-- the attributes of volumes as they are read
abbrev pub live_of : Volumes → Map Xattrs
live_of v head = option_map (λ x. x.live) (v head)
