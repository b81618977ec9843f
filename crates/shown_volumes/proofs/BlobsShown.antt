-- The volumes of blobs that are there, and room for one more.
use Rattle.std.proofs.Common.{◌≡◌, ℕ, ◌+◌, ◌^◌, ◌≤◌, Some, length, ap, arith}
use Rattle.std.specs.Option.{option_map}
use Rattle.page_disk.specs.Disk.{Image}
use Rattle.volume_model.specs.Volumes.{Fixed, head_of, Volume, Volumes}
use Rattle.volume_model.specs.Xattrs.{Text, Xattrs}
use Rattle.volume_model.specs.declared.command.VolumeRef.{VolumeRef}
use Rattle.blob_meta.specs.declared.meta.Meta.{Meta}
use Rattle.blob_meta.specs.Resolving.{slots_together}
use Rattle.shown_volumes.specs.Maps.{Map, Metas}
use Rattle.shown_volumes.specs.Shown.{or_empty, shown_by, volume_of}
use Rattle.shown_volumes.specs.ShowsStep.{IsAtRest}
use Rattle.shown_volumes.proofs.Passing.{HasRoom}
use Rattle.shown_volumes.proofs.SlotSums.{all_shown, slots_shown}

module _ (f : Fixed) (base : Metas) (rest : IsAtRest f base) (live : Map Xattrs) (image : Image) where
  abbrev pub v : Volumes
  v = shown_by f image base live

  abbrev pub volume_at : ℕ → Meta → Volume
  volume_at h m = volume_of f.cluster_pages image base f.md_len (or_empty (live h)) h m

  -- the volume of a blob that is there
  pub shows_blob : (h : ℕ) (m : Meta) → base h ≡ Some m → v h ≡ Some (volume_at h m)
  shows_blob h m is = ap (λ o. option_map (λ n. volume_at h n) o) is

  -- the room that a new volume as long as another has is room for the blob's slots
  pub slots_fit : (volume : VolumeRef) (name : Text) (h : ℕ) (m : Meta) (found : head_of f v volume ≡ Some h)
      (is : base h ≡ Some m) → HasRoom f v volume name h (volume_at h m) found (shows_blob h m is)
      → slots_together f.md_len base + length m.map ≤ 2 ^ 24
  slots_fit volume name h m found is room =
      let all = all_shown f image base rest.some_pages live in
      let own = slots_shown f image base rest.some_pages (or_empty (live h)) h m in
      omega (arith, all, own, room)
