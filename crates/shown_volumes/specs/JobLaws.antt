-- The laws of the jobs of snapshots, clones and deletes, and of those at the ends of fills: what each part of them
-- shows.
use Rattle.std.specs.Prelude.{◌≡◌, ℕ, ◌<◌, Some, None, [], ◌∷◌}
use Rattle.page_disk.specs.Disk.{Image}
use Rattle.volume_model.specs.Volumes.{Fixed, two_xattrs}
use Rattle.volume_model.specs.Xattrs.{Text, Xattrs}
use Rattle.volume_model.specs.declared.command.Command.TheVariants as c
use Rattle.volume_model.specs.declared.command.VolumeRef.{VolumeRef}
use Rattle.volume_model.specs.declared.reply.Reply.TheVariants as r
use Rattle.blob_meta.specs.declared.meta.Meta.{Meta}
use Rattle.snapshots.specs.SnapshotJobs.{clone_job, snapshot_job}
use Rattle.inflate_delete.specs.Clones.{clones_below}
use Rattle.inflate_delete.specs.DeleteJobs.{delete_job, erase_job}
use Rattle.inflate_delete.specs.FillJobs.{fill_job}
use Rattle.inflate_delete.specs.Fills.{command_of, IsFilled, parent_blob}
use Rattle.inflate_delete.specs.declared.filling.FillKind.{FillKind}
use Rattle.shown_volumes.specs.Maps.{Map, Metas}
use Rattle.shown_volumes.specs.ShowsStep.{IsAskedOf, IsAtRest, shown_in, ShowsStep}

-- a head at which no blob is, and a new one may be
pub record IsClear (f : Fixed) (base : Metas) (head : ℕ) : Type 0 where
  pub none : base head ≡ None
  pub low : head < f.md_len

module _ (f : Fixed) (base : Metas) (live : Map Xattrs) (image : Image) (volume : VolumeRef) (name : Text) (of head : ℕ)
    (old : Meta) (xattrs : Xattrs) where
  -- these are the attributes of a new volume of the name
  abbrev pub IsNamedSo : Type 0
  IsNamedSo = two_xattrs f (shown_in f base live image) name None ≡ xattrs

  -- a snapshot of the blob at a head, made at another
  abbrev pub ShowsSnapshot : Type 0
  ShowsSnapshot = IsAtRest f base → IsClear f base head
      → IsAskedOf f (shown_in f base live image) base (c.Snapshot volume name) of old → IsNamedSo
      → ShowsStep f base live (c.Snapshot volume name) (r.Made head) (snapshot_job of old head xattrs)

  -- a clone of it
  abbrev pub ShowsClone : Type 0
  ShowsClone = IsAtRest f base → IsClear f base head
      → IsAskedOf f (shown_in f base live image) base (c.Clone volume name) of old → IsNamedSo
      → ShowsStep f base live (c.Clone volume name) (r.Made head) (clone_job of old head xattrs)

module _ (f : Fixed) (base : Metas) (live : Map Xattrs) (image : Image) (volume : VolumeRef) (of : ℕ) (old : Meta) where
  -- the erasure of the blob at a head that has no clone
  abbrev pub ShowsErase : Type 0
  ShowsErase = IsAtRest f base → clones_below f.md_len base of ≡ []
      → IsAskedOf f (shown_in f base live image) base (c.Delete volume) of old
      → ShowsStep f base live (c.Delete volume) r.Ok (erase_job of)

  -- the delete of one with a clone that takes over from it
  abbrev pub ShowsDelete : ℕ → Meta → Type 0
  ShowsDelete clone heir = IsAtRest f base → clones_below f.md_len base of ≡ clone ∷ [] → base clone ≡ Some heir
      → IsAskedOf f (shown_in f base live image) base (c.Delete volume) of old
      → ShowsStep f base live (c.Delete volume) r.Ok (delete_job of old clone heir)

  -- the end of an inflate or a decouple of it, where no slot is left to fill
  abbrev pub ShowsFill : FillKind → Type 0
  ShowsFill kind = IsAtRest f base → IsFilled base of kind
      → IsAskedOf f (shown_in f base live image) base (command_of kind volume) of old
      → ShowsStep f base live (command_of kind volume) r.Ok (fill_job kind of old (parent_blob base old))
