-- A snapshot's job shows the volumes as they were, and from its commit on those of the step.
use Rattle.std.proofs.Common.{◌≡◌, ℕ, ◌+◌, ◌^◌, ◌≤◌, None, length, sym, ◌∙◌, subst}
use Rattle.page_disk.specs.Disk.{Image}
use Rattle.volume_model.specs.Volumes.{Fixed, two_xattrs}
use Rattle.volume_model.specs.Xattrs.{Text, Xattrs}
use Rattle.volume_model.specs.declared.command.Command.TheVariants as c
use Rattle.volume_model.specs.declared.command.VolumeRef.{VolumeRef}
use Rattle.volume_model.specs.declared.reply.Reply.TheVariants as r
use Rattle.volume_model.proofs.Blank.{same_named}
use Rattle.blob_meta.specs.declared.meta.Meta.{Meta}
use Rattle.blob_meta.specs.Resolving.{slots_together}
use Rattle.snapshots.specs.SnapshotJobs.{snapshot_job}
use Rattle.shown_volumes.specs.JobLaws.{IsClear, ShowsSnapshot}
use Rattle.shown_volumes.specs.Maps.{Map, Metas}
use Rattle.shown_volumes.specs.Shown.{shown_by}
use Rattle.shown_volumes.specs.ShowsStep.{IsAskedOf, IsAtRest, ShowsStep}
use Rattle.shown_volumes.proofs.BlobsShown.{shows_blob, slots_fit, volume_at}
use Rattle.shown_volumes.proofs.Blanked.{blank_shown, two_same}
use Rattle.shown_volumes.proofs.Parts.{not_first, rest_resolved, shows_step}
use Rattle.shown_volumes.proofs.Passing.{snapshot_room}
use Rattle.shown_volumes.proofs.SnapshotParts as parts
use Rattle.shown_volumes.proofs.SnapshotShows as shows

module _ (f : Fixed) (base : Metas) (live : Map Xattrs) (image : Image) (volume : VolumeRef) (name : Text)
    (of head : ℕ) (old : Meta) (rest : IsAtRest f base) (clear : IsClear f base head)
    (asked : IsAskedOf f (shown_by f image base live) base (c.Snapshot volume name) of old) where
  abbrev two : Xattrs
  two = two_xattrs f (shown_by f image base live) name None

  room : slots_together f.md_len base + length old.map ≤ 2 ^ 24
  room = slots_fit f base rest live image volume name of old asked.found asked.there
      (snapshot_room f (shown_by f image base live) volume name of (volume_at f base rest live image of old) asked.found
      (shows_blob f base rest live image of old asked.there) asked.passed)

  step : ShowsStep f base live (c.Snapshot volume name) (r.Made head) (snapshot_job of old head two)
  step = shows_step f base live (c.Snapshot volume name) (r.Made head) (snapshot_job of old head two)
      (parts.next f base rest of head old two asked.there clear) rest
      (parts.early f base rest of head old two asked.there clear)
      (parts.late f base rest of head old two asked.there clear)
      (shows.lawful f base rest of head old two asked.there clear room)
      (parts.few f base rest of head old two asked.there clear
      (shows.lawful f base rest of head old two asked.there clear room).few)
      (parts.unmarked f base rest of head old two asked.there clear)
      (λ other. shows.shown_next f base rest of head old two asked.there clear room other live volume name
      (same_named f (shown_by f other base live) (shown_by f image base live) (blank_shown f base live other image)
      (c.Snapshot volume name) ∙ asked.found)
      (two_same f (shown_by f other base live) (shown_by f image base live) (blank_shown f base live other image) name
      None))
      (λ h out.
      let first = not_first h head _ out in
      let second = not_first h of _ (not_first h head _ first.1).1 in
      shows.leaves f base rest of head old two asked.there clear room h first.0 second.0)

-- the law
pub snapshot_shows : (f : Fixed) (base : Metas) (live : Map Xattrs) (image : Image) (volume : VolumeRef) (name : Text)
    (of head : ℕ) (old : Meta) (xattrs : Xattrs) → ShowsSnapshot f base live image volume name of head old xattrs
snapshot_shows f base live image volume name of head old xattrs rest clear =
    subst (λ (m : Metas). IsAskedOf f (shown_by f image m live) base (c.Snapshot volume name) of old
    → two_xattrs f (shown_by f image m live) name None ≡ xattrs
    → ShowsStep f base live (c.Snapshot volume name) (r.Made head) (snapshot_job of old head xattrs))
    (sym (rest_resolved f base rest))
    (λ asked are. subst (λ (xs : Xattrs). ShowsStep f base live (c.Snapshot volume name) (r.Made head)
    (snapshot_job of old head xs)) are (step f base live image volume name of head old rest clear asked))
