-- A delete's job, of a blob with one clone, shows the volumes as they were, and from its commit on those of the step.
use Rattle.std.proofs.Common.{◌≡◌, ℕ, false, Some, [], ◌∷◌, sym}
use Rattle.std.proofs.Common.{◌∙◌, subst}
use Rattle.page_disk.specs.Disk.{Image}
use Rattle.volume_model.specs.Refusals.{is_short_between}
use Rattle.volume_model.specs.Volumes.{Fixed, Volume, Volumes}
use Rattle.volume_model.specs.Xattrs.{Xattrs}
use Rattle.volume_model.specs.declared.command.Command.TheVariants as c
use Rattle.volume_model.specs.declared.command.VolumeRef.{VolumeRef}
use Rattle.volume_model.specs.declared.reply.Reply.TheVariants as r
use Rattle.volume_model.proofs.Blank.{same_named}
use Rattle.blob_meta.specs.declared.meta.Meta.{Meta}
use Rattle.blob_meta.specs.Parents.{is_locked}
use Rattle.inflate_delete.specs.Clones.{clones_below}
use Rattle.inflate_delete.specs.DeleteJobs.{delete_job}
use Rattle.shown_volumes.specs.JobLaws.{ShowsDelete}
use Rattle.shown_volumes.specs.Maps.{Map, Metas}
use Rattle.shown_volumes.specs.Shown.{shown_by}
use Rattle.shown_volumes.specs.ShowsStep.{IsAskedOf, IsAtRest, ShowsStep}
use Rattle.shown_volumes.proofs.Blanked.{blank_shown}
use Rattle.shown_volumes.proofs.BlobsShown.{shows_blob, volume_at}
use Rattle.shown_volumes.proofs.Childless.{clones_shown}
use Rattle.shown_volumes.proofs.DeleteParts as parts
use Rattle.shown_volumes.proofs.DeleteShows as shows
use Rattle.shown_volumes.proofs.Parts.{not_first, rest_resolved, shows_step}
use Rattle.shown_volumes.proofs.Passing.{delete_long, delete_unlocked}
use Rattle.shown_volumes.proofs.TakenOver.{IsLongBetween, long_between}

module _ (f : Fixed) (base : Metas) (live : Map Xattrs) (image : Image) (volume : VolumeRef) (of : ℕ) (old : Meta)
    (clone : ℕ) (heir : Meta) (rest : IsAtRest f base) (one : clones_below f.md_len base of ≡ clone ∷ [])
    (there_too : base clone ≡ Some heir)
    (asked : IsAskedOf f (shown_by f image base live) base (c.Delete volume) of old) where
  abbrev v : Volumes
  v = shown_by f image base live

  abbrev x : Volume
  x = volume_at f base rest live image of old

  abbrev y : Volume
  y = volume_at f base rest live image clone heir

  is_x : v of ≡ Some x
  is_x = shows_blob f base rest live image of old asked.there

  unlocked : is_locked old.flags ≡ false
  unlocked = delete_unlocked f v volume of x asked.found is_x asked.passed

  long : is_short_between f v x y ≡ false
  long = delete_long f v volume of x asked.found is_x asked.passed clone y
      (clones_shown f base live image of ∙ one) (shows_blob f base rest live image clone heir there_too)

  between : IsLongBetween base old heir
  between = long_between f base rest live image of old clone heir long

  step : ShowsStep f base live (c.Delete volume) r.Ok (delete_job of old clone heir)
  step = shows_step f base live (c.Delete volume) r.Ok (delete_job of old clone heir)
      (parts.next f base rest of clone old heir asked.there there_too one unlocked) rest
      (parts.early f base rest of clone old heir asked.there there_too one unlocked)
      (parts.late f base rest of clone old heir asked.there there_too one unlocked)
      (shows.lawful f base rest of clone old heir asked.there there_too one unlocked between)
      (parts.few f base rest of clone old heir asked.there there_too one unlocked)
      (parts.unmarked f base rest of clone old heir asked.there there_too one unlocked)
      (λ other. shows.shown_next f base rest of clone old heir asked.there there_too one unlocked between other live
      volume (same_named f (shown_by f other base live) v (blank_shown f base live other image) (c.Delete volume)
      ∙ asked.found))
      (λ h out.
      let first = not_first h of _ out in
      shows.leaves f base rest of clone old heir asked.there there_too one unlocked between h first.0
      (not_first h clone _ first.1).0)

-- the law
pub delete_shows : (f : Fixed) (base : Metas) (live : Map Xattrs) (image : Image) (volume : VolumeRef) (of : ℕ)
    (old : Meta) (clone : ℕ) (heir : Meta) → ShowsDelete f base live image volume of old clone heir
delete_shows f base live image volume of old clone heir rest one there_too =
    subst (λ (m : Metas). IsAskedOf f (shown_by f image m live) base (c.Delete volume) of old
    → ShowsStep f base live (c.Delete volume) r.Ok (delete_job of old clone heir)) (sym (rest_resolved f base rest))
    (λ asked. step f base live image volume of old clone heir rest one there_too asked)
