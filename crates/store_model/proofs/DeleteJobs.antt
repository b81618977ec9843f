-- The jobs of deletes are jobs on a family of volumes.
use Rattle.std.proofs.Common.{◌≡◌, ◌≢◌, ℕ, ◌≤◌, false, List, [], ◌∷◌, length, Option, None, Some, refl, sym, ap, ◌∙◌}
use Rattle.std.proofs.Common.{subst, inl, inr, arith}
use Rattle.std.specs.Prelude.{IsSome}
use Rattle.std.specs.List.{AllByRecursion}
use Rattle.std.specs.Option.{option_map}
use Rattle.std.proofs.lemmas.Bool.{cases_eq, eq-eqb, ne_eqb}
use Rattle.page_disk.specs.Disk.{Image}
use Rattle.volume_model.specs.Volumes.{Fixed, head_of, Volume, Volumes}
use Rattle.volume_model.specs.Refusals.{refusal}
use Rattle.volume_model.specs.Steps.{change}
use Rattle.volume_model.specs.declared.command.Command.TheVariants as c
use Rattle.volume_model.specs.declared.command.VolumeRef.{VolumeRef}
use Rattle.volume_model.specs.declared.reply.Reply.TheVariants as r_
use Rattle.volume_model.proofs.Blank.{same_named, same_refusal}
use Rattle.blob_meta.specs.declared.job.Job.{Job as Changes}
use Rattle.blob_meta.specs.declared.meta.Meta.{Meta}
use Rattle.blob_meta.specs.Repairs.{HasNoMarks}
use Rattle.blob_meta.specs.Resolving.{resolved}
use Rattle.md_chain.specs.Chain.{is_among}
use Rattle.inflate_delete.specs.Clones.{clones_below}
use Rattle.inflate_delete.specs.DeleteJobs.{delete_job, erase_job}
use Rattle.shown_volumes.specs.ShowsStep.{IsAskedOf, part_of, replaces, ShowsStep}
use Rattle.shown_volumes.specs.StoredLaws.{AreStoredWell}
use Rattle.shown_volumes.proofs.DeletedVolumes as deleted
use Rattle.shown_volumes.proofs.Deletes.{delete_shows}
use Rattle.shown_volumes.proofs.Erases.{erase_shows}
use Rattle.shown_volumes.proofs.StoredJobs.{jobs_stored}
use Rattle.store_model.specs.Maps.{with_option}
use Rattle.store_model.specs.Shown.{fixed_of}
use Rattle.store_model.specs.StoreState.{live_of, shown}
use Rattle.store_model.proofs.ChangedLive.{deleted_commit, lives_changed, lives_mapped, writable_changed}
use Rattle.store_model.proofs.FamilyStep.{at_rest, IsFamilyJob}
use Rattle.store_model.proofs.Known.{Known}
use Rattle.store_model.proofs.Meanwhile.{blank_reading, reading}
use Rattle.store_model.proofs.Sets.{not_first}
use Rattle.store_model.proofs.VolumeShown.{is_its, its, was_stored}
use Rattle.store_model.proofs.Writable.{AllWritable}

module _ (known : Known) (unmarked : HasNoMarks known.p.base) where
  open known use {p, facts}

  abbrev f : Fixed
  f = fixed_of p.super

  module _ (runs : p.stopped ≡ None) (volume : VolumeRef) (of : ℕ) (old : Meta) (there : p.base of ≡ Some old)
      (asked : refusal f (shown p) (c.Delete volume) ≡ None) (found : head_of f (shown p) volume ≡ Some of) where
    module _ (image : Image) where
      abbrev v : Volumes
      v = shown (reading p image)

      abbrev w : Volumes
      w = change f v (c.Delete volume) r_.Ok

      abbrev x : Volume
      x = its known unmarked image of old

      is : v of ≡ Some x
      is = is_its known unmarked image of old there

      found_now : head_of f v volume ≡ Some of
      found_now = same_named f v (shown p) (blank_reading p image) (c.Delete volume) ∙ found

      gone_now : w of ≡ None
      gone_now = deleted.deleted_here f v volume of x found_now is

      live_gone : live_of w of ≡ None
      live_gone = ap (λ o. option_map (λ (x : Volume). x.live) o) gone_now

      live_else : (h : ℕ) → h ≢ of → live_of w h ≡ live_of v h
      live_else h ne = ap (λ o. option_map (λ (x : Volume). x.live) o)
          (deleted.deleted_else f v volume of x found_now is h ne)
          ∙ lives_mapped (λ (y : Volume). record y {
            parent = deleted.moved f v volume of x found_now is y.parent;
          }) (λ y. refl) (v h)

      lives_deleted : live_of w ≡ with_option p.live of None
      lives_deleted = lives_changed (reading p image) (facts.well runs).live (facts.well runs).no_live w of None
          live_gone live_else

      writable_deleted : AllWritable w
      writable_deleted = writable_changed (reading p image) (facts.well runs).live (facts.well runs).no_live w of None
          live_gone live_else (λ xs bad. absurd (cc bad))

    -- the blob is gone with the commit, as its volume is
    resolved_gone : (job : Changes) → ShowsStep f p.base p.live (c.Delete volume) r_.Ok job
        → job.commit ≤ length job.list → resolved (part_of job p.base job.commit) of ≡ None
    resolved_gone job shows within =
        none_mapped _ (resolved (part_of job p.base job.commit) of)
        (ap (λ (u : Volumes). u of) (shows.since job.commit (omega arith) within p.device.reads)
        ∙ gone_now p.device.reads)
      where
        none_mapped : (g : Meta → Volume) (o : Option Meta) → option_map g o ≡ None → o ≡ None
        none_mapped g None none = refl
        none_mapped g (Some x) none = absurd (cc none)

    passed : IsAskedOf f (shown p) p.base (c.Delete volume) of old
    passed = record { found = found; there = there; passed = asked }

    family_of : (job : Changes) (clones_of : List ℕ) → ShowsStep f p.base p.live (c.Delete volume) r_.Ok job
        → AreStoredWell p.super job → job.commit ≤ length job.list
        → AllByRecursion (λ h. IsSome (part_of job p.base job.commit h)) clones_of
        → ((h : ℕ) → h ≢ of → is_among h clones_of ≡ false → replaces job h ≡ false)
        → IsFamilyJob p (c.Delete volume) job (deleted_commit of clones_of)
    family_of job clones_of shows stored within renewed others = record {
      shows = shows;
      stored = stored;
      metadata = tt;
      done = tt;
      allowed = λ image. (
        same_refusal f (shown (reading p image)) (shown p) (blank_reading p image) (c.Delete volume) ∙ asked,
        tt,
      );
      may_fail = λ image. tt;
      lives = lives_deleted;
      writable = writable_deleted;
      there = renewed;
      gone = λ h out. elim (cases_eq h of) [
        | inl e ↦ inr (subst (λ k. resolved (part_of job p.base job.commit) k ≡ None) (sym e)
            (resolved_gone job shows within))
        | inr ne ↦ inl (others h ne out)
      ];
    }

    -- of a blob without clones
    pub erase_family : clones_below p.super.md_len p.base of ≡ []
        → IsFamilyJob p (c.Delete volume) (erase_job of) (deleted_commit of [])
    erase_family none = family_of (erase_job of) []
        (erase_shows f p.base p.live p.device.reads volume of old (at_rest known unmarked) none passed)
        ((jobs_stored p.super).erase of) (omega arith) tt (λ h ne out. rw (ne_eqb of h (λ e. ne (sym e))) refl)

    -- of one with a clone, which is renewed
    pub delete_family : (clone : ℕ) (heir : Meta) → clones_below p.super.md_len p.base of ≡ clone ∷ []
        → p.base clone ≡ Some heir
        → IsFamilyJob p (c.Delete volume) (delete_job of old clone heir) (deleted_commit of (clone ∷ []))
    delete_family clone heir one is = family_of (delete_job of old clone heir) (clone ∷ [])
        (delete_shows f p.base p.live p.device.reads volume of old clone heir (at_rest known unmarked) one is passed)
        ((jobs_stored p.super).delete of clone old heir (was_stored known unmarked of old there)
        (was_stored known unmarked clone heir is)) (omega arith) (rw (eq-eqb clone clone refl) refl, tt)
        (λ h ne out.
        let other = not_first h clone [] out in
        rw (ne_eqb of h (λ e. ne (sym e)), ne_eqb clone h (λ e. other.0 (sym e))) refl)
