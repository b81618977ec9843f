-- The erasure of a blob without clones shows the volumes as they were, and then those of the step.
use Rattle.std.proofs.Common.{◌≡◌, ◌≢◌, ℕ, zero, suc, ◌^◌, ◌<◌, ◌≤◌, Option, Some, None, [], length}
use Rattle.std.proofs.Common.{refl, sym, ap, ◌∙◌, subst, inl, inr, arith}
use Rattle.std.specs.Option.{option_map}
use Rattle.std.proofs.lemmas.Bool.{cases_eq}
use Rattle.std.proofs.Math.Path.{fun_ext}
use Rattle.page_disk.specs.Disk.{Image}
use Rattle.volume_model.specs.Steps.{change}
use Rattle.volume_model.specs.Volumes.{Fixed, head_of, Volume, Volumes}
use Rattle.volume_model.specs.Xattrs.{Xattrs}
use Rattle.volume_model.specs.declared.command.Command.TheVariants as c
use Rattle.volume_model.specs.declared.command.VolumeRef.{VolumeRef}
use Rattle.volume_model.specs.declared.reply.Reply.TheVariants as r
use Rattle.volume_model.proofs.Blank.{same_named}
use Rattle.blob_meta.specs.declared.job.Job.{Job}
use Rattle.blob_meta.specs.declared.meta.Meta.{Meta}
use Rattle.blob_meta.specs.Parents.{parent_of}
use Rattle.blob_meta.specs.Resolving.{IsLawful, resolved, slots_together}
use Rattle.blob_meta.proofs.Fates.{resolved_absent}
use Rattle.inflate_delete.specs.Clones.{clones_below}
use Rattle.inflate_delete.specs.DeleteJobs.{erase_job}
use Rattle.shown_volumes.specs.EmptySlots.{Anything, LeavesEmpty}
use Rattle.shown_volumes.specs.JobLaws.{ShowsErase}
use Rattle.shown_volumes.specs.Maps.{Map, Metas, without_entry}
use Rattle.shown_volumes.specs.Shown.{content, live_of, shown_by}
use Rattle.shown_volumes.specs.ShowsStep.{IsAskedOf, IsAtRest, part_of, ShowsStep}
use Rattle.shown_volumes.proofs.Blanked.{blank_shown}
use Rattle.shown_volumes.proofs.BlobsShown.{shows_blob, volume_at}
use Rattle.shown_volumes.proofs.Childless.{none_counted}
use Rattle.shown_volumes.proofs.DeletedVolumes as deleted
use Rattle.shown_volumes.proofs.Fitting.{Contents, Fits, opened, pages_fit, same_level, same_still}
use Rattle.shown_volumes.proofs.Marked.{as_before}
use Rattle.shown_volumes.proofs.Parts.{none_shown, rest_resolved, shows_step, some_shown}
use Rattle.shown_volumes.proofs.Ranks.{Levels, levels}
use Rattle.shown_volumes.proofs.SlotSums.{slots_gone, slots_in}
use Rattle.shown_volumes.proofs.WithEntry.{gone_elsewhere, gone_here}

module _ (f : Fixed) (base : Metas) (rest : IsAtRest f base) (of : ℕ) (old : Meta) (there : base of ≡ Some old)
    (none : clones_below f.md_len base of ≡ []) where
  abbrev law : IsLawful f.md_len base
  law = rest.lawful

  abbrev job : Job
  job = erase_job of

  abbrev next : Metas
  next = without_entry base of

  low : (h : ℕ) (m : Meta) → base h ≡ Some m → h < f.md_len
  low h m is = rest.heads_below h (rw is refl)

  is_other : (h : ℕ) → h ≢ of → next h ≡ base h
  is_other = gone_elsewhere base of

  another : (h : ℕ) (m : Meta) → next h ≡ Some m → h ≢ of
  another h m is e = let bad : None ≡ Some m = sym (gone_here base of h e) ∙ is in absurd (cc bad)

  was_there : (h : ℕ) (m : Meta) → next h ≡ Some m → base h ≡ Some m
  was_there h m is = sym (is_other h (another h m is)) ∙ is

  childless : (h p : ℕ) (m : Meta) → base h ≡ Some m → parent_of m ≡ Some p → p ≢ of
  childless h p m is parent e =
      none_counted f.md_len base of none h m is (low h m is) (parent ∙ ap (λ n. Some n) e)

  after_first : resolved next ≡ next
  after_first = fun_ext (λ h. elim (cases_eq h of) [
    | inl e ↦ resolved_absent next h (gone_here base of h e) ∙ sym (gone_here base of h e)
    | inr ne ↦ as_before base next rest.unmarked h (is_other h ne) ∙ sym (is_other h ne)
  ])

  early : (count : ℕ) → count < 1 → resolved (part_of job base count) ≡ base
  early zero lt = fun_ext (λ h. as_before base base rest.unmarked h refl)
  early (suc count) lt = absurd (omega (arith, lt))

  late : (count : ℕ) → 1 ≤ count → count ≤ 1 → resolved (part_of job base count) ≡ next
  late zero ge le = absurd (omega (arith, ge))
  late (suc zero) ge le = after_first
  late (suc (suc count)) ge le = absurd (omega (arith, le))

  lawful : IsLawful f.md_len next
  lawful = record {
    alone = λ h k i j cluster m n hm kn si sj.
        law.alone h k i j cluster m n (was_there h m hm) (was_there k n kn) si sj;
    parents = λ h p m is parent.
        let up = law.parents h p m (was_there h m is) parent in
        (up.0, is_other p (childless h p m (was_there h m is) parent) ∙ up.1, up.2);
    rank = law.rank;
    falls = λ h p m is parent. law.falls h p m (was_there h m is) parent;
    few = let sum = slots_gone f.md_len base of (low of old there) in let few = law.few in omega (arith, sum, few);
  }

  old_levels : Levels f.md_len base
  old_levels = levels f.md_len base law low

  new_levels : Levels f.md_len next
  new_levels = levels f.md_len next lawful (λ h m is. low h m (was_there h m is))

  module _ (image : Image) where
    abbrev k : ℕ
    k = f.cluster_pages

    abbrev was : Contents
    was = content k image base (suc f.md_len)

    fits : Fits k image f.md_len next new_levels was
    fits h page m is lt =
        same_level k image page base next was was m m refl refl
        (λ p up. ap slots_in (is_other p (childless h p m (was_there h m is) up))) (λ _ _ _. refl)
        ∙ sym (opened k image f.md_len base old_levels h page m (was_there h m is))

    module _ (live : Map Xattrs) (volume : VolumeRef) (found : head_of f (shown_by f image base live) volume ≡ Some of)
      where
        abbrev v : Volumes
        v = shown_by f image base live

        abbrev x : Volume
        x = volume_at f base rest live image of old

        is_x : v of ≡ Some x
        is_x = shows_blob f base rest live image of old there

        abbrev w : Volumes
        w = change f v (c.Delete volume) r.Ok

        abbrev parented : Volume → Volume
        parented y = record y { parent = deleted.moved f v volume of x found is_x y.parent }

        at_other : (h : ℕ) → h ≢ of → (o : Option Meta) → base h ≡ o → shown_by f image next (live_of w) h ≡ w h
        at_other h ne None is = none_shown f image next w h (is_other h ne ∙ is)
            (deleted.deleted_else f v volume of x found is_x h ne
            ∙ ap (λ o. option_map parented (option_map (λ m. volume_at f base rest live image h m) o)) is)
        at_other h ne (Some m) is =
            let y = volume_at f base rest live image h m in
            let same = pages_fit k image f.md_len next new_levels was fits h m (length m.map) (was h)
            (is_other h ne ∙ is) refl (λ page _. refl) in
            let parent = deleted.stays f v volume of x found is_x (parent_of m) (λ e. childless h of m is e refl) in
            some_shown f image next w h m y (is_other h ne ∙ is)
            (deleted.deleted_else f v volume of x found is_x h ne
            ∙ ap (option_map parented) (shows_blob f base rest live image h m is)
            ∙ (λ i. Some (record y { parent = parent i })))
            (λ i. record y { pages = same i })

        shown_next : shown_by f image next (live_of w) ≡ w
        shown_next = fun_ext (λ h. elim (cases_eq h of) [
          | inl e ↦ none_shown f image next w h (gone_here base of h e)
              (ap w e ∙ deleted.deleted_here f v volume of x found is_x)
          | inr ne ↦ at_other h ne (base h) refl
        ])

  -- every other blob shows what it showed where it has empty slots
  leaves : (h : ℕ) → LeavesEmpty f base next Anything h
  leaves h page m is empty = record {
    old = m;
    there = was_there h m is;
    empty = empty;
    same = λ image _. same_still f.cluster_pages image f.md_len base next old_levels new_levels (was image) (fits image)
        h page m (was_there h m is) is (λ p up. ap slots_in (is_other p (childless h p m (was_there h m is) up)))
        (λ _ _. refl);
  }

module _ (f : Fixed) (base : Metas) (live : Map Xattrs) (image : Image) (volume : VolumeRef) (of : ℕ) (old : Meta)
    (rest : IsAtRest f base) (none : clones_below f.md_len base of ≡ [])
    (asked : IsAskedOf f (shown_by f image base live) base (c.Delete volume) of old) where
  few : (count : ℕ) → count ≤ 1 → slots_together f.md_len (part_of (erase_job of) base count) ≤ 2 ^ 24
  few zero le = rest.lawful.few
  few (suc zero) le = (lawful f base rest of old asked.there none).few
  few (suc (suc count)) le = absurd (omega (arith, le))

  step : ShowsStep f base live (c.Delete volume) r.Ok (erase_job of)
  step = shows_step f base live (c.Delete volume) r.Ok (erase_job of) (without_entry base of) rest
      (early f base rest of old asked.there none) (late f base rest of old asked.there none)
      (lawful f base rest of old asked.there none) few
      (λ h m is. rest.unmarked h m (was_there f base rest of old asked.there none h m is))
      (λ other. shown_next f base rest of old asked.there none other live volume
      (same_named f (shown_by f other base live) (shown_by f image base live) (blank_shown f base live other image)
      (c.Delete volume) ∙ asked.found))
      (λ h out. leaves f base rest of old asked.there none h)

-- the law
pub erase_shows : (f : Fixed) (base : Metas) (live : Map Xattrs) (image : Image) (volume : VolumeRef) (of : ℕ)
    (old : Meta) → ShowsErase f base live image volume of old
erase_shows f base live image volume of old rest none =
    subst (λ (m : Metas). IsAskedOf f (shown_by f image m live) base (c.Delete volume) of old
    → ShowsStep f base live (c.Delete volume) r.Ok (erase_job of)) (sym (rest_resolved f base rest))
    (λ asked. step f base live image volume of old rest none asked)
