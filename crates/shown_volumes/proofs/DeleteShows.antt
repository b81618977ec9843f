-- What is shown where a blob is deleted, from which its one clone took over: the volumes of the step.
use Rattle.std.proofs.Common.{◌≡◌, ◌≢◌, ℕ, suc, ◌*◌, ◌/◌, ◌<◌, false, Option, Some, None, [], ◌∷◌}
use Rattle.std.proofs.Common.{length, map, refl, sym, ap, ◌∙◌, subst, inl, inr}
use Rattle.std.specs.List.{range_with_len}
use Rattle.std.specs.Option.{option_map, option_or}
use Rattle.std.proofs.Math.Path.{fun_ext}
use Rattle.std.proofs.lemmas.Bool.{cases_eq}
use Rattle.page_disk.specs.Disk.{Image}
use Rattle.volume_model.specs.Steps.{change}
use Rattle.volume_model.specs.Volumes.{Fixed, head_of, Volume, Volumes}
use Rattle.volume_model.specs.Xattrs.{Xattrs}
use Rattle.volume_model.specs.declared.command.Command.TheVariants as c
use Rattle.volume_model.specs.declared.command.VolumeRef.{VolumeRef}
use Rattle.volume_model.specs.declared.reply.Reply.TheVariants as r
use Rattle.blob_meta.specs.declared.meta.Meta.{Meta}
use Rattle.blob_meta.specs.Parents.{is_locked, parent_of, slot}
use Rattle.blob_meta.specs.Resolving.{IsLawful}
use Rattle.inflate_delete.specs.Clones.{clones_below}
use Rattle.shown_volumes.specs.EmptySlots.{Anything, LeavesEmpty}
use Rattle.shown_volumes.specs.Maps.{Map, Metas}
use Rattle.shown_volumes.specs.Shown.{content, content_by, live_of, shown_by}
use Rattle.shown_volumes.specs.ShowsStep.{IsAtRest}
use Rattle.shown_volumes.proofs.BlobsShown.{shows_blob, volume_at}
use Rattle.shown_volumes.proofs.DeletedVolumes as deleted
use Rattle.shown_volumes.proofs.DeleteLawful as law
use Rattle.shown_volumes.proofs.DeleteParts as parts
use Rattle.shown_volumes.proofs.Fitting.{Contents, Fits, in_filled, opened, pages_fit, same_level, same_still}
use Rattle.shown_volumes.proofs.HeirMaps.{slot_below, slot_over}
use Rattle.shown_volumes.proofs.Parts.{none_shown, some_shown}
use Rattle.shown_volumes.proofs.Ranks.{Levels, levels}
use Rattle.shown_volumes.proofs.SlotSums.{slots_in}
use Rattle.shown_volumes.proofs.TakenOver.{IsLongBetween, through}

module _ (f : Fixed) (base : Metas) (rest : IsAtRest f base) (of clone : ℕ) (old heir : Meta)
    (there : base of ≡ Some old) (there_too : base clone ≡ Some heir)
    (one : clones_below f.md_len base of ≡ clone ∷ []) (unlocked : is_locked old.flags ≡ false)
    (between : IsLongBetween base old heir) where
  abbrev taking : Meta
  taking = parts.taking f base rest of clone old heir there there_too one unlocked

  abbrev next : Metas
  next = parts.next f base rest of clone old heir there there_too one unlocked

  not_self : (p : ℕ) → parent_of old ≡ Some p → p ≢ of
  not_self = parts.not_self f base rest of clone old heir there there_too one unlocked

  only : (h : ℕ) (m : Meta) → base h ≡ Some m → parent_of m ≡ Some of → h ≡ clone
  only = parts.only f base rest of clone old heir there there_too one unlocked

  apart : clone ≢ of
  apart = parts.apart f base rest of clone old heir there there_too one unlocked

  child : parent_of heir ≡ Some of
  child = parts.child f base rest of clone old heir there there_too one unlocked

  parent_taking : parent_of taking ≡ parent_of old
  parent_taking = parts.parent_taking f base rest of clone old heir there there_too one unlocked

  is_gone : next of ≡ None
  is_gone = law.is_gone f base rest of clone old heir there there_too one unlocked

  is_taking : next clone ≡ Some taking
  is_taking = law.is_taking f base rest of clone old heir there there_too one unlocked

  is_other : (h : ℕ) → h ≢ of → h ≢ clone → next h ≡ base h
  is_other = law.is_other f base rest of clone old heir there there_too one unlocked

  long_taking : length taking.map ≡ length heir.map
  long_taking = law.long_taking f base rest of clone old heir there there_too one unlocked

  low : (h : ℕ) (m : Meta) → base h ≡ Some m → h < f.md_len
  low h m is = rest.heads_below h (rw is refl)

  low_next : (h : ℕ) (m : Meta) → next h ≡ Some m → h < f.md_len
  low_next h m = law.each f base rest of clone old heir there there_too one unlocked m (λ q. q < f.md_len) h
      (λ _. low clone heir there_too) (λ _ _ is. low h m is)

  pub lawful : IsLawful f.md_len next
  lawful = law.lawful_next f base rest of clone old heir there there_too one unlocked

  old_levels : Levels f.md_len base
  old_levels = levels f.md_len base rest.lawful low

  new_levels : Levels f.md_len next
  new_levels = levels f.md_len next lawful low_next

  long : (p : ℕ) → p ≢ of → slots_in (next p) ≡ slots_in (base p)
  long p ne = elim (cases_eq p clone) [
    | inl e ↦ ap slots_in (ap next e ∙ is_taking) ∙ long_taking ∙ sym (ap slots_in (ap base e ∙ there_too))
    | inr other ↦ ap slots_in (is_other p ne other)
  ]

  module _ (image : Image) where
    abbrev k : ℕ
    k = f.cluster_pages

    abbrev was : Contents
    was = content k image base (suc f.md_len)

    at_clone : (page : ℕ) → page < k * length heir.map → content_by k image next was page taking ≡ was clone page
    at_clone page lt = at (slot heir (page / k)) refl
        ∙ sym (opened k image f.md_len base old_levels clone page heir there_too)
      where
        slots : slot taking (page / k) ≡ option_or (slot heir (page / k)) (slot old (page / k))
        slots = slot_over heir old (page / k) (slot_below k (length heir.map) page rest.some_pages lt)

        at : (o : Option ℕ) → slot heir (page / k) ≡ o
            → content_by k image next was page taking ≡ content_by k image base was page heir
        at (Some cluster) is = in_filled k image page next was taking cluster
            (slots ∙ ap (λ o. option_or o (slot old (page / k))) is) heir base was is
        at None is = through f base rest old_levels of old heir taking there child between parent_taking next
            (λ p up. long p (not_self p up)) image page lt is (slots ∙ ap (λ o. option_or o (slot old (page / k))) is)

    fits : Fits k image f.md_len next new_levels was
    fits h page m is lt = law.each f base rest of clone old heir there there_too one unlocked m
        (λ q. content_by k image next was page m ≡ was q page) h
        (λ same.
        let less : page < k * length heir.map =
        subst (λ n. page < k * n) (ap (λ (n : Meta). length n.map) (sym same) ∙ long_taking) lt in
        subst (λ (n : Meta). content_by k image next was page n ≡ was clone page) same (at_clone page less))
        (λ ne other here.
        same_level k image page base next was was m m refl refl
        (λ p up. long p (λ e. other (only h m here (up ∙ ap (λ n. Some n) e)))) (λ _ _ _. refl)
        ∙ sym (opened k image f.md_len base old_levels h page m here)) is

    pages : (h : ℕ) (m : Meta) (n : ℕ) → next h ≡ Some m → length m.map ≡ n
        → map (content k image next (suc f.md_len) h) (range_with_len 0 (k * length m.map))
        ≡ map (was h) (range_with_len 0 (k * n))
    pages h m n is count =
        pages_fit k image f.md_len next new_levels was fits h m n (was h) is count (λ page _. refl)

    module _ (live : Map Xattrs) (volume : VolumeRef) (found : head_of f (shown_by f image base live) volume ≡ Some of)
      where
        abbrev v : Volumes
        v = shown_by f image base live

        abbrev x : Volume
        x = volume_at f base rest live image of old

        is_x : v of ≡ Some x
        is_x = shows_blob f base rest live image of old there

        abbrev w : Volumes
        w = change f v (c.Delete volume) r.Ok

        abbrev parented : Volume → Volume
        parented y = record y { parent = deleted.moved f v volume of x found is_x y.parent }

        -- the step's volume of a blob that was there
        stepped : (h : ℕ) (m : Meta) → h ≢ of → base h ≡ Some m
            → w h ≡ Some (parented (volume_at f base rest live image h m))
        stepped h m ne is = deleted.deleted_else f v volume of x found is_x h ne
            ∙ ap (option_map parented) (shows_blob f base rest live image h m is)

        at_heir : shown_by f image next (live_of w) clone ≡ w clone
        at_heir =
            let y = volume_at f base rest live image clone heir in
            let same = pages clone taking (length heir.map) is_taking long_taking in
            let parent = parent_taking ∙ sym (deleted.handed_on f v volume of x found is_x)
            ∙ ap (deleted.moved f v volume of x found is_x) (sym child) in
            some_shown f image next w clone taking (parented y) is_taking (stepped clone heir apart there_too)
            (λ i. record y { pages = same i; parent = parent i })

        at_other : (h : ℕ) → h ≢ of → h ≢ clone → (o : Option Meta) → base h ≡ o
            → shown_by f image next (live_of w) h ≡ w h
        at_other h ne other None is = none_shown f image next w h (is_other h ne other ∙ is)
            (deleted.deleted_else f v volume of x found is_x h ne
            ∙ ap (λ o. option_map parented (option_map (λ m. volume_at f base rest live image h m) o)) is)
        at_other h ne other (Some m) is =
            let y = volume_at f base rest live image h m in
            let same = pages h m (length m.map) (is_other h ne other ∙ is) refl in
            let parent = sym (deleted.stays f v volume of x found is_x (parent_of m) (λ e. other (only h m is e))) in
            some_shown f image next w h m (parented y) (is_other h ne other ∙ is) (stepped h m ne is)
            (λ i. record y { pages = same i; parent = parent i })

        pub shown_next : shown_by f image next (live_of w) ≡ w
        shown_next = fun_ext (λ h. elim (cases_eq h of) [
          | inl e ↦ none_shown f image next w h (ap next e ∙ is_gone)
              (ap w e ∙ deleted.deleted_here f v volume of x found is_x)
          | inr ne ↦ elim (cases_eq h clone) [
            | inl e ↦ subst (λ n. shown_by f image next (live_of w) n ≡ w n) (sym e) at_heir
            | inr other ↦ at_other h ne other (base h) refl
          ]
        ])

  -- a blob that isn't the clone shows what it showed where it has empty slots
  pub leaves : (h : ℕ) → h ≢ of → h ≢ clone → LeavesEmpty f base next Anything h
  leaves h ne other page m is empty =
      let was_there : base h ≡ Some m = sym (is_other h ne other) ∙ is in
      record {
        old = m;
        there = was_there;
        empty = empty;
        same = λ image _. same_still f.cluster_pages image f.md_len base next old_levels new_levels (was image)
            (fits image) h page m was_there is
            (λ p up. long p (λ e. other (only h m was_there (up ∙ ap (λ n. Some n) e)))) (λ _ _. refl);
      }
