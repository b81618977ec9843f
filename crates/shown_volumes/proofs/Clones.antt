-- A clone's job shows the volumes as they were, and from its commit on those of the step.
use Rattle.std.proofs.Common.{◌≡◌, ◌≢◌, ℕ, zero, suc, ◌+◌, ◌*◌, ◌/◌, ◌^◌, ◌<◌, ◌≤◌, true, false, Option, Some, None}
use Rattle.std.proofs.Common.{length}
use Rattle.std.proofs.Common.{[], map, refl, sym, ap, ◌∙◌, subst, inl, inr, arith}
use Rattle.std.specs.Prelude.{◌==◌, if◌then◌else◌, nat_lt}
use Rattle.std.specs.List.{range_with_len}
use Rattle.std.specs.Option.{option_map, option_map_or}
use Rattle.std.proofs.lemmas.Bool.{cases_eq, eq-eqb, ne_eqb}
use Rattle.std.proofs.lemmas.Bool.Decides.{nat_tests}
use Rattle.std.proofs.Math.Path.{fun_ext}
use Rattle.page_disk.specs.Disk.{Image}
use Rattle.volume_model.specs.Steps.{change, new_volume}
use Rattle.volume_model.specs.Volumes.{Fixed, head_of, two_xattrs, Volume, Volumes, zero_page}
use Rattle.volume_model.specs.Xattrs.{Text, Xattrs}
use Rattle.volume_model.specs.declared.command.Command.TheVariants as c
use Rattle.volume_model.specs.declared.command.VolumeRef.{VolumeRef}
use Rattle.volume_model.specs.declared.reply.Reply.TheVariants as r
use Rattle.volume_model.proofs.Blank.{same_named}
use Rattle.blob_meta.specs.declared.meta.Meta.{Meta}
use Rattle.blob_meta.specs.Parents.{is_read_only, parent_of}
use Rattle.blob_meta.specs.Repairs.{HasNoMarks}
use Rattle.blob_meta.specs.Resolving.{IsLawful, mark_of, slots_together}
use Rattle.snapshots.specs.SnapshotJobs.{clone_job, new_clone}
use Rattle.shown_volumes.specs.EmptySlots.{Anything, LeavesEmpty}
use Rattle.shown_volumes.specs.JobLaws.{IsClear, ShowsClone}
use Rattle.shown_volumes.specs.Maps.{Map, Metas}
use Rattle.shown_volumes.specs.Shown.{content, content_by, live_of, shown_by}
use Rattle.shown_volumes.specs.ShowsStep.{IsAskedOf, IsAtRest, part_of, ShowsStep}
use Rattle.shown_volumes.proofs.Blanked.{blank_shown, two_same}
use Rattle.shown_volumes.proofs.BlobsShown.{shows_blob, slots_fit, volume_at}
use Rattle.shown_volumes.proofs.CloneLawful as law
use Rattle.shown_volumes.proofs.EmptyMaps.{empty_slot}
use Rattle.shown_volumes.proofs.Fitting.{Contents, Fits, from_parent, in_empty, opened, pages_fit, same_level}
use Rattle.shown_volumes.proofs.Fitting.{same_still}
use Rattle.shown_volumes.proofs.Parts.{none_shown, not_first, rest_resolved, shows_step, some_shown}
use Rattle.shown_volumes.proofs.Passing.{clone_read_only, clone_room}
use Rattle.shown_volumes.proofs.Ranks.{Levels, levels}
use Rattle.shown_volumes.proofs.SlotSums.{slots_in}
use Rattle.shown_volumes.proofs.Valued.{mark_named}
use Rattle.shown_volumes.proofs.WithEntry.{given_cases, given_elsewhere, given_here}

-- ---- the step's volumes

module _ (f : Fixed) (v : Volumes) (volume : VolumeRef) (name : Text) (of head : ℕ) (x : Volume)
    (found : head_of f v volume ≡ Some of) (is : v of ≡ Some x) where
  abbrev stepped : Volumes
  stepped = change f v (c.Clone volume name) (r.Made head)

  -- one more, as a copy
  pub stepped_head : stepped head ≡ Some (new_volume f v name None x.pages true false (Some of))
  stepped_head = rw (found, eq-eqb head head refl, is) refl

  -- and the others as they were
  pub stepped_else : (h : ℕ) → h ≢ head → stepped h ≡ v h
  stepped_else h ne = rw (ne_eqb h head ne) refl

module _ (f : Fixed) (base : Metas) (rest : IsAtRest f base) (of head : ℕ) (old : Meta) (xattrs : Xattrs)
    (there : base of ≡ Some old) (clear : IsClear f base head) (on : is_read_only old.flags ≡ true)
    (room : slots_together f.md_len base + length old.map ≤ 2 ^ 24) where
  abbrev new : Meta
  new = law.new f base rest of head old xattrs there clear

  abbrev next : Metas
  next = law.next f base rest of head old xattrs there clear

  is_new : next head ≡ Some new
  is_new = given_here base head new head refl

  is_other : (h : ℕ) → h ≢ head → next h ≡ base h
  is_other = given_elsewhere base head new

  apart : of ≢ head
  apart = law.apart f base rest of head old xattrs there clear

  not_new : (h p : ℕ) (m : Meta) → base h ≡ Some m → parent_of m ≡ Some p → p ≢ head
  not_new = law.not_new f base rest of head old xattrs there clear

  parent_new : parent_of new ≡ Some of
  parent_new = law.parent_new f base rest of head old xattrs there clear

  long_new : length new.map ≡ length old.map
  long_new = law.long_new f base rest of head old xattrs there clear

  low : (h : ℕ) (m : Meta) → base h ≡ Some m → h < f.md_len
  low h m is = rest.heads_below h (rw is refl)

  low_next : (h : ℕ) (m : Meta) → next h ≡ Some m → h < f.md_len
  low_next h m = given_cases base head new (λ q o. o ≡ Some m → q < f.md_len) h (λ _. clear.low) (λ _ is. low h m is)

  lawful : IsLawful f.md_len next
  lawful = law.lawful f base rest of head old xattrs there clear on room

  old_levels : Levels f.md_len base
  old_levels = levels f.md_len base rest.lawful low

  new_levels : Levels f.md_len next
  new_levels = levels f.md_len next lawful low_next

  module _ (image : Image) where
    abbrev k : ℕ
    k = f.cluster_pages

    abbrev was : Contents
    was = content k image base (suc f.md_len)

    -- the clone's pages are its parent's
    abbrev both : Contents
    both h page = if h == head then was of page else was h page

    both_head : (h page : ℕ) → h ≡ head → both h page ≡ was of page
    both_head h page e = rw (eq-eqb h head e) refl

    both_else : (h page : ℕ) → h ≢ head → both h page ≡ was h page
    both_else h page ne = rw (ne_eqb h head ne) refl

    at_new : (page : ℕ) → page < k * length old.map → content_by k image next both page new ≡ both head page
    at_new page lt =
        let below : nat_lt page (k * length old.map) ≡ true = grind (arith, nat_tests, lt) in
        in_empty k image page next both new (empty_slot (length old.map) (page / k))
        ∙ ap (from_parent k image page next both) parent_new
        ∙ ap (λ o. option_map_or (λ (m : Meta). if nat_lt page (k * length m.map) then both of page else zero_page) o
        zero_page) (is_other of apart ∙ there)
        ∙ ap (λ b. if b then both of page else zero_page) below
        ∙ both_else of page apart ∙ sym (both_head head page refl)

    fits : Fits k image f.md_len next new_levels both
    fits h page m = given_cases base head new
        (λ q o. o ≡ Some m → page < k * length m.map → content_by k image next both page m ≡ both q page) h
        (λ is lt. let one : new ≡ m = cc is in
        let less : page < k * length old.map =
        subst (λ n. page < k * n) (ap (λ (n : Meta). length n.map) (sym one) ∙ long_new) lt in
        subst (λ (n : Meta). content_by k image next both page n ≡ both head page) one (at_new page less))
        (λ ne is lt.
        same_level k image page base next was both m m refl refl
        (λ p up. ap slots_in (is_other p (not_new h p m is up))) (λ p up _. both_else p page (not_new h p m is up))
        ∙ sym (opened k image f.md_len base old_levels h page m is) ∙ sym (both_else h page ne))

    pages : (h : ℕ) (m : Meta) (n g : ℕ) → next h ≡ Some m → length m.map ≡ n
        → ((page : ℕ) → page < k * n → both h page ≡ was g page)
        → map (content k image next (suc f.md_len) h) (range_with_len 0 (k * length m.map))
        ≡ map (was g) (range_with_len 0 (k * n))
    pages h m n g is count same = pages_fit k image f.md_len next new_levels both fits h m n (was g) is count same

    module _ (live : Map Xattrs) (volume : VolumeRef) (name : Text)
        (found : head_of f (shown_by f image base live) volume ≡ Some of)
        (two : two_xattrs f (shown_by f image base live) name None ≡ xattrs) where
      abbrev v : Volumes
      v = shown_by f image base live

      abbrev x : Volume
      x = volume_at f base rest live image of old

      abbrev w : Volumes
      w = change f v (c.Clone volume name) (r.Made head)

      at_head : shown_by f image next (live_of w) head ≡ w head
      at_head =
          let same = pages head new (length old.map) of is_new long_new (λ page _. both_head head page refl) in
          some_shown f image next w head new (new_volume f v name None x.pages true false (Some of)) is_new
          (stepped_head f v volume name of head x found (shows_blob f base rest live image of old there))
          (λ i. record {
            pages = same i;
            live = two_xattrs f v name None;
            synced = sym two i;
            thin = true;
            read_only = false;
            locked = false;
            parent = parent_new i;
          })

      at_other : (h : ℕ) → h ≢ head → (o : Option Meta) → base h ≡ o → shown_by f image next (live_of w) h ≡ w h
      at_other h ne None none =
          none_shown f image next w h (is_other h ne ∙ none)
          (stepped_else f v volume name of head x found (shows_blob f base rest live image of old there) h ne
          ∙ ap (λ o. option_map (λ m. volume_at f base rest live image h m) o) none)
      at_other h ne (Some m) is =
          let same = pages h m (length m.map) h (is_other h ne ∙ is) refl (λ page _. both_else h page ne) in
          let y = volume_at f base rest live image h m in
          some_shown f image next w h m y (is_other h ne ∙ is)
          (stepped_else f v volume name of head x found (shows_blob f base rest live image of old there) h ne
          ∙ shows_blob f base rest live image h m is)
          (λ i. record y { pages = same i })

      shown_next : shown_by f image next (live_of w) ≡ w
      shown_next = fun_ext (λ h. elim (cases_eq h head) [
        | inl e ↦ subst (λ n. shown_by f image next (live_of w) n ≡ w n) (sym e) at_head
        | inr ne ↦ at_other h ne (base h) refl
      ])

  -- a blob that isn't the clone shows what it showed where it has empty slots
  leaves : (h : ℕ) → h ≢ head → LeavesEmpty f base next Anything h
  leaves h ne page m is empty =
      let was_there : base h ≡ Some m = sym (is_other h ne) ∙ is in
      record {
        old = m;
        there = was_there;
        empty = empty;
        same = λ image _. same_still f.cluster_pages image f.md_len base next old_levels new_levels (both image)
            (fits image) h page m was_there is (λ p up. ap slots_in (is_other p (not_new h p m was_there up)))
            (λ p up. both_else image p page (not_new h p m was_there up));
      }

module _ (f : Fixed) (base : Metas) (live : Map Xattrs) (image : Image) (volume : VolumeRef) (name : Text)
    (of head : ℕ) (old : Meta) (rest : IsAtRest f base) (clear : IsClear f base head)
    (asked : IsAskedOf f (shown_by f image base live) base (c.Clone volume name) of old) where
  abbrev two : Xattrs
  two = two_xattrs f (shown_by f image base live) name None

  abbrev y : Volume
  y = volume_at f base rest live image of old

  on : is_read_only old.flags ≡ true
  on = clone_read_only f (shown_by f image base live) volume name of y asked.found
      (shows_blob f base rest live image of old asked.there) asked.passed

  room : slots_together f.md_len base + length old.map ≤ 2 ^ 24
  room = slots_fit f base rest live image volume name of old asked.found asked.there
      (clone_room f (shown_by f image base live) volume name of y asked.found
      (shows_blob f base rest live image of old asked.there) asked.passed)

  few : (count : ℕ) → count ≤ 1
      → slots_together f.md_len (part_of (clone_job of old head two) base count) ≤ 2 ^ 24
  few zero le = rest.lawful.few
  few (suc zero) le = (lawful f base rest of head old two asked.there clear on room).few
  few (suc (suc count)) le = absurd (omega (arith, le))

  unmarked : HasNoMarks (part_of (clone_job of old head two) base 1)
  unmarked h m = given_cases base head (new_clone of old head two) (λ q o. o ≡ Some m → mark_of m ≡ None) h
      (λ is. let one : new_clone of old head two ≡ m = cc is in
      subst (λ (n : Meta). mark_of n ≡ None) one (mark_named [] of)) (λ _ is. rest.unmarked h m is)

  step : ShowsStep f base live (c.Clone volume name) (r.Made head) (clone_job of old head two)
  step = shows_step f base live (c.Clone volume name) (r.Made head) (clone_job of old head two)
      (law.next f base rest of head old two asked.there clear) rest
      (law.early f base rest of head old two asked.there clear)
      (law.late f base rest of head old two asked.there clear)
      (lawful f base rest of head old two asked.there clear on room) few unmarked
      (λ other. shown_next f base rest of head old two asked.there clear on room other live volume name
      (same_named f (shown_by f other base live) (shown_by f image base live) (blank_shown f base live other image)
      (c.Clone volume name) ∙ asked.found)
      (two_same f (shown_by f other base live) (shown_by f image base live) (blank_shown f base live other image) name
      None))
      (λ h out. leaves f base rest of head old two asked.there clear on room h (not_first h head _ out).0)

-- the law
pub clone_shows : (f : Fixed) (base : Metas) (live : Map Xattrs) (image : Image) (volume : VolumeRef) (name : Text)
    (of head : ℕ) (old : Meta) (xattrs : Xattrs) → ShowsClone f base live image volume name of head old xattrs
clone_shows f base live image volume name of head old xattrs rest clear =
    subst (λ (m : Metas). IsAskedOf f (shown_by f image m live) base (c.Clone volume name) of old
    → two_xattrs f (shown_by f image m live) name None ≡ xattrs
    → ShowsStep f base live (c.Clone volume name) (r.Made head) (clone_job of old head xattrs))
    (sym (rest_resolved f base rest))
    (λ asked are. subst (λ (xs : Xattrs). ShowsStep f base live (c.Clone volume name) (r.Made head)
    (clone_job of old head xs)) are (step f base live image volume name of head old rest clear asked))
