-- What is shown with a snapshot that is made: the volumes of the step.
use Rattle.std.proofs.Common.{◌≡◌, ◌≢◌, ℕ, suc, ◌+◌, ◌*◌, ◌/◌, ◌%◌, ◌^◌, ◌<◌, ◌≤◌, Bool, true, false, not, Option, Some}
use Rattle.std.proofs.Common.{None, length, map, refl, sym, ap, ◌∙◌, subst, inl, inr, arith}
use Rattle.std.specs.Prelude.{◌==◌, if◌then◌else◌, nat_lt}
use Rattle.std.specs.List.{range_with_len}
use Rattle.std.specs.Option.{option_map, option_map_or}
use Rattle.std.proofs.lemmas.Bool.{cases_eq, eq-eqb, ne_eqb}
use Rattle.std.proofs.lemmas.Bool.Decides.{nat_tests}
use Rattle.std.proofs.Math.Path.{fun_ext}
use Rattle.page_disk.specs.Disk.{Image}
use Rattle.volume_model.specs.Steps.{change, new_volume}
use Rattle.volume_model.specs.Volumes.{Fixed, head_of, two_xattrs, Volume, Volumes, zero_page}
use Rattle.volume_model.specs.Xattrs.{Text, Xattrs}
use Rattle.volume_model.specs.declared.command.Command.TheVariants as c
use Rattle.volume_model.specs.declared.command.VolumeRef.{VolumeRef}
use Rattle.volume_model.specs.declared.reply.Reply.TheVariants as r
use Rattle.blob_meta.specs.declared.meta.Meta.{Meta}
use Rattle.blob_meta.specs.Faults.{is_thin}
use Rattle.blob_meta.specs.Parents.{parent_of, slot}
use Rattle.blob_meta.specs.Resolving.{IsLawful, slots_together}
use Rattle.shown_volumes.specs.EmptySlots.{Anything, LeavesEmpty}
use Rattle.shown_volumes.specs.JobLaws.{IsClear}
use Rattle.shown_volumes.specs.Maps.{Map, Metas}
use Rattle.shown_volumes.specs.Shown.{content, content_by, live_of, or_empty, shown_by, volume_of}
use Rattle.shown_volumes.specs.ShowsStep.{IsAtRest}
use Rattle.shown_volumes.proofs.EmptyMaps.{empty_slot}
use Rattle.shown_volumes.proofs.Fitting.{Contents, Fits, from_parent, in_empty, opened, pages_fit, same_level}
use Rattle.shown_volumes.proofs.Fitting.{same_still}
use Rattle.shown_volumes.proofs.Parts.{none_shown, some_shown}
use Rattle.shown_volumes.proofs.Ranks.{Levels, levels}
use Rattle.shown_volumes.proofs.SlotSums.{slots_in}
use Rattle.shown_volumes.proofs.SnapshotLawful as law
use Rattle.shown_volumes.proofs.SnapshotParts as parts

-- ---- the step's volumes

module _ (f : Fixed) (v : Volumes) (volume : VolumeRef) (name : Text) (of head : ℕ) (x : Volume)
    (found : head_of f v volume ≡ Some of) (is : v of ≡ Some x) where
  abbrev pub stepped : Volumes
  stepped = change f v (c.Snapshot volume name) (r.Made head)

  pub stepped_head : stepped head ≡ Some (new_volume f v name None x.pages x.thin true x.parent)
  stepped_head = rw (found, eq-eqb head head refl, is) refl

  pub stepped_of : of ≢ head → stepped of ≡ Some (record x { thin = true; parent = Some head })
  stepped_of ne = rw (found, ne_eqb of head ne, eq-eqb of of refl, is) refl

  pub stepped_else : (h : ℕ) → h ≢ head → h ≢ of → stepped h ≡ v h
  stepped_else h ne other = rw (found, ne_eqb h head ne, ne_eqb h of other) refl

-- ---- flags

pub thin_given : (b : Bool) → ((if not b then 0 else 1) % 2 == 1) ≡ b
thin_given true = refl
thin_given false = refl

pub thin_set : (n : ℕ) → ((n / 2 * 2 + 1) % 2 == 1) ≡ true
thin_set n = let odd : (n / 2 * 2 + 1) % 2 ≡ 1 = omega arith in eq-eqb ((n / 2 * 2 + 1) % 2) 1 odd

module _ (f : Fixed) (base : Metas) (rest : IsAtRest f base) (of head : ℕ) (old : Meta) (xattrs : Xattrs)
    (there : base of ≡ Some old) (clear : IsClear f base head)
    (room : slots_together f.md_len base + length old.map ≤ 2 ^ 24) where
  abbrev made : Meta
  made = parts.made f base rest of head old xattrs there clear

  abbrev emptied : Meta
  emptied = parts.emptied f base rest of head old xattrs there clear

  abbrev next : Metas
  next = parts.next f base rest of head old xattrs there clear

  is_made : next head ≡ Some made
  is_made = law.is_made f base rest of head old xattrs there clear

  is_emptied : next of ≡ Some emptied
  is_emptied = law.is_emptied f base rest of head old xattrs there clear

  is_other : (h : ℕ) → h ≢ head → h ≢ of → next h ≡ base h
  is_other = law.is_other f base rest of head old xattrs there clear

  apart : of ≢ head
  apart = parts.apart f base rest of head old xattrs there clear

  not_new : (h p : ℕ) (m : Meta) → base h ≡ Some m → parent_of m ≡ Some p → p ≢ head
  not_new = parts.orphan f base rest head clear.none

  parent_emptied : parent_of emptied ≡ Some head
  parent_emptied = parts.parent_emptied f base rest of head old xattrs there clear

  parent_made : parent_of made ≡ parent_of old
  parent_made = parts.parent_made f base rest of head old xattrs there clear

  long_emptied : length emptied.map ≡ length old.map
  long_emptied = law.long_emptied f base rest of head old xattrs there clear

  low : (h : ℕ) (m : Meta) → base h ≡ Some m → h < f.md_len
  low h m is = rest.heads_below h (rw is refl)

  low_next : (h : ℕ) (m : Meta) → next h ≡ Some m → h < f.md_len
  low_next h m = law.each f base rest of head old xattrs there clear (λ q o. o ≡ Some m → q < f.md_len) h
      (λ _. clear.low) (λ _. low of old there) (λ _ _ is. low h m is)

  pub lawful : IsLawful f.md_len next
  lawful = law.lawful_next f base rest of head old xattrs there clear room

  old_levels : Levels f.md_len base
  old_levels = levels f.md_len base rest.lawful low

  new_levels : Levels f.md_len next
  new_levels = levels f.md_len next lawful low_next

  long : (p : ℕ) → p ≢ head → slots_in (next p) ≡ slots_in (base p)
  long p ne = elim (cases_eq p of) [
    | inl e ↦ ap slots_in (ap next e ∙ is_emptied) ∙ long_emptied ∙ sym (ap slots_in (ap base e ∙ there))
    | inr other ↦ ap slots_in (is_other p ne other)
  ]

  module _ (image : Image) where
    abbrev k : ℕ
    k = f.cluster_pages

    abbrev was : Contents
    was = content k image base (suc f.md_len)

    -- the snapshot's pages are the volume's
    abbrev both : Contents
    both h page = if h == head then was of page else was h page

    both_head : (h page : ℕ) → h ≡ head → both h page ≡ was of page
    both_head h page e = rw (eq-eqb h head e) refl

    both_else : (h page : ℕ) → h ≢ head → both h page ≡ was h page
    both_else h page ne = rw (ne_eqb h head ne) refl

    -- a blob with the slots and the parent of one that was there
    level : (h page : ℕ) (m n : Meta) → base h ≡ Some m → slot n (page / k) ≡ slot m (page / k)
        → parent_of n ≡ parent_of m → content_by k image next both page n ≡ was h page
    level h page m n is slots parent =
        same_level k image page base next was both m n slots parent (λ p up. long p (not_new h p m is up))
        (λ p up _. both_else p page (not_new h p m is up)) ∙ sym (opened k image f.md_len base old_levels h page m is)

    at_emptied : (page : ℕ) → page < k * length old.map → content_by k image next both page emptied ≡ both of page
    at_emptied page lt =
        let below : nat_lt page (k * length old.map) ≡ true = grind (arith, nat_tests, lt) in
        in_empty k image page next both emptied (empty_slot (length old.map) (page / k))
        ∙ ap (from_parent k image page next both) parent_emptied
        ∙ ap (λ o. option_map_or (λ (m : Meta). if nat_lt page (k * length m.map) then both head page else zero_page) o
        zero_page) is_made
        ∙ ap (λ b. if b then both head page else zero_page) below
        ∙ both_head head page refl ∙ sym (both_else of page apart)

    fits : Fits k image f.md_len next new_levels both
    fits h page m = law.each f base rest of head old xattrs there clear
        (λ q o. o ≡ Some m → page < k * length m.map → content_by k image next both page m ≡ both q page) h
        (λ is lt. let one : made ≡ m = cc is in
        subst (λ (n : Meta). content_by k image next both page n ≡ both head page) one
        (level of page old made there refl parent_made ∙ sym (both_head head page refl)))
        (λ is lt. let one : emptied ≡ m = cc is in
        let less : page < k * length old.map =
        subst (λ n. page < k * n) (ap (λ (n : Meta). length n.map) (sym one) ∙ long_emptied) lt in
        subst (λ (n : Meta). content_by k image next both page n ≡ both of page) one (at_emptied page less))
        (λ ne other is lt. level h page m m is refl refl ∙ sym (both_else h page ne))

    pages : (h : ℕ) (m : Meta) (n g : ℕ) → next h ≡ Some m → length m.map ≡ n
        → ((page : ℕ) → page < k * n → both h page ≡ was g page)
        → map (content k image next (suc f.md_len) h) (range_with_len 0 (k * length m.map))
        ≡ map (was g) (range_with_len 0 (k * n))
    pages h m n g is count same = pages_fit k image f.md_len next new_levels both fits h m n (was g) is count same

    module _ (live : Map Xattrs) (volume : VolumeRef) (name : Text)
        (found : head_of f (shown_by f image base live) volume ≡ Some of)
        (two : two_xattrs f (shown_by f image base live) name None ≡ xattrs) where
      abbrev v : Volumes
      v = shown_by f image base live

      abbrev x : Volume
      x = volume_of k image base f.md_len (or_empty (live of)) of old

      is_x : v of ≡ Some x
      is_x = ap (λ o. option_map (λ m. volume_of k image base f.md_len (or_empty (live of)) of m) o) there

      abbrev w : Volumes
      w = change f v (c.Snapshot volume name) (r.Made head)

      at_head : shown_by f image next (live_of w) head ≡ w head
      at_head =
          let same = pages head made (length old.map) of is_made refl (λ page _. both_head head page refl) in
          let thin = thin_given (is_thin old.flags) in
          some_shown f image next w head made (new_volume f v name None x.pages x.thin true x.parent) is_made
          (stepped_head f v volume name of head x found is_x)
          (λ i. record {
            pages = same i;
            live = two_xattrs f v name None;
            synced = sym two i;
            thin = thin i;
            read_only = true;
            locked = false;
            parent = parent_made i;
          })

      at_of : shown_by f image next (live_of w) of ≡ w of
      at_of =
          let same = pages of emptied (length old.map) of is_emptied long_emptied (λ page _. both_else of page apart) in
          let thin = thin_set old.flags.invalid in
          some_shown f image next w of emptied (record x { thin = true; parent = Some head }) is_emptied
          (stepped_of f v volume name of head x found is_x apart)
          (λ i. record x { pages = same i; thin = thin i; parent = parent_emptied i })

      at_other : (h : ℕ) → h ≢ head → h ≢ of → (o : Option Meta) → base h ≡ o
          → shown_by f image next (live_of w) h ≡ w h
      at_other h ne other None none =
          none_shown f image next w h (is_other h ne other ∙ none)
          (stepped_else f v volume name of head x found is_x h ne other
          ∙ ap (λ o. option_map (λ m. volume_of k image base f.md_len (or_empty (live h)) h m) o) none)
      at_other h ne other (Some m) is =
          let same = pages h m (length m.map) h (is_other h ne other ∙ is) refl (λ page _. both_else h page ne) in
          let y = volume_of k image base f.md_len (or_empty (live h)) h m in
          some_shown f image next w h m y (is_other h ne other ∙ is)
          (stepped_else f v volume name of head x found is_x h ne other
          ∙ ap (λ o. option_map (λ n. volume_of k image base f.md_len (or_empty (live h)) h n) o) is)
          (λ i. record y { pages = same i })

      pub shown_next : shown_by f image next (live_of w) ≡ w
      shown_next = fun_ext (λ h. elim (cases_eq h head) [
        | inl e ↦ subst (λ n. shown_by f image next (live_of w) n ≡ w n) (sym e) at_head
        | inr ne ↦ elim (cases_eq h of) [
          | inl e ↦ subst (λ n. shown_by f image next (live_of w) n ≡ w n) (sym e) at_of
          | inr other ↦ at_other h ne other (base h) refl
        ]
      ])

  -- a blob that is neither the volume nor the snapshot shows what it showed where it has empty slots
  pub leaves : (h : ℕ) → h ≢ head → h ≢ of → LeavesEmpty f base next Anything h
  leaves h ne other page m is empty =
      let was_there : base h ≡ Some m = sym (is_other h ne other) ∙ is in
      record {
        old = m;
        there = was_there;
        empty = empty;
        same = λ image _. same_still f.cluster_pages image f.md_len base next old_levels new_levels (both image)
            (fits image) h page m was_there is (λ p up. long p (not_new h p m was_there up))
            (λ p up. both_else image p page (not_new h p m was_there up));
      }
