-- What is shown where one blob got another parent, and shows at each page what it showed: the volumes as they were, but
-- for its parent, and that it may be thick.
use Rattle.std.proofs.Common.{◌≡◌, ◌≢◌, ℕ, suc, ◌*◌, ◌<◌, Option, Some, None, length, map, refl, sym, ap, ◌∙◌, subst}
use Rattle.std.proofs.Common.{inl, inr}
use Rattle.std.specs.List.{range_with_len}
use Rattle.std.specs.Option.{option_map}
use Rattle.std.proofs.lemmas.Bool.{cases_eq}
use Rattle.std.proofs.Math.Path.{fun_ext}
use Rattle.page_disk.specs.Disk.{Image}
use Rattle.volume_model.specs.Steps.{change}
use Rattle.volume_model.specs.Volumes.{Fixed, Volume, Volumes}
use Rattle.volume_model.specs.Xattrs.{Xattrs}
use Rattle.volume_model.specs.declared.command.Command.{Command}
use Rattle.volume_model.specs.declared.reply.Reply.{Reply}
use Rattle.blob_meta.specs.declared.meta.Meta.{Meta}
use Rattle.blob_meta.specs.Faults.{is_thin}
use Rattle.blob_meta.specs.Parents.{parent_of}
use Rattle.shown_volumes.specs.EmptySlots.{Anything, LeavesEmpty}
use Rattle.shown_volumes.specs.Maps.{Map, Metas, with_entry}
use Rattle.shown_volumes.specs.Shown.{content, content_by, live_of, shown_by}
use Rattle.shown_volumes.specs.ShowsStep.{IsAtRest, ShowsStep}
use Rattle.shown_volumes.proofs.BlobsShown.{volume_at}
use Rattle.shown_volumes.proofs.Fitting.{Contents, Fits, opened, pages_fit, same_level, same_still}
use Rattle.shown_volumes.proofs.Parts.{none_shown, not_first, shows_step, some_shown}
use Rattle.shown_volumes.proofs.Ranks.{Levels, levels}
use Rattle.shown_volumes.proofs.Reparented as law
use Rattle.shown_volumes.proofs.Reparented.{altered, IsRaised}
use Rattle.shown_volumes.proofs.SlotSums.{slots_in}
use Rattle.shown_volumes.proofs.WithEntry.{given_cases, given_elsewhere, given_here}

-- The blob with the new parent shows at a page what it showed.
abbrev pub Keeps : Fixed → Metas → ℕ → Meta → Meta → Image → ℕ → Type 0
Keeps f base of old new image page = page < f.cluster_pages * length old.map
    → content_by f.cluster_pages image (with_entry base of new) (content f.cluster_pages image base (suc f.md_len)) page
    new
    ≡ content_by f.cluster_pages image base (content f.cluster_pages image base (suc f.md_len)) page old

module _ (f : Fixed) (base : Metas) (rest : IsAtRest f base) (of : ℕ) (old : Meta) (invalid : ℕ) (internal : Xattrs)
    (there : base of ≡ Some old) (raised : IsRaised f base rest of internal)
    (keeps : (image : Image) (page : ℕ) → Keeps f base of old (altered old invalid internal) image page) where
  abbrev new : Meta
  new = law.new f base rest of old invalid internal there raised

  abbrev next : Metas
  next = law.next f base rest of old invalid internal there raised

  long : (p : ℕ) → slots_in (next p) ≡ slots_in (base p)
  long = law.long f base rest of old invalid internal there raised

  is_new : next of ≡ Some new
  is_new = given_here base of new of refl

  is_other : (h : ℕ) → h ≢ of → next h ≡ base h
  is_other = given_elsewhere base of new

  low : (h : ℕ) (m : Meta) → base h ≡ Some m → h < f.md_len
  low h m is = rest.heads_below h (rw is refl)

  low_next : (h : ℕ) (m : Meta) → next h ≡ Some m → h < f.md_len
  low_next h m = given_cases base of new (λ q o. o ≡ Some m → q < f.md_len) h (λ _. low of old there)
      (λ _ is. low h m is)

  old_levels : Levels f.md_len base
  old_levels = levels f.md_len base rest.lawful low

  new_levels : Levels f.md_len next
  new_levels = levels f.md_len next (law.lawful f base rest of old invalid internal there raised) low_next

  module _ (image : Image) where
    abbrev k : ℕ
    k = f.cluster_pages

    abbrev was : Contents
    was = content k image base (suc f.md_len)

    fits : Fits k image f.md_len next new_levels was
    fits h page m = given_cases base of new
        (λ q o. o ≡ Some m → page < k * length m.map → content_by k image next was page m ≡ was q page) h
        (λ is lt. let one : new ≡ m = cc is in
        let less : page < k * length old.map =
        subst (λ n. page < k * n) (ap (λ (n : Meta). length n.map) (sym one)) lt in
        subst (λ (n : Meta). content_by k image next was page n ≡ was of page) one (keeps image page less
        ∙ sym (opened k image f.md_len base old_levels of page old there)))
        (λ ne is lt.
        same_level k image page base next was was m m refl refl (λ p up. long p) (λ _ _ _. refl)
        ∙ sym (opened k image f.md_len base old_levels h page m is))

    pages : (h : ℕ) (m : Meta) (n : ℕ) → next h ≡ Some m → length m.map ≡ n
        → map (content k image next (suc f.md_len) h) (range_with_len 0 (k * length m.map))
        ≡ map (was h) (range_with_len 0 (k * n))
    pages h m n is count =
        pages_fit k image f.md_len next new_levels was fits h m n (was h) is count (λ page _. refl)

    module _ (live : Map Xattrs) (w : Volumes) where
      abbrev v : Volumes
      v = shown_by f image base live

      abbrev x : Volume
      x = volume_at f base rest live image of old

      -- the volume with its new parent
      abbrev y : Volume
      y = record x { thin = is_thin new.flags; parent = parent_of new }

      at_other : (h : ℕ) → h ≢ of → w h ≡ v h → (o : Option Meta) → base h ≡ o
          → shown_by f image next (live_of w) h ≡ w h
      at_other h ne same None none =
          none_shown f image next w h (is_other h ne ∙ none)
          (same ∙ ap (λ o. option_map (λ m. volume_at f base rest live image h m) o) none)
      at_other h ne same (Some m) is =
          let same_pages = pages h m (length m.map) (is_other h ne ∙ is) refl in
          let z = volume_at f base rest live image h m in
          some_shown f image next w h m z (is_other h ne ∙ is)
          (same ∙ ap (λ o. option_map (λ m. volume_at f base rest live image h m) o) is)
          (λ i. record z { pages = same_pages i })

      shown_next : w of ≡ Some y → ((h : ℕ) → h ≢ of → w h ≡ v h) → shown_by f image next (live_of w) ≡ w
      shown_next stepped others = fun_ext (λ h. elim (cases_eq h of) [
        | inl e ↦
            let same_pages = pages of new (length old.map) is_new refl in
            subst (λ n. shown_by f image next (live_of w) n ≡ w n) (sym e)
            (some_shown f image next w of new y is_new stepped (λ i. record y { pages = same_pages i }))
        | inr ne ↦ at_other h ne (others h ne) (base h) refl
      ])

  -- every other blob shows what it showed where it has empty slots
  leaves : (h : ℕ) → h ≢ of → LeavesEmpty f base next Anything h
  leaves h ne page m is empty =
      let was_there : base h ≡ Some m = sym (is_other h ne) ∙ is in
      record {
        old = m;
        there = was_there;
        empty = empty;
        same = λ image _. same_still f.cluster_pages image f.md_len base next old_levels new_levels (was image)
            (fits image) h page m was_there is (λ p up. long p) (λ _ _. refl);
      }

  -- a command's step that changes the volume so shows the replacement
  pub step : (live : Map Xattrs) (command : Command) (reply : Reply)
      → ((image : Image) → change f (shown_by f image base live) command reply of
      ≡ Some (record (volume_at f base rest live image of old) { thin = is_thin new.flags; parent = parent_of new }))
      → ((image : Image) (h : ℕ) → h ≢ of
      → change f (shown_by f image base live) command reply h ≡ shown_by f image base live h)
      → ShowsStep f base live command reply (law.job f base rest of old invalid internal there raised)
  step live command reply stepped others = shows_step f base live command reply
      (law.job f base rest of old invalid internal there raised) next rest
      (law.early f base rest of old invalid internal there raised)
      (law.late f base rest of old invalid internal there raised)
      (law.lawful f base rest of old invalid internal there raised)
      (law.few f base rest of old invalid internal there raised)
      (law.unmarked f base rest of old invalid internal there raised)
      (λ image. shown_next image live (change f (shown_by f image base live) command reply) (stepped image)
      (others image))
      (λ h out. leaves h (not_first h of _ out).0)
