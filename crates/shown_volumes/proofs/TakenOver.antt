-- The empty slots of a blob that takes the parent of its parent: they show what they showed through it.
use Rattle.std.proofs.Common.{◌≡◌, ◌⊎◌, ℕ, suc, ◌*◌, ◌/◌, ◌<◌, ◌≤◌, Bool, true, false, Option, Some, None, length}
use Rattle.std.proofs.Common.{refl, sym, ap, ◌∙◌, inl, inr, arith}
use Rattle.std.specs.Prelude.{◌&&◌, if◌then◌else◌, nat_lt}
use Rattle.std.specs.Option.{option_map_or}
use Rattle.std.proofs.Math.Nat.{mul-le-mul_left}
use Rattle.std.proofs.lemmas.Bool.{cases_lt}
use Rattle.std.proofs.lemmas.Bool.Decides.{nat_tests}
use Rattle.page_disk.specs.Disk.{Image}
use Rattle.volume_model.specs.Refusals.{is_short_between}
use Rattle.volume_model.specs.Volumes.{Fixed, slots_at, slots_of, Volume, Volumes, zero_page}
use Rattle.volume_model.specs.Xattrs.{Xattrs}
use Rattle.blob_meta.specs.declared.meta.Meta.{Meta}
use Rattle.blob_meta.specs.Parents.{parent_of, slot}
use Rattle.shown_volumes.specs.Maps.{Map, Metas}
use Rattle.shown_volumes.specs.Shown.{content, content_by, or_empty, shown_by}
use Rattle.shown_volumes.specs.ShowsStep.{IsAtRest}
use Rattle.shown_volumes.proofs.BlobsShown.{volume_at}
use Rattle.shown_volumes.proofs.Fitting.{Contents, counted, from_parent, in_empty, opened, same_level}
use Rattle.shown_volumes.proofs.HeirMaps.{empty_past, slot_behind}
use Rattle.shown_volumes.proofs.Ranks.{Levels}
use Rattle.shown_volumes.proofs.SlotSums.{slots_at_shown, slots_in, slots_shown}

-- The parent of a blob has no more slots than the blob, or its clone has no more.
abbrev pub IsLongBetween : Metas → Meta → Meta → Type 0
IsLongBetween base old heir = (p : ℕ) (m : Meta) → parent_of old ≡ Some p → base p ≡ Some m
    → (length m.map ≤ length old.map) ⊎ (length heir.map ≤ length old.map)

-- one of two numbers isn't above a third
one_below : (n a b : ℕ) → (nat_lt n a && nat_lt n b) ≡ false → (a ≤ n) ⊎ (b ≤ n)
one_below n a b is = at (nat_lt n a) refl
  where
    at : (t : Bool) → nat_lt n a ≡ t → (a ≤ n) ⊎ (b ≤ n)
    at false low = inl (grind (arith, nat_tests, low))
    at true high =
        let other : nat_lt n b ≡ false = sym (ap (λ t. t && nat_lt n b) high) ∙ is in
        inr (grind (arith, nat_tests, other))

module _ (f : Fixed) (base : Metas) (rest : IsAtRest f base) (live : Map Xattrs) (image : Image) (of : ℕ) (old : Meta)
    (clone : ℕ) (heir : Meta) where
  abbrev v : Volumes
  v = shown_by f image base live

  abbrev x : Volume
  x = volume_at f base rest live image of old

  abbrev y : Volume
  y = volume_at f base rest live image clone heir

  -- so it is where it isn't short in the volumes that are shown
  pub long_between : is_short_between f v x y ≡ false → IsLongBetween base old heir
  long_between long p m parent is =
      let own : slots_of f x ≡ length old.map = slots_shown f image base rest.some_pages (or_empty (live of)) of old in
      let its : slots_of f y ≡ length heir.map =
      slots_shown f image base rest.some_pages (or_empty (live clone)) clone heir in
      let above : slots_at f v p ≡ length m.map =
      slots_at_shown f image base rest.some_pages live p ∙ ap slots_in is in
      let below = one_below (slots_of f x) (slots_at f v p) (slots_of f y)
      (sym (ap (λ o. option_map_or (λ q. nat_lt (slots_of f x) (slots_at f v q)) o false
      && nat_lt (slots_of f x) (slots_of f y)) parent) ∙ long) in
      elim below [
        | inl le ↦ inl (omega (arith, le, own, above))
        | inr le ↦ inr (omega (arith, le, own, its))
      ]

-- with later metadata, in which a blob has the parent of its parent, the parent of that is as long as it was
module _ (f : Fixed) (base : Metas) (rest : IsAtRest f base) (levels : Levels f.md_len base) (of : ℕ)
    (old heir taking : Meta) (there : base of ≡ Some old) (child : parent_of heir ≡ Some of)
    (between : IsLongBetween base old heir) (parent_taking : parent_of taking ≡ parent_of old) (later : Metas)
    (long : (p : ℕ) → parent_of old ≡ Some p → slots_in (later p) ≡ slots_in (base p)) (image : Image) (page : ℕ)
    (lt : page < f.cluster_pages * length heir.map) where
  abbrev k : ℕ
  k = f.cluster_pages

  abbrev was : Contents
  was = content k image base (suc f.md_len)

  -- a page behind the parent's slots is none of its own parent's
  beyond : (p : ℕ) (m : Meta) → parent_of old ≡ Some p → base p ≡ Some m → k * length old.map ≤ page
      → nat_lt page (k * length m.map) ≡ false
  beyond p m parent is behind = elim (between p m parent is) [
    | inl le ↦ let less = mul-le-mul_left k le in grind (arith, nat_tests, less, behind)
    | inr le ↦ let less = mul-le-mul_left k le in absurd (omega (arith, less, behind, lt))
  ]

  -- which shows zeros there
  zeros : k * length old.map ≤ page → (o : Option ℕ) → parent_of old ≡ o
      → from_parent k image page later was o ≡ zero_page
  zeros behind None parent = refl
  zeros behind (Some p) parent =
      let up = rest.lawful.parents of p old there parent in
      counted k image page base later was was (later p) (was p page)
      ∙ ap (λ n. if nat_lt page (k * n) then was p page else zero_page) (long p parent ∙ ap slots_in up.1)
      ∙ ap (λ b. if b then was p page else zero_page) (beyond p up.0 parent up.1 behind)

  -- where the blob has the slot of its parent it shows what that showed, as far as that goes
  by_old : slot taking (page / k) ≡ slot old (page / k)
      → content_by k image later was page taking
      ≡ (if nat_lt page (k * length old.map) then was of page else zero_page)
  by_old slots = elim (cases_lt page (k * length old.map)) [
    | inl inside ↦
        let below : nat_lt page (k * length old.map) ≡ true = grind (arith, nat_tests, inside) in
        same_level k image page base later was was old taking slots parent_taking long (λ _ _ _. refl)
        ∙ sym (opened k image f.md_len base levels of page old there)
        ∙ sym (ap (λ b. if b then was of page else zero_page) below)
    | inr behind ↦
        let past : nat_lt page (k * length old.map) ≡ false = grind (arith, nat_tests, behind) in
        in_empty k image page later was taking
        (slots ∙ empty_past old (page / k) (slot_behind k (length old.map) page rest.some_pages behind))
        ∙ ap (from_parent k image page later was) parent_taking
        ∙ zeros behind (parent_of old) refl
        ∙ sym (ap (λ b. if b then was of page else zero_page) past)
  ]

  -- which is what it showed itself, where its own slot was empty
  pub through : slot heir (page / k) ≡ None → slot taking (page / k) ≡ slot old (page / k)
      → content_by k image later was page taking ≡ content_by k image base was page heir
  through empty slots =
      by_old slots
      ∙ sym (in_empty k image page base was heir empty
      ∙ ap (from_parent k image page base was) child
      ∙ ap (λ o. option_map_or (λ (m : Meta). if nat_lt page (k * length m.map) then was of page else zero_page) o
      zero_page) there)
