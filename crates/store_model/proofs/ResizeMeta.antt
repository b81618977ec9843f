-- The metadata that a resize asks for: it is steady, and with it all metadata is lawful.
use Rattle.std.proofs.Common.{◌≡◌, ℕ, ◌+◌, ◌-◌, ◌<◌, ◌≤◌, ◌^◌, ◌&&◌, Bool, true, false, List, length, Option, Some}
use Rattle.std.proofs.Common.{None, refl, sym, ap, ◌∙◌, subst, inl, inr, arith}
use Rattle.std.specs.List.{position}
use Rattle.std.specs.Prelude.{is_none, if◌then◌else◌, IsSome, nat_lt}
use Rattle.std.specs.Option.{option_map, option_map_or}
use Rattle.std.proofs.lemmas.Bool.{cases_lt, lt-ltb, ltb-false}
use Rattle.std.proofs.lemmas.Bool.Decides.{nat_tests}
use Rattle.volume_model.specs.Volumes.{all_slots, Fixed, head_of, slots_at, slots_of, Volume}
use Rattle.volume_model.specs.Refusals.{has_longer_parent, refusal}
use Rattle.volume_model.specs.declared.command.Command.TheVariants as c
use Rattle.volume_model.specs.declared.command.VolumeRef.{VolumeRef}
use Rattle.blob_meta.specs.declared.meta.Meta.{Meta}
use Rattle.blob_meta.specs.Faults.{is_thin, hole_in_thick}
use Rattle.blob_meta.specs.Jobs.{resized_meta}
use Rattle.blob_meta.specs.Repairs.{HasNoMarks}
use Rattle.blob_meta.specs.Resolving.{resolved, slots_together, IsLawful}
use Rattle.blob_meta.specs.declared.fault.MetaFault.TheVariants.{HoleInThick}
use Rattle.blob_meta.specs.Parents.{slot}
use Rattle.md_chain.specs.Chain.{is_among}
use Rattle.store_model.specs.Maps.{Metas, with_entry}
use Rattle.store_model.specs.Shown.{fixed_of}
use Rattle.store_model.specs.StoreState.{shown}
use Rattle.store_model.specs.Jobs.{with_clusters}
use Rattle.store_model.specs.Steady.{AreSteady, IsSteady}
use Rattle.store_model.specs.RunInvariant.{RunsWell}
use Rattle.store_model.specs.Places.{AreLeastClear, IsMapped}
use Rattle.store_model.proofs.Cut.{length_cut, slot_kept, slot_past, slot_was}
use Rattle.store_model.proofs.ClaimedZeros.{claimed_inside, zeroed_fresh, zeroed_is}
use Rattle.store_model.proofs.InARow.{range_among}
use Rattle.store_model.proofs.ZeroSlots.{filled_slot, AreEmpty}
use Rattle.store_model.proofs.ZeroedBlob.{all_filled, lawful_zeroed, slot_filled, zeroed_steady, IsZeroed}
use Rattle.store_model.proofs.Elsewhere.{IsChildless}
use Rattle.store_model.proofs.Known.{Known}
use Rattle.store_model.proofs.OneReplacement.{all_steady, base_lawful, base_steady, base_resolved, lawful_still}
use Rattle.store_model.proofs.OneReplacement.{some_pages}
use Rattle.store_model.proofs.ResizeAsked.{added_zeros, can_resize, zeros_differ, zeros_lie, CanResize}
use Rattle.store_model.proofs.ResizedBlob.{resized_but, resized_takes_none, thick_full}
use Rattle.store_model.proofs.Shows.{or_empty}
use Rattle.store_model.proofs.ShowsGiven.{by, shown_is, writable_childless}
use Rattle.store_model.proofs.ShowsResized.{IsNoLonger}
use Rattle.store_model.proofs.SlotSums.{all_shown, slots_at_shown, slots_given, slots_in, slots_shown}

no_some : (o : Option ℕ) → o ≡ None → IsSome o → ⊥
no_some None none some = cc some
no_some (Some x) none some = cc none

module _ (known : Known) (unmarked : HasNoMarks known.p.base) where
  open known use {first, p, facts}

  module _ (runs : p.stopped ≡ None) (volume : VolumeRef) (slots : ℕ)
      (asked : refusal (fixed_of p.super) (shown p) (c.Resize volume slots) ≡ None) (head : ℕ)
      (found : head_of (fixed_of p.super) (shown p) volume ≡ Some head) (old : Meta) (there : p.base head ≡ Some old)
      (claimed : List ℕ) (least : AreLeastClear p.clusters claimed)
      (one_each : length claimed ≡ length (added_zeros (is_thin old.flags) (length old.map) slots)) where
    well : RunsWell first p
    well = facts.well runs

    abbrev f : Fixed
    f = fixed_of p.super

    abbrev zeros : List ℕ
    zeros = added_zeros (is_thin old.flags) (length old.map) slots

    -- the new metadata, without claimed clusters and with them
    abbrev bare : Meta
    bare = resized_meta old slots

    abbrev new : Meta
    new = with_clusters bare zeros claimed

    abbrev all : Metas
    all = with_entry p.base head new

    -- ---- the volume, and what doesn't hold of it

    abbrev x : Volume
    x = by p (base_steady known unmarked) p.base (or_empty (p.live head)) head old

    was : shown p head ≡ Some x
    was = shown_is p (base_steady known unmarked) head
        ∙ ap (λ o. option_map (by p (base_steady known unmarked) p.base (or_empty (p.live head)) head) o)
        there

    pub can : CanResize f (shown p) slots x
    can = can_resize f (shown p) volume slots head x found was asked

    slots_are : slots_of f x ≡ length old.map
    slots_are = slots_shown f p.device.reads p.base (some_pages known) (or_empty (p.live head)) head old

    slots_at_are : (h : ℕ) → slots_at f (shown p) h ≡ slots_in (p.base h)
    slots_at_are h = slots_at_shown f p.device.reads (resolved p.base) (some_pages known) p.live h
        ∙ ap (λ (m : Metas). slots_in (m h)) (base_resolved known unmarked)

    all_are : all_slots f (shown p) ≡ slots_together p.super.md_len p.base
    all_are = all_shown f p.device.reads (resolved p.base) (some_pages known) p.live
        ∙ ap (slots_together p.super.md_len) (base_resolved known unmarked)

    -- a blob that grows has no longer parent
    pub no_longer : length old.map < slots → IsNoLonger p.base old (length old.map)
    no_longer lt up parent of is =
        let grows : nat_lt (slots_of f x) slots ≡ true = ap (λ n. nat_lt n slots) slots_are ∙ lt-ltb _ _ lt in
        let none : has_longer_parent f (shown p) x (slots_of f x) ≡ false =
        subst (λ b. (b && has_longer_parent f (shown p) x (slots_of f x)) ≡ false) grows can.short in
        let one : nat_lt (slots_of f x) (slots_at f (shown p) up) ≡ false =
        subst (λ o. option_map_or (λ q. nat_lt (slots_of f x) (slots_at f (shown p) q)) o false ≡ false) of none in
        let le = ltb-false (slots_of f x) (slots_at f (shown p) up) one in
        let long : slots_at f (shown p) up ≡ length parent.map = slots_at_are up ∙ ap slots_in is in
        omega (arith, le, long, slots_are)

    pub childless : IsChildless p.base head
    childless = writable_childless p.base head old (base_lawful known unmarked).parents there can.writable

    -- ---- the metadata

    pub all_empty : AreEmpty bare zeros
    all_empty i among =
        let x = zeros_lie (is_thin old.flags) (length old.map) slots i among in (
          subst (λ n. i < n) (sym (length_cut {X = Option ℕ} old.map slots None)) x.1,
          slot_kept old.map slots i x.1 ∙ slot_past old.map i x.0,
        )

    pub had : (i c : ℕ) → slot bare i ≡ Some c → IsMapped p.base c
    had i c at =
        record { head = head; meta = old; there = there; place = i; in_slot = slot_was old.map slots i c at }

    pub zeroed : IsZeroed bare new claimed
    zeroed = zeroed_is known runs claimed least head bare zeros
        (zeros_differ (is_thin old.flags) (length old.map) slots) all_empty had

    pub one_steady : IsSteady p.super head new
    one_steady = zeroed_steady p.super head bare new claimed zeroed
        (resized_but old slots p.super head (let large = can.large in grind (arith, nat_tests, large))
        (base_steady known unmarked head old there)) (claimed_inside known runs claimed least)
        (no_hole (is_thin old.flags) refl)
      where
        kept : (o : Option ℕ) → is_thin old.flags ≡ false → (i : ℕ) → i < length new.map → slot new i ≡ o → IsSome o
        kept (Some c) thick i lt at = refl
        kept None thick i lt at = absurd (elim (cases_lt i (length old.map)) [
          | inl below ↦
              let was : IsSome (slot old i) =
              slot_filled old.map (thick_full old p.super head (base_steady known unmarked head old there) thick) i
              below in
              let in_bare : slot bare i ≡ slot old i =
              slot_kept old.map slots i (omega (arith, lt, zeroed.long, length_cut {X = Option ℕ} old.map slots None))
              in
              elim (zeroed.each i) [
                | inl same ↦
                    let bad : IsSome (slot new i) = subst (λ (o : Option ℕ). IsSome o) (sym (same ∙ in_bare)) was in
                    no_some (slot new i) at bad
                | inr x ↦ let bad = sym at ∙ x.at in cc bad
              ]
          | inr behind ↦
              let among : is_among i zeros ≡ true = subst (λ b. is_among i (added_zeros b (length old.map) slots) ≡
              true)
              (sym thick)
              (range_among (length old.map) (slots - length old.map) i behind
              (omega (arith, behind, lt, zeroed.long, length_cut {X = Option ℕ} old.map slots None))) in
              let some = filled_slot bare zeros claimed (zeros_differ (is_thin old.flags) (length old.map) slots)
              all_empty one_each i among in
              no_some (slot new i) at some
        ])

        no_hole : (b : Bool) → is_thin old.flags ≡ b → hole_in_thick old.flags new.map ≡ None
        no_hole true is = subst (λ b. (if b then None else option_map HoleInThick (position is_none new.map)) ≡ None)
            (sym is) refl
        no_hole false is = subst (λ b. (if b then None else option_map HoleInThick (position is_none new.map)) ≡ None)
            (sym is)
            (ap (λ o. option_map HoleInThick o) (all_filled new.map (λ i lt. kept (slot new i) is i lt refl)))

    pub steady : AreSteady p.super all
    steady = all_steady known unmarked head new one_steady

    few_with : (m : Meta) → length m.map ≡ slots → slots_together p.super.md_len (with_entry p.base head m) ≤ 2 ^ 24
    few_with m long =
        let large = can.large in
        let together : (all_slots f (shown p) - slots_of f x) + slots ≤ 2 ^ 24 = grind (arith, nat_tests, large) in
        let counted : slots_together p.super.md_len (with_entry p.base head m) + length old.map
        ≡ slots_together p.super.md_len p.base + length m.map =
        ap (λ o. slots_together p.super.md_len (with_entry p.base head m) + slots_in o) (sym there)
        ∙ slots_given p.super.md_len p.base head m (base_steady known unmarked head old there).stored.low in
        omega (arith, together, counted, all_are, slots_are, long)

    bare_few : slots_together p.super.md_len (with_entry p.base head bare) ≤ 2 ^ 24
    bare_few = few_with bare (length_cut {X = Option ℕ} old.map slots None)

    pub all_few : slots_together p.super.md_len all ≤ 2 ^ 24
    all_few = few_with new (zeroed.long ∙ length_cut {X = Option ℕ} old.map slots None)

    pub all_lawful : IsLawful p.super.md_len all
    all_lawful = lawful_zeroed p.super.md_len p.base head bare new claimed zeroed
        (zeroed_fresh known runs claimed least head bare zeros
        (zeros_differ (is_thin old.flags) (length old.map) slots) all_empty had)
        (lawful_still known unmarked head bare (resized_takes_none p.base head old slots there) bare_few) all_few
