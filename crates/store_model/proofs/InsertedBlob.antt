-- The metadata of a blob with a cluster in a slot that was empty: it is steady, and with it all metadata is lawful.
use Rattle.std.proofs.Common.{◌≡◌, ◌≢◌, ◌⊎◌, ℕ, zero, suc, ◌<◌, ◌^◌, Bool, true, false, List, [], ◌∷◌, Option, Some}
use Rattle.std.proofs.Common.{None, refl}
use Rattle.std.proofs.Common.{sym, ap, ◌∙◌, subst, inl, inr, length, arith}
use Rattle.descriptors.specs.Runs.{at_most}
use Rattle.std.specs.Prelude.{◌+◌, ◌-◌, nat_le, find, if◌then◌else◌, is_none, slice_get, slice_index_or, slice_set}
use Rattle.std.specs.List.{position}
use Rattle.std.specs.Option.{option_and_then, option_map}
use Rattle.std.proofs.lemmas.Bool.{cases_Bool, cases_eq, false≢true}
use Rattle.std.proofs.lemmas.Bool.Decides.{nat_tests}
use Rattle.std.proofs.lemmas.List.{length-set}
use Rattle.super_block.specs.declared.page.Super.{Super}
use Rattle.blob_meta.specs.declared.meta.Meta.{Meta}
use Rattle.blob_meta.specs.declared.fault.MetaFault.{MetaFault}
use Rattle.blob_meta.specs.declared.fault.MetaFault.TheVariants as faults
use Rattle.blob_meta.specs.Faults.{cluster_outside, clusters_held, hole_in_thick, is_outside, is_thin}
use Rattle.blob_meta.specs.Faults.{meta_fault, too_large}
use Rattle.blob_meta.specs.Parents.{is_read_only, parent_of, slot}
use Rattle.blob_meta.specs.Resolving.{IsLawful, slots_together}
use Rattle.store_model.specs.Inserting.{with_slot}
use Rattle.store_model.specs.Maps.{Metas, with_entry}
use Rattle.store_model.specs.Places.{IsMapped}
use Rattle.store_model.specs.Regions.{region_of}
use Rattle.store_model.specs.Steady.{IsSteady}
use Rattle.store_model.proofs.Cut.{all_full}
use Rattle.store_model.proofs.Inserted.{get_set_here}
use Rattle.shown_volumes.proofs.Inside.{IsInside, none_of_map, passes}
use Rattle.shown_volumes.proofs.MapTests.{all_pass, passes as all_passes}
use Rattle.shown_volumes.proofs.Ranges.{get_set_other}
use Rattle.shown_volumes.proofs.SlotSums.{slots_given, slots_in}
use Rattle.shown_volumes.proofs.WithEntry.{given_here, given_elsewhere}

-- ---- tests of the map

module _ (fixed clusters cluster : ℕ) (inside : IsInside fixed clusters cluster) where
  not_out : is_outside fixed clusters cluster ≡ false
  not_out =
      let low = inside.behind in
      let high = inside.below in
      grind (arith, nat_tests, low, high)

  -- no cluster lies outside
  inside_set : (map : List (Option ℕ)) (i : ℕ) → i < length map
      → find (is_outside fixed clusters) (clusters_held map) ≡ None
      → find (is_outside fixed clusters) (clusters_held (slice_set map i (Some cluster))) ≡ None
  inside_set [] i lt none = absurd (omega (arith, lt))
  inside_set (None ∷ map) zero lt none = rw not_out none
  inside_set (Some c ∷ map) zero lt none = rw not_out ((passes fixed clusters c (clusters_held map) none).1)
  inside_set (None ∷ map) (suc i) lt none = inside_set map i (omega (arith, lt)) none
  inside_set (Some c ∷ map) (suc i) lt none =
      let parts = passes fixed clusters c (clusters_held map) none in
      subst (λ (b : Bool). (if b then Some c
      else find (is_outside fixed clusters) (clusters_held (slice_set map i (Some cluster)))) ≡ None)
      (sym parts.0) (inside_set map i (omega (arith, lt)) parts.1)

empty_at : (map : List (Option ℕ)) (i : ℕ) → i < length map → option_and_then (λ s. s) (slice_get map i) ≡ None
    → slice_index_or map i None ≡ None
empty_at [] i lt none = absurd (omega (arith, lt))
empty_at (s ∷ map) zero lt none = none
empty_at (s ∷ map) (suc i) lt none = empty_at map i (omega (arith, lt)) none

-- ---- the blob

module _ (old : Meta) (i cluster : ℕ) (within : i < length old.map) (empty : slot old i ≡ None) where
  abbrev next : Meta
  next = with_slot old i cluster

  pub slot_filled : slot next i ≡ Some cluster
  slot_filled = ap (λ (o : Option (Option ℕ)). option_and_then (λ x. x) o)
      (get_set_here old.map i (Some cluster) within)

  pub slot_beside : (j : ℕ) → j ≢ i → slot next j ≡ slot old j
  slot_beside j ne = ap (λ (o : Option (Option ℕ)). option_and_then (λ x. x) o)
      (get_set_other old.map i j (Some cluster) ne)

  -- a blob with an empty slot is thin
  thin : hole_in_thick old.flags old.map ≡ None → is_thin old.flags ≡ true
  thin full = elim (cases_Bool (is_thin old.flags)) [
    | inl is ↦ is
    | inr not ↦
        let was : option_map faults.HoleInThick (position is_none old.map) ≡ None = subst (λ b.
        (if b then None else option_map faults.HoleInThick (position is_none old.map)) ≡ None) not full in
        let filled = all_full old.map (none_of_map faults.HoleInThick (position is_none old.map) was) i within in
        absurd (false≢true (sym filled ∙ ap is_none (empty_at old.map i within empty)))
  ]

  still_passes : (fixed clusters : ℕ) → IsInside fixed clusters cluster → meta_fault fixed clusters old ≡ None
      → meta_fault fixed clusters next ≡ None
  still_passes fixed clusters inside none =
      let was = all_passes fixed clusters old none in
      let few : too_large next.map ≡ None =
      ap too_long (length-set old.map i (Some cluster)) ∙ was.few in
      let held : cluster_outside fixed clusters next.map ≡ None =
      ap (option_map faults.ClusterOutside) (inside_set fixed clusters cluster inside old.map i within
      (none_of_map faults.ClusterOutside (find (is_outside fixed clusters) (clusters_held old.map)) was.map)) in
      let is = thin was.full in
      all_pass _ _ _ _ was.flags (rw (few, held) refl) (rw is refl) was.marks
    where
      too_long : ℕ → Option MetaFault
      too_long n = if nat_le n (2 ^ 20) then None else Some (faults.TooLarge (at_most (2 ^ 64 - 1) n))

  pub inserted_steady : (s : Super) (head : ℕ) → IsInside (region_of s).fixed (region_of s).clusters cluster
      → IsSteady s head old → IsSteady s head next
  inserted_steady s head inside was = record {
    stored = record {
      low = was.stored.low;
      id = was.stored.id;
      clear = was.stored.clear;
      xattrs = was.stored.xattrs;
      internal = was.stored.internal;
      faultless = still_passes (region_of s).fixed (region_of s).clusters inside was.stored.faultless;
    };
    named = was.named;
    unmarked = was.unmarked;
  }

  -- ---- all metadata

  module _ (metas : Metas) (head : ℕ) (there : metas head ≡ Some old) where
    abbrev nexts : Metas
    nexts = with_entry metas head next

    -- the cluster in the slot
    pub record IsInsertedAt (h j c : ℕ) : Type 0 where
      pub head_is : h ≡ head
      pub slot_is : j ≡ i
      pub cluster_is : c ≡ cluster

    -- what a blob was: each of its clusters was in its slot, or is the one that is inserted
    pub record Was (h : ℕ) (m : Meta) : Type 0 where
      pub before : Meta
      pub was : metas h ≡ Some before
      pub flags : m.flags ≡ before.flags
      pub parent : parent_of m ≡ parent_of before
      pub slots : (j c : ℕ) → slot m j ≡ Some c → (slot before j ≡ Some c) ⊎ IsInsertedAt h j c

    pub was_so : (h : ℕ) (m : Meta) → nexts h ≡ Some m → Was h m
    was_so h m is = elim (cases_eq h head) [
      | inl e ↦
          let one : next ≡ m = let both = sym (given_here metas head next h e) ∙ is in cc both in
          subst (Was h) one (record {
            before = old;
            was = ap metas e ∙ there;
            flags = refl;
            parent = refl;
            slots = λ j c at. elim (cases_eq j i) [
              | inl same ↦ inr (record {
                head_is = e;
                slot_is = same;
                cluster_is = let both = sym at ∙ ap (slot next) same ∙ slot_filled in cc both;
              })
              | inr ne ↦ inl (sym (slot_beside j ne) ∙ at)
            ];
          })
      | inr ne ↦ record {
        before = m;
        was = sym (given_elsewhere metas head next h ne) ∙ is;
        flags = refl;
        parent = refl;
        slots = λ j c at. inl at;
      }
    ]

    -- what is mapped then was mapped, or is the cluster; and what was mapped is
    pub mapped_then : (c : ℕ) → IsMapped nexts c → IsMapped metas c ⊎ (c ≡ cluster)
    mapped_then c x =
        let w = was_so x.head x.meta x.there in
        elim (w.slots x.place c x.in_slot) [
          | inl at ↦ inl (record { head = x.head; meta = w.before; there = w.was; place = x.place; in_slot = at })
          | inr new ↦ inr new.cluster_is
        ]

    pub mapped_still : (c : ℕ) → IsMapped metas c → IsMapped nexts c
    mapped_still c x = elim (cases_eq x.head head) [
      | inl e ↦
          let one : x.meta ≡ old = let both = sym x.there ∙ ap metas e ∙ there in cc both in
          let at : slot old x.place ≡ Some c = ap (λ (m : Meta). slot m x.place) (sym one) ∙ x.in_slot in
          record {
            head = head;
            meta = next;
            there = given_here metas head next head refl;
            place = x.place;
            in_slot = slot_beside x.place (λ same.
                let bad = sym empty ∙ ap (slot old) (sym same) ∙ at in cc bad) ∙ at;
          }
      | inr ne ↦ record {
        head = x.head;
        meta = x.meta;
        there = given_elsewhere metas head next x.head ne ∙ x.there;
        place = x.place;
        in_slot = x.in_slot;
      }
    ]

    pub inserted_mapped : IsMapped nexts cluster
    inserted_mapped = record {
      head = head;
      meta = next;
      there = given_here metas head next head refl;
      place = i;
      in_slot = slot_filled;
    }

    pub slots_inserted : (md_len : ℕ) → head < md_len
        → slots_together md_len nexts ≡ slots_together md_len metas
    slots_inserted md_len low =
        let counted : slots_together md_len nexts + length old.map ≡ slots_together md_len metas + length next.map =
        ap (λ o. slots_together md_len nexts + slots_in o) (sym there) ∙ slots_given md_len metas head next low in
        omega (arith, counted, length-set old.map i (Some cluster))

    pub lawful_inserted : (md_len : ℕ) → head < md_len → (IsMapped metas cluster → ⊥) → IsLawful md_len metas
        → IsLawful md_len nexts
    lawful_inserted md_len low free law = record {
      alone = λ h k a b c m n hm kn sa sb.
          let x = was_so h m hm in
          let y = was_so k n kn in
          elim (x.slots a c sa) [
            | inl old_a ↦ elim (y.slots b c sb) [
              | inl old_b ↦ law.alone h k a b c x.before y.before x.was y.was old_a old_b
              | inr new ↦ absurd (free (subst (IsMapped metas) new.cluster_is
                  (record { head = h; meta = x.before; there = x.was; place = a; in_slot = old_a })))
            ]
            | inr new ↦ elim (y.slots b c sb) [
              | inl old_b ↦ absurd (free (subst (IsMapped metas) new.cluster_is
                  (record { head = k; meta = y.before; there = y.was; place = b; in_slot = old_b })))
              | inr too ↦ (new.head_is ∙ sym too.head_is, new.slot_is ∙ sym too.slot_is)
            ]
          ];
      parents = λ h up m hm of.
          let x = was_so h m hm in
          let a = law.parents h up x.before x.was (sym x.parent ∙ of) in
          elim (cases_eq up head) [
            | inl e ↦
                let one : a.0 ≡ old = let both = sym a.1 ∙ ap metas e ∙ there in cc both in
                (next, given_here metas head next up e, ap (λ (o : Meta). is_read_only o.flags) (sym one) ∙ a.2)
            | inr ne ↦ (a.0, given_elsewhere metas head next up ne ∙ a.1, a.2)
          ];
      rank = law.rank;
      falls = λ h up m hm of. let x = was_so h m hm in law.falls h up x.before x.was (sym x.parent ∙ of);
      few = let few = law.few in omega (arith, few, slots_inserted md_len low);
    }
