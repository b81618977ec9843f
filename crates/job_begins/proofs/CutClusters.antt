-- The clusters of slots that are cut, where a blob gets other metadata.
use Rattle.std.proofs.Common.{◌≡◌, ℕ, zero, suc, ◌+◌, ◌-◌, ◌<◌, ◌≤◌, true, List, [], ◌∷◌, length, drop, Option}
use Rattle.std.proofs.Common.{Some, None, refl, sym, ap, ◌∙◌, subst, inl, inr, arith}
use Rattle.std.proofs.lemmas.Bool.{cases_Bool, cases_eq, cases_lt}
use Rattle.super_block.specs.declared.page.Super.{Super}
use Rattle.blob_meta.specs.declared.meta.Meta.{Meta}
use Rattle.blob_meta.specs.Faults.{clusters_held}
use Rattle.blob_meta.specs.Parents.{slot}
use Rattle.blob_meta.specs.Resolving.{IsLawful}
use Rattle.md_chain.specs.Chain.{is_among}
use Rattle.store_model.specs.Maps.{Metas, with_entry}
use Rattle.store_model.specs.Places.{AreDistinct}
use Rattle.store_model.specs.Jobs.{MovesClusters}
use Rattle.store_model.specs.Steady.{IsSteady}
use Rattle.store_model.specs.Regions.{region_of}
use Rattle.store_model.proofs.Cut.{cut, length_cut, slot_in, slot_kept, slot_past, slot_was}
use Rattle.store_model.proofs.Inside.{inside_slot}
use Rattle.store_model.proofs.Sets.{among_either, among_first, among_later}
use Rattle.store_model.proofs.WithEntry.{given_here, given_elsewhere}

-- ---- the clusters of a map

-- a cluster of a map is in one of its slots
pub record IsInSlot (map : List (Option ℕ)) (c : ℕ) : Type 0 where
  pub i : ℕ
  pub at : slot_in map i ≡ Some c

pub in_slot : (map : List (Option ℕ)) (c : ℕ) → is_among c (clusters_held map) ≡ true → IsInSlot map c
in_slot [] c among = absurd (cc among)
in_slot (None ∷ map) c among = let x = in_slot map c among in record { i = suc x.i; at = x.at }
in_slot (Some y ∷ map) c among = elim (among_either c y (clusters_held map) among) [
  | inl e ↦ record { i = 0; at = ap Some (sym e) }
  | inr later ↦ let x = in_slot map c later in record { i = suc x.i; at = x.at }
]

pub among_slots : (map : List (Option ℕ)) (i c : ℕ) → slot_in map i ≡ Some c → is_among c (clusters_held map) ≡ true
among_slots [] i c at = absurd (cc at)
among_slots (None ∷ map) zero c at = absurd (cc at)
among_slots (None ∷ map) (suc i) c at = among_slots map i c at
among_slots (Some y ∷ map) zero c at =
    let e : y ≡ c = cc at in subst (λ n. is_among n (y ∷ clusters_held map) ≡ true) e
    (among_first y (clusters_held map))
among_slots (Some y ∷ map) (suc i) c at = among_later c y (clusters_held map) (among_slots map i c at)

-- no cluster is in two slots
abbrev AreAlone : List (Option ℕ) → Type 0
AreAlone map = (i j c : ℕ) → slot_in map i ≡ Some c → slot_in map j ≡ Some c → i ≡ j

alone_behind : (x : Option ℕ) (map : List (Option ℕ)) → AreAlone (x ∷ map) → AreAlone map
alone_behind x map alone i j c a b = let e = alone (suc i) (suc j) c a b in omega (arith, e)

each_once : (map : List (Option ℕ)) → AreAlone map → AreDistinct (clusters_held map)
each_once [] alone = tt
each_once (None ∷ map) alone = each_once map (alone_behind None map alone)
each_once (Some y ∷ map) alone = (
  elim (cases_Bool (is_among y (clusters_held map))) [
    | inl among ↦
        let x = in_slot map y among in
        absurd (let e = alone 0 (suc x.i) y refl x.at in omega (arith, e))
    | inr out ↦ out
  ],
  each_once map (alone_behind (Some y) map alone),
)

slot_dropped : (map : List (Option ℕ)) (n i : ℕ) → slot_in (drop n map) i ≡ slot_in map (n + i)
slot_dropped map zero i = ap (slot_in map) (omega arith)
slot_dropped [] (suc n) i = refl
slot_dropped (x ∷ map) (suc n) i =
    let step : suc (n + i) ≡ suc n + i = omega arith in slot_dropped map n i ∙ ap (slot_in (x ∷ map)) step

pub none_behind : (map : List (Option ℕ)) (n : ℕ) → length map ≤ n → drop n map ≡ []
none_behind [] zero le = refl
none_behind [] (suc n) le = refl
none_behind (x ∷ map) zero le = absurd (omega (arith, le))
none_behind (x ∷ map) (suc n) le = none_behind map n (omega (arith, le))

-- ---- a blob that gets a map that is cut, or has empty slots added

module _ (s : Super) (base : Metas) (head : ℕ) (old new : Meta) (slots : ℕ) (there : base head ≡ Some old)
    (lawful : IsLawful s.md_len base) (stored : IsSteady s head old) (map_is : new.map ≡ cut old.map slots None)
  where
    abbrev freed : List ℕ
    freed = clusters_held (drop slots old.map)

    alone : AreAlone old.map
    alone i j c a b = (lawful.alone head head i j c old old there there a b).1

    pub cut_once : AreDistinct freed
    cut_once = each_once (drop slots old.map) (λ i j c a b.
        let e = alone (slots + i) (slots + j) c (sym (slot_dropped old.map slots i) ∙ a)
        (sym (slot_dropped old.map slots j) ∙ b) in
        omega (arith, e))

    -- the slots of the new map were slots of the old one
    kept_slot : (i c : ℕ) → slot new i ≡ Some c → slot old i ≡ Some c
    kept_slot i c at = slot_was old.map slots i c (sym (ap (λ m. slot_in m i) map_is) ∙ at)

    below : (i c : ℕ) → slot new i ≡ Some c → i < slots
    below i c at = elim (cases_lt i slots) [
      | inl lt ↦ lt
      | inr past ↦
          absurd (let none = slot_past (cut old.map slots None) i
          (subst (λ n. n ≤ i) (sym (length_cut old.map slots None)) past) in
          let bad = sym none ∙ sym (ap (λ m. slot_in m i) map_is) ∙ at in cc bad)
    ]

    same_old : (h : ℕ) (m : Meta) → base h ≡ Some m → h ≡ head → m ≡ old
    same_old h m is e = let both = sym is ∙ ap base e ∙ there in cc both

    same_new : (h : ℕ) (m : Meta) → with_entry base head new h ≡ Some m → h ≡ head → m ≡ new
    same_new h m is e = let both = sym is ∙ given_here base head new h e in cc both

    -- Clusters of the slots that are cut are in no map any more, and all others are where they were.
    pub cut_moves : MovesClusters s base (with_entry base head new) freed []
    cut_moves = record {
      kept = λ c x. elim (cases_eq x.head head) [
        | inl e ↦
            let at : slot old x.place ≡ Some c =
            subst (λ (m : Meta). slot m x.place ≡ Some c) (same_old x.head x.meta x.there e) x.in_slot in
            elim (cases_lt x.place slots) [
              | inl lt ↦ inl (record {
                head = head;
                meta = new;
                there = given_here base head new head refl;
                place = x.place;
                in_slot = ap (λ m. slot_in m x.place) map_is ∙ slot_kept old.map slots x.place lt ∙ at;
              })
              | inr past ↦ inr (among_slots (drop slots old.map) (x.place - slots) c
                  (slot_dropped old.map slots (x.place - slots)
                  ∙ ap (slot_in old.map) (omega (arith, past)) ∙ at))
            ]
        | inr ne ↦ inl (record {
          head = x.head;
          meta = x.meta;
          there = given_elsewhere base head new x.head ne ∙ x.there;
          place = x.place;
          in_slot = x.in_slot;
        })
      ];
      let_go = λ c among.
          let x = in_slot (drop slots old.map) c among in
          let at : slot old (slots + x.i) ≡ Some c = sym (slot_dropped old.map slots x.i) ∙ x.at in (
            (inside_slot (region_of s).fixed (region_of s).clusters old (slots + x.i) c stored.stored.faultless
                at).behind,
            record { head = head; meta = old; there = there; place = slots + x.i; in_slot = at },
            λ y. elim (cases_eq y.head head) [
              | inl e ↦
                  let in_new : slot new y.place ≡ Some c =
                  subst (λ (m : Meta). slot m y.place ≡ Some c) (same_new y.head y.meta y.there e) y.in_slot in
                  let same = alone (slots + x.i) y.place c at (kept_slot y.place c in_new) in
                  let low = below y.place c in_new in
                  omega (arith, same, low)
              | inr ne ↦ ne ((lawful.alone y.head head y.place (slots + x.i) c y.meta old
                  (sym (given_elsewhere base head new y.head ne) ∙ y.there) there y.in_slot at).0)
            ],
          );
      gained = λ c x. inl (elim (cases_eq x.head head) [
        | inl e ↦ record {
          head = head;
          meta = old;
          there = there;
          place = x.place;
          in_slot = kept_slot x.place c
              (subst (λ (m : Meta). slot m x.place ≡ Some c) (same_new x.head x.meta x.there e) x.in_slot);
        }
        | inr ne ↦ record {
          head = x.head;
          meta = x.meta;
          there = sym (given_elsewhere base head new x.head ne) ∙ x.there;
          place = x.place;
          in_slot = x.in_slot;
        }
      ]);
      filled = λ c bad. absurd (cc bad);
    }
