-- The clusters of a blob that no other has: how they are found, and that they are freed where it is erased.
use Rattle.std.proofs.Common.{◌≡◌, ◌≢◌, ◌↔◌, ◌⊎◌, ℕ, zero, suc, ◌+◌, ◌<◌, ◌≤◌, Bool, true, List, [], ◌∷◌, length}
use Rattle.std.proofs.Common.{get_or, drop}
use Rattle.std.proofs.Common.{Option, Some, None, refl, sym, ap, ◌∙◌, subst, inl, inr, arith, drop-cons, add-one}
use Rattle.std.proofs.lemmas.Bool.{both_ways, cases_Bool, cases_eq, cases_lt, eq-eqb, ne_eqb}
use Rattle.std.proofs.lemmas.List.{length-set}
use Rattle.std.specs.Prelude.{is_some, slice_set}
use Rattle.bit_array.specs.Bits.{is_in}
use Rattle.super_block.specs.declared.page.Super.{Super}
use Rattle.blob_meta.specs.declared.meta.Meta.{Meta}
use Rattle.blob_meta.specs.Faults.{clusters_held}
use Rattle.blob_meta.specs.Parents.{slot}
use Rattle.md_chain.specs.Chain.{is_among}
use Rattle.store_model.specs.Jobs.{MovesClusters}
use Rattle.store_model.specs.Maps.{Metas, with_entry, without_entry}
use Rattle.store_model.specs.Places.{all_set, IsMapped}
use Rattle.store_model.specs.Regions.{region_of}
use Rattle.store_model.specs.Steady.{AreStored}
use Rattle.store_model.proofs.Inside.{inside_slot}
use Rattle.store_model.proofs.Sets.{all_set_in, all_set_out, among_first, among_later, AllBelow}
use Rattle.store_model.proofs.WithEntry.{given_here, given_elsewhere}
use Rattle.job_begins.specs.Alone.{AreChained, HaveRoom, IsMappedBeside, IsMissing}
use Rattle.job_begins.proofs.CutClusters.{among_slots, in_slot, none_behind}

-- ---- a set with the clusters of a map

-- it has those of the set before and those of the map
pub set_with : (bits : List Bool) (ps : List ℕ) → AllBelow (length bits) ps → (c : ℕ)
    → (is_in (all_set bits ps true) c ≡ true) ↔ ((is_in bits c ≡ true) ⊎ (is_among c ps ≡ true))
set_with bits ps low c = elim (cases_Bool (is_among c ps)) [
  | inl among ↦ (λ _. inr among, λ _. all_set_in bits ps true c low among)
  | inr out ↦
      let same = all_set_out bits ps true c out in (
        λ set. inl (sym same ∙ set),
        λ o. elim o [ inl was ↦ same ∙ was | inr among ↦ absurd (both_ways (is_among c ps) out among) ],
      )
]

-- ---- a blob has other metadata

-- New metadata of a blob moves no cluster, if those of the old are in maps behind it, and its own were in maps before.
pub moves_none : (s : Super) (base : Metas) (head : ℕ) (new : Meta)
    → ((m : Meta) (place c : ℕ) → base head ≡ Some m → slot m place ≡ Some c → IsMapped (with_entry base head new) c)
    → ((place c : ℕ) → slot new place ≡ Some c → IsMapped base c)
    → MovesClusters s base (with_entry base head new) [] []
moves_none s base head new stay had = record {
  kept = λ c x. inl (elim (cases_eq x.head head) [
    | inl e ↦ stay x.meta x.place c (sym (ap base e) ∙ x.there) x.in_slot
    | inr ne ↦ record {
      head = x.head;
      meta = x.meta;
      there = given_elsewhere base head new x.head ne ∙ x.there;
      place = x.place;
      in_slot = x.in_slot;
    }
  ]);
  let_go = λ c bad. absurd (cc bad);
  gained = λ c x. inl (elim (cases_eq x.head head) [
    | inl e ↦
        let one : new ≡ x.meta = let both = sym (given_here base head new x.head e) ∙ x.there in cc both in
        had x.place c (ap (λ (m : Meta). slot m x.place) one ∙ x.in_slot)
    | inr ne ↦ record {
      head = x.head;
      meta = x.meta;
      there = sym (given_elsewhere base head new x.head ne) ∙ x.there;
      place = x.place;
      in_slot = x.in_slot;
    }
  ]);
  filled = λ c bad. absurd (cc bad);
}

-- as where the map is the same
pub moves_same : (s : Super) (base : Metas) (head : ℕ) (old new : Meta) → base head ≡ Some old → new.map ≡ old.map
    → MovesClusters s base (with_entry base head new) [] []
moves_same s base head old new there same = moves_none s base head new
    (λ m place c is at. record {
      head = head;
      meta = new;
      there = given_here base head new head refl;
      place = place;
      in_slot = let one : m ≡ old = let both = sym is ∙ there in cc both in
          in_same place ∙ ap (λ (m : Meta). slot m place) (sym one) ∙ at;
    })
    (λ place c at. record {
      head = head;
      meta = old;
      there = there;
      place = place;
      in_slot = sym (in_same place) ∙ at;
    })
  where
    in_same : (place : ℕ) → slot new place ≡ slot old place
    in_same place = ap (λ (l : List (Option ℕ)). slot (record new { map = l }) place) same

-- ---- a blob is erased

module _ (s : Super) (base : Metas) (stored : AreStored s base) (head : ℕ) (old : Meta) (there : base head ≡ Some old)
    (bits : List Bool) (bits_are : (c : ℕ) → (is_in bits c ≡ true) ↔ IsMappedBeside s.md_len base head c)
    (freed : List ℕ) (freed_are : (c : ℕ) → (is_among c freed ≡ true) ↔ IsMissing bits old.map c) where
  gone : (q : ℕ) → q ≡ head → without_entry base head q ≡ None
  gone q e = rw (eq-eqb q head e) refl

  still : (q : ℕ) → q ≢ head → without_entry base head q ≡ base q
  still q ne = rw (ne_eqb q head ne) refl

  beside : (c : ℕ) → IsMappedBeside s.md_len base head c → IsMapped (without_entry base head) c
  beside c x =
      let at = in_slot x.meta.map c x.among in
      record {
        head = x.other;
        meta = x.meta;
        there = still x.other x.apart ∙ x.there;
        place = at.i;
        in_slot = at.at;
      }

  beside_of : (c : ℕ) (x : IsMapped (without_entry base head) c) → x.head ≢ head → IsMappedBeside s.md_len base head c
  beside_of c x ne =
      let was : base x.head ≡ Some x.meta = sym (still x.head ne) ∙ x.there in
      record {
        other = x.head;
        low = (stored x.head x.meta was).low;
        apart = ne;
        meta = x.meta;
        there = was;
        among = among_slots x.meta.map x.place c x.in_slot;
      }

  elsewhere : (c : ℕ) (x : IsMapped (without_entry base head) c) → x.head ≢ head
  elsewhere c x e = let bad = sym (gone x.head e) ∙ x.there in cc bad

  -- its clusters that no other blob has are in no map any more, and all others are where they were
  pub erased_moves : MovesClusters s base (without_entry base head) freed []
  erased_moves = record {
    kept = λ c x. elim (cases_eq x.head head) [
      | inl e ↦
          let one : x.meta ≡ old = let both = sym x.there ∙ ap base e ∙ there in cc both in
          let among = among_slots old.map x.place c (subst (λ (m : Meta). slot m x.place ≡ Some c) one x.in_slot) in
          elim (cases_Bool (is_in bits c)) [
            | inl set ↦ inl (beside c ((bits_are c).0 set))
            | inr clear ↦ inr ((freed_are c).1 (among, clear))
          ]
      | inr ne ↦ inl (record {
        head = x.head;
        meta = x.meta;
        there = still x.head ne ∙ x.there;
        place = x.place;
        in_slot = x.in_slot;
      })
    ];
    let_go = λ c among.
        let missing = (freed_are c).0 among in
        let at = in_slot old.map c missing.0 in (
          (inside_slot (region_of s).fixed (region_of s).clusters old at.i c (stored head old there).faultless
              at.at).behind,
          record { head = head; meta = old; there = there; place = at.i; in_slot = at.at },
          λ y. both_ways (is_in bits c) missing.1 ((bits_are c).1 (beside_of c y (elsewhere c y))),
        );
    gained = λ c x. inl (record {
      head = x.head;
      meta = x.meta;
      there = sym (still x.head (elsewhere c x)) ∙ x.there;
      place = x.place;
      in_slot = x.in_slot;
    });
    filled = λ c bad. absurd (cc bad);
  }

-- ---- the loops

-- the clusters of so many slots are added to a set
pub record Adds (old : List Bool) (slots : List (Option ℕ)) (i : ℕ) (now : List Bool) : Type 0 where
  pub count : length now ≡ length old
  pub so_far : all_set now (clusters_held (drop i slots)) true ≡ all_set old (clusters_held slots) true

module _ (old : List Bool) (slots : List (Option ℕ)) (i : ℕ) (d : Option ℕ) (now : List Bool) (low : i < length slots)
    (a : Adds old slots i now) where
  rest_as : (x : Option ℕ) → get_or slots i d ≡ x → drop i slots ≡ x ∷ drop (i + 1) slots
  rest_as x is = drop-cons slots i d low ∙ ap (λ k. get_or slots i d ∷ drop k slots) (sym (add-one i))
      ∙ ap (λ y. y ∷ drop (i + 1) slots) is

  -- the next slot has a cluster,
  pub adds_one : (cluster : ℕ) → get_or slots i d ≡ Some cluster
      → Adds old slots (i + 1) (slice_set now cluster true)
  adds_one cluster is = record {
    count = length-set now cluster true ∙ a.count;
    so_far = sym (ap (λ l. all_set now (clusters_held l) true) (rest_as (Some cluster) is)) ∙ a.so_far;
  }

  -- or is empty
  pub adds_none : get_or slots i d ≡ None → Adds old slots (i + 1) now
  adds_none is = record {
    count = a.count;
    so_far = sym (ap (λ l. all_set now (clusters_held l) true) (rest_as None is)) ∙ a.so_far;
  }

-- a slot's cluster is one of the map's
pub one_of : (slots : List (Option ℕ)) (i cluster : ℕ) (d : Option ℕ) → i < length slots
    → get_or slots i d ≡ Some cluster → is_among cluster (clusters_held slots) ≡ true
one_of [] i cluster d low is = absurd (omega (arith, low))
one_of (x ∷ slots) zero cluster d low is =
    subst (λ (y : Option ℕ). is_among cluster (clusters_held (y ∷ slots)) ≡ true) (sym is)
    (among_first cluster (clusters_held slots))
one_of (None ∷ slots) (suc i) cluster d low is = one_of slots i cluster d (omega (arith, low)) is
one_of (Some y ∷ slots) (suc i) cluster d low is =
    among_later cluster y (clusters_held slots) (one_of slots i cluster d (omega (arith, low)) is)

-- all are added
pub adds_all : (old : List Bool) (slots : List (Option ℕ)) (i : ℕ) (now : List Bool) → length slots ≤ i
    → Adds old slots i now → now ≡ all_set old (clusters_held slots) true
adds_all old slots i now le a =
    sym (ap (λ l. all_set now (clusters_held l) true) (none_behind slots i le)) ∙ a.so_far

-- ---- head by head

-- where no chain is, no blob is
pub no_blob : (base : Metas) (chains : ℕ → Option (List ℕ)) → AreChained base chains → (head : ℕ)
    → chains head ≡ None → base head ≡ None
no_blob base chains chained head none = by (base head) refl
  where
    by : (o : Option Meta) → base head ≡ o → base head ≡ None
    by None is = is
    by (Some m) is = let bad = sym (chained head m is) ∙ ap is_some none in absurd (cc bad)

-- the set has the clusters of the blobs so far
abbrev pub HasBeside : ℕ → Metas → ℕ → List Bool → Type 0
HasBeside end base head bits = (c : ℕ) → (is_in bits c ≡ true) ↔ IsMappedBeside end base head c

module _ (base : Metas) (head end : ℕ) (bits : List Bool) (has : HasBeside end base head bits) where
  further : (c : ℕ) → IsMappedBeside end base head c → IsMappedBeside (end + 1) base head c
  further c x = record {
    other = x.other;
    low = let lt = x.low in omega (arith, lt);
    apart = x.apart;
    meta = x.meta;
    there = x.there;
    among = x.among;
  }

  before : (c : ℕ) (x : IsMappedBeside (end + 1) base head c) → x.other ≢ end → IsMappedBeside end base head c
  before c x ne = record {
    other = x.other;
    low = let lt = x.low in elim (cases_lt x.other end) [
      | inl less ↦ less
      | inr ge ↦ absurd (ne (omega (arith, lt, ge)))
    ];
    apart = x.apart;
    meta = x.meta;
    there = x.there;
    among = x.among;
  }

  -- the blob at the head itself is left out, and so is a head without a blob
  pub beside_same : ((c : ℕ) (x : IsMappedBeside (end + 1) base head c) → x.other ≢ end)
      → HasBeside (end + 1) base head bits
  beside_same none c = (λ set. further c ((has c).0 set), λ x. (has c).1 (before c x (none c x)))

  pub beside_own : end ≡ head → HasBeside (end + 1) base head bits
  beside_own own = beside_same (λ c x e. x.apart (e ∙ own))

  pub beside_none : base end ≡ None → HasBeside (end + 1) base head bits
  beside_none none = beside_same (λ c x e. let bad = sym none ∙ ap base (sym e) ∙ x.there in cc bad)

  -- the clusters of the next are added
  pub beside_more : (m : Meta) → base end ≡ Some m → end ≢ head
      → ((c : ℕ) → is_among c (clusters_held m.map) ≡ true → c < length bits)
      → HasBeside (end + 1) base head (all_set bits (clusters_held m.map) true)
  beside_more m there ne low c =
      let with = set_with bits (clusters_held m.map) low c in (
        λ set. elim (with.0 set) [
          | inl was ↦ further c ((has c).0 was)
          | inr among ↦ record {
            other = end;
            low = omega arith;
            apart = ne;
            meta = m;
            there = there;
            among = among;
          }
        ],
        λ x. with.1 (elim (cases_eq x.other end) [
          | inl e ↦
              let one : x.meta ≡ m = let both = sym x.there ∙ ap base e ∙ there in cc both in
              inr (subst (λ (n : Meta). is_among c (clusters_held n.map) ≡ true) one x.among)
          | inr differs ↦ inl ((has c).1 (before c x differs))
        ]),
      )

  -- whatever is at the next head
  pub beside_next : end ≢ head → HaveRoom base (length bits) → (after : List Bool)
      → ((m : Meta) → base end ≡ Some m → after ≡ all_set bits (clusters_held m.map) true)
      → (base end ≡ None → after ≡ bits) → HasBeside (end + 1) base head after
  beside_next ne room after some none = by (base end) refl
    where
      by : (o : Option Meta) → base end ≡ o → HasBeside (end + 1) base head after
      by None is = subst (HasBeside (end + 1) base head) (sym (none is)) (beside_none is)
      by (Some m) is = subst (HasBeside (end + 1) base head) (sym (some m is))
          (beside_more m is ne (λ c among. room end m c is among))
