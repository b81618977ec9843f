-- Slots that have a cluster, and how many they are.
use Rattle.std.proofs.Common.{◌≡◌, ◌≢◌, ℕ, zero, suc, ◌+◌, ◌<◌, ◌≤◌, cond, List, [], ◌∷◌, Option, Some, None, refl, sym}
use Rattle.std.proofs.Common.{ap, subst, ◌∙◌, inl, inr, arith}
use Rattle.std.specs.Prelude.{slice_get}
use Rattle.std.specs.Option.{option_and_then}
use Rattle.std.proofs.lemmas.Bool.{cases_eq, cases_lt, cases_order, eq-eqb, ne_eqb}
use Rattle.std.proofs.lemmas.List.Sums.{sum_by-cons}
use Rattle.super_block.specs.declared.page.Super.{Super}
use Rattle.super_block.specs.Numbers.{clusters_of, fixed_clusters_of}
use Rattle.blob_meta.specs.declared.meta.Meta.{Meta}
use Rattle.blob_meta.specs.Parents.{slot}
use Rattle.store_model.specs.Maps.{Metas}
use Rattle.store_model.specs.Places.{IsMapped}
use Rattle.store_model.specs.Steady.{IsStored}
use Rattle.store_model.proofs.Inside.{inside_slot}
use Rattle.unclean_load.specs.Sharing.{has_cluster, copies_in, copies, AreAllInside}
use Rattle.unclean_load.proofs.Counts.{copies_none, copies_some, copies_grow}

-- ---- one map

-- the slot at a place of a map has the cluster
abbrev HasAt : List (Option ℕ) → ℕ → ℕ → Type 0
HasAt slots i c = slice_get slots i ≡ Some (Some c)

first_slot : (c : ℕ) (s : Option ℕ) (slots : List (Option ℕ))
    → copies_in c (s ∷ slots) ≡ cond (has_cluster c s) 1 0 + copies_in c slots
first_slot c s slots = sum_by-cons _ s slots

first_has : (c : ℕ) (slots : List (Option ℕ)) → copies_in c (Some c ∷ slots) ≡ 1 + copies_in c slots
first_has c slots = first_slot c (Some c) slots ∙ (rw (eq-eqb c c refl) refl)

first_other : (c k : ℕ) (slots : List (Option ℕ)) → k ≢ c → copies_in c (Some k ∷ slots) ≡ copies_in c slots
first_other c k slots ne = first_slot c (Some k) slots ∙ (rw (ne_eqb k c ne) (omega arith))

first_empty : (c : ℕ) (slots : List (Option ℕ)) → copies_in c (None ∷ slots) ≡ copies_in c slots
first_empty c slots = let x = first_slot c None slots in omega (arith, x)

later_has : (c : ℕ) (s : Option ℕ) (slots : List (Option ℕ)) → copies_in c slots ≤ copies_in c (s ∷ slots)
later_has c s slots = let x = first_slot c s slots in omega (arith, x)

-- a cluster that stands in a slot has a copy
pub has_copy : (c : ℕ) (slots : List (Option ℕ)) (i : ℕ) → HasAt slots i c → 0 < copies_in c slots
has_copy c [] i at = absurd (cc at)
has_copy c (s ∷ slots) zero at =
    let e : s ≡ Some c =
    cc at in let x = ap (λ (o : Option ℕ). copies_in c (o ∷ slots)) e ∙ first_has c slots in omega (arith, x)
has_copy c (s ∷ slots) (suc i) at = let x = has_copy c slots i at in let y = later_has c s slots in omega (arith, x, y)

-- a cluster with a copy stands in a slot
pub find_copy : (c : ℕ) (slots : List (Option ℕ)) → 0 < copies_in c slots → (i : ℕ) × HasAt slots i c
find_copy c [] some = absurd (omega (arith, some))
find_copy c (None ∷ slots) some =
    let x = first_empty c slots in let y = find_copy c slots (omega (arith, some, x)) in (suc y.0, y.1)
find_copy c (Some k ∷ slots) some = elim (cases_eq k c) [
  | inl e ↦ (zero, ap (λ (n : ℕ). Some (Some n)) e)
  | inr ne ↦ let x = first_other c k slots ne in let y = find_copy c slots (omega (arith, some, x)) in (suc y.0, y.1)
]

two_copies : (c : ℕ) (slots : List (Option ℕ)) (i j : ℕ) → i ≢ j → HasAt slots i c → HasAt slots j c
    → 2 ≤ copies_in c slots
two_copies c [] i j ne a b = absurd (cc a)
two_copies c (s ∷ slots) zero zero ne a b = absurd (ne refl)
two_copies c (s ∷ slots) zero (suc j) ne a b =
    let e : s ≡ Some c =
    cc a in let x =
    ap (λ (o : Option ℕ). copies_in c (o ∷ slots)) e ∙ first_has c slots in let y =
    has_copy c slots j b in omega (arith, x, y)
two_copies c (s ∷ slots) (suc i) zero ne a b =
    let e : s ≡ Some c =
    cc b in let x =
    ap (λ (o : Option ℕ). copies_in c (o ∷ slots)) e ∙ first_has c slots in let y =
    has_copy c slots i a in omega (arith, x, y)
two_copies c (s ∷ slots) (suc i) (suc j) ne a b =
    let x = two_copies c slots i j (λ e. ne (ap suc e)) a b in let y = later_has c s slots in omega (arith, x, y)

-- two slots of one map
record AtTwo (slots : List (Option ℕ)) (c : ℕ) : Type 0 where
  one : ℕ
  two : ℕ
  differ : one ≢ two
  at_one : HasAt slots one c
  at_two : HasAt slots two c

find_two : (c : ℕ) (slots : List (Option ℕ)) → 2 ≤ copies_in c slots → AtTwo slots c
find_two c [] some = absurd (omega (arith, some))
find_two c (None ∷ slots) some =
    let x =
    first_empty c slots in let y =
    find_two c slots (omega (arith, some, x)) in
    record { one = suc y.one; two = suc y.two; differ = λ e. y.differ (cc e); at_one = y.at_one; at_two = y.at_two }
find_two c (Some k ∷ slots) some = elim (cases_eq k c) [
  | inl e ↦
      let x = ap (λ (n : ℕ). copies_in c (Some n ∷ slots)) e ∙ first_has c slots in
      let y = find_copy c slots (omega (arith, some, x)) in
      record {
        one = zero;
        two = suc y.0;
        differ = λ d. absurd (cc d);
        at_one = ap
            (λ (n : ℕ). Some (Some n)) e;
        at_two = y.1;
      }
  | inr ne ↦
      let x =
      first_other c k slots ne in let y =
      find_two c slots (omega (arith, some, x)) in
      record {
        one = suc y.one;
        two = suc y.two;
        differ = λ e. y.differ
            (cc e);
        at_one = y.at_one;
        at_two = y.at_two;
      }
]

-- ---- slots of metadata

in_map : (m : Meta) (i c : ℕ) → slot m i ≡ Some c → HasAt m.map i c
in_map m i c at = filled (slice_get m.map i) at
  where
    filled : (o : Option (Option ℕ)) → option_and_then (λ s. s) o ≡ Some c → o ≡ Some (Some c)
    filled None at = absurd (cc at)
    filled (Some o) at = ap (λ x. Some x) at

in_slot : (m : Meta) (i c : ℕ) → HasAt m.map i c → slot m i ≡ Some c
in_slot m i c at = rw at refl

-- the clusters of stored blobs are inside of the device
pub all_inside : (s : Super) (metas : Metas) → ((head : ℕ) (m : Meta) → metas head ≡ Some m → IsStored s head m)
    → AreAllInside s metas
all_inside s metas all head m there c some =
    let x = find_copy c m.map some in
    let y =
    inside_slot (fixed_clusters_of s) (clusters_of s) m x.0 c (all head m there).faultless
    (in_slot m x.0 c x.1) in
    (y.behind, y.below)

-- ---- the slots of all heads below a place

module _ (metas : Metas) (c : ℕ) where
  map_copy : (head n : ℕ) (m : Meta) → head < n → metas head ≡ Some m
      → copies head metas c + copies_in c m.map ≤ copies n metas c
  map_copy head n m lt there =
      let x =
      copies_some metas c head m there in let y =
      copies_grow metas c (head + 1) n (omega (arith, lt)) in omega (arith, x, y)

  -- a cluster of some map has a copy
  pub mapped_copy : (n : ℕ) → ((head : ℕ) (m : Meta) → metas head ≡ Some m → head < n) → IsMapped metas c
      → 0 < copies n metas c
  mapped_copy n low x =
      let a =
      map_copy x.head n x.meta (low x.head x.meta x.there) x.there in let b =
      has_copy c x.meta.map x.place (in_map x.meta x.place c x.in_slot) in omega (arith, a, b)

  -- a slot of a head below a place
  pub record MappedBelow (n : ℕ) : Type 0 where
    pub mapped : IsMapped metas c
    pub low : mapped.head < n

  here_or_before : (n : ℕ) (o : Option Meta) → metas n ≡ o → 0 < copies (n + 1) metas c
      → (0 < copies n metas c → MappedBelow n) → MappedBelow (n + 1)
  here_or_before n None there some before =
      let x = copies_none metas c n there in
      let y = before (omega (arith, some, x)) in
      record { mapped = y.mapped; low = let z = y.low in omega (arith, z) }
  here_or_before n (Some m) there some before = elim (cases_lt 0 (copies_in c m.map)) [
    | inl here ↦
        let x =
        find_copy c m.map here in
        record {
          mapped =
              record { head = n; meta = m; there = there; place = x.0; in_slot = in_slot m x.0 c x.1 };
          low = omega arith;
        }
    | inr none ↦
        let x = copies_some metas c n m there in
        let y = before (omega (arith, some, x, none)) in
        record { mapped = y.mapped; low = let z = y.low in omega (arith, z) }
  ]

  -- a cluster with a copy is one of some map
  pub find_mapped : (n : ℕ) → 0 < copies n metas c → MappedBelow n
  find_mapped zero some = absurd (omega (arith, some))
  find_mapped (suc n) some =
      let next : suc n ≡ n + 1 = omega arith in
      subst MappedBelow (sym next)
      (here_or_before n (metas n) refl (subst (λ (k : ℕ). 0 < copies k metas c) next some) (find_mapped n))

  -- ---- one slot at most

  -- two slots are one
  abbrev pub OneSlot : Type 0
  OneSlot =
      (h k i j : ℕ) (m n : Meta) → metas h ≡ Some m → metas k ≡ Some n → slot m i ≡ Some c → slot n j ≡ Some c → (h ≡ k)
      × (i ≡ j)

  -- a cluster with one copy stands in one slot
  pub one_slot : (end : ℕ) → ((head : ℕ) (m : Meta) → metas head ≡ Some m → head < end) → copies end metas c ≤ 1
      → OneSlot
  one_slot end low most h k i j m n a b x y = elim (cases_order h k) [
    | inl e ↦ elim (cases_eq i j) [
      | inl f ↦ (e, f)
      | inr ne ↦
          let same : m ≡ n = let z = sym a ∙ ap metas e ∙ b in cc z in
          let two =
          two_copies c m.map i j ne (in_map m i c x)
          (subst (λ (o : Meta). HasAt o.map j c) (sym same) (in_map n j c y)) in
          let all = map_copy h end m (low h m a) a in
          absurd (omega (arith, two, all, most))
    ]
    | inr (inl lt) ↦
        let p =
        map_copy h k m lt a in let q =
        map_copy k end n (low k n b) b in let u =
        has_copy c m.map i (in_map m i c x) in let v =
        has_copy c n.map j (in_map n j c y) in absurd (omega (arith, p, q, u, v, most))
    | inr (inr gt) ↦
        let p =
        map_copy k h n gt b in let q =
        map_copy h end m (low h m a) a in let u =
        has_copy c m.map i (in_map m i c x) in let v =
        has_copy c n.map j (in_map n j c y) in absurd (omega (arith, p, q, u, v, most))
  ]

  one_more : OneSlot → (n : ℕ) (o : Option Meta) → metas n ≡ o → copies n metas c ≤ 1 → copies (n + 1) metas c ≤ 1
  one_more one n None there most = let x = copies_none metas c n there in omega (arith, x, most)
  one_more one n (Some m) there most =
      let x = copies_some metas c n m there in
      elim (cases_lt (copies_in c m.map) 2) [
        | inl few ↦ elim (cases_lt 0 (copies_in c m.map)) [
          | inl here ↦ elim (cases_lt 0 (copies n metas c)) [
            | inl before ↦
                let p = find_copy c m.map here in
                let q = find_mapped n before in
                let e =
                (one q.mapped.head n q.mapped.place p.0 q.mapped.meta m q.mapped.there there q.mapped.in_slot
                (in_slot m p.0 c p.1)).0 in
                let low = q.low in
                absurd (omega (arith, e, low))
            | inr none ↦ omega (arith, x, few, none)
          ]
          | inr none ↦ omega (arith, x, none, most)
        ]
        | inr many ↦
            let two = find_two c m.map many in
            absurd (two.differ
            (one n n two.one two.two m m there there (in_slot m two.one c two.at_one)
            (in_slot m two.two c two.at_two)).1)
      ]

  -- a cluster that stands in one slot has one copy
  pub one_copy : OneSlot → (n : ℕ) → copies n metas c ≤ 1
  one_copy one zero = omega arith
  one_copy one (suc n) =
      let next : suc n ≡ n + 1 =
      omega arith in subst (λ (k : ℕ). copies k metas c ≤ 1) (sym next) (one_more one n (metas n) refl (one_copy one n))
