-- The repair that is due: that of the least marked blob that is kept, or else that of the least that is removed.
use Rattle.std.proofs.Common.{◌≡◌, ℕ, zero, suc, ◌+◌, ◌<◌, ◌≤◌, Bool, true, false, Option, Some, None, List, [], ◌∷◌}
use Rattle.std.proofs.Common.{◌++◌, refl, sym, ap, ◌∙◌, subst, inl, inr, arith}
use Rattle.std.specs.Prelude.{filter, is_some, not, IsSome}
use Rattle.std.specs.Prelude.{map as map_list}
use Rattle.std.specs.List.{range_with_len}
use Rattle.std.specs.Option.{option_map, option_map_or, option_or}
use Rattle.std.specs.Ordering.{nat_cmp}
use Rattle.std.specs.FinMap as map
use Rattle.std.proofs.lemmas.Bool.{both_ways, cases_lt}
use Rattle.blob_meta.specs.declared.meta.Meta.{Meta}
use Rattle.blob_meta.specs.Heads.{IsNextFrom}
use Rattle.blob_meta.specs.Resolving.{mark_of, resolved}
use Rattle.blob_meta.specs.Repairs.{has_kept_mark, heads_where, is_removed, keeps, repair_at, repairs, HasHeadsBelow}
use Rattle.blob_meta.proofs.Fates.{fate, kept_absent, Fate}
use Rattle.blob_meta.proofs.HeadsListed.{where_none}
use Rattle.blob_meta.proofs.ResolvedBlobs.{no_marks}
use Rattle.store_model.specs.Maps.{Metas}
use Rattle.running_store.specs.StoreView.{base_of, AreResolved}
use Rattle.job_begins.specs.Repairs.{IsDue}

-- no blob below a place is kept aside and in memory
abbrev pub AreNoneKept : map.FinMap nat_cmp Meta → map.FinMap nat_cmp Meta → ℕ → Type 0
AreNoneKept metas marked end = (h : ℕ) → h < end → IsSome (map.get marked h) → map.get metas h ≡ None

-- none is below the first that is kept aside,
pub none_before : (metas marked : map.FinMap nat_cmp Meta) (first : ℕ) → IsNextFrom marked 0 first
    → AreNoneKept metas marked first
none_before metas marked first x h low some =
    absurd (both_ways (is_some (map.get marked h)) (ap is_some (x.none_between h (omega arith) low)) some)

-- nor is the next, where it isn't both
pub none_more : (metas marked : map.FinMap nat_cmp Meta) (end : ℕ) → AreNoneKept metas marked end
    → (IsSome (map.get marked end) → IsSome (map.get metas end) → ⊥) → AreNoneKept metas marked (end + 1)
none_more metas marked end none not_both h low some = elim (cases_lt h end) [
  | inl lt ↦ none h lt some
  | inr ge ↦
      let e : h ≡ end = omega (arith, low, ge) in
      by (map.get metas h) refl e
]
  where
    by : (o : Option Meta) → map.get metas h ≡ o → h ≡ end → map.get metas h ≡ None
    by None is e = is
    by (Some m) is e = absurd (not_both (subst (λ (k : ℕ). IsSome (map.get marked k)) e some)
        (subst (λ (k : ℕ). IsSome (map.get metas k)) e (ap is_some is)))

-- ---- the first of the heads that pass

first_from : (test : ℕ → Bool) (k n a : ℕ) → a ≤ k → k < a + n → test k ≡ true
    → ((h : ℕ) → a ≤ h → h < k → test h ≡ false)
    → (rest : List ℕ) × (filter test (range_with_len a n) ≡ k ∷ rest)
first_from test k zero a low high passes none = absurd (omega (arith, low, high))
first_from test k (suc n) a low high passes none = elim (cases_lt a k) [
  | inl lt ↦
      let x = first_from test k n (a + 1) (omega (arith, lt)) (omega (arith, high)) passes
      (λ h le below. none h (omega (arith, le)) below) in
      (x.0, rw (none a (omega arith) lt) (x.1))
  | inr ge ↦
      let e : a ≡ k = omega (arith, low, ge) in
      let rest = filter test (range_with_len (a + 1) n) in
      (rest, rw (ap test e ∙ passes) (ap (λ y. y ∷ rest) e))
]

first_where : (n : ℕ) (test : ℕ → Bool) (k : ℕ) → k < n → test k ≡ true → ((h : ℕ) → h < k → test h ≡ false)
    → (rest : List ℕ) × (heads_where n test ≡ k ∷ rest)
first_where n test k low passes none =
    first_from test k n 0 (omega arith) (omega (arith, low)) passes (λ h le lt. none h lt)

module _ (metas marked : map.FinMap nat_cmp Meta) (are : AreResolved metas marked) where
  abbrev base : Metas
  base = base_of metas marked

  resolves_at : (h : ℕ) → resolved base h ≡ map.get metas h
  resolves_at h = ap (λ (f : Metas). f h) are.resolves

  -- a blob that is kept aside is kept where the store has it in memory
  pub keeps_seen : (h : ℕ)
      → keeps base h ≡ option_map (λ (m : Meta). is_some (map.get metas h)) (map.get marked h)
  keeps_seen h = by (map.get marked h) (map.get metas h) refl refl (fate base h)
    where
      base_is : (o : Option Meta) → map.get marked h ≡ o → base h ≡ option_or o (map.get metas h)
      base_is o is = ap (λ (x : Option Meta). option_or x (map.get metas h)) is

      by : (o k : Option Meta) → map.get marked h ≡ o → map.get metas h ≡ k → Fate base h
          → keeps base h ≡ option_map (λ (m : Meta). is_some (map.get metas h)) (map.get marked h)
      by None k is there (inl x) = x.keeps_is ∙ sym (ap (option_map (λ (m : Meta). is_some (map.get metas h))) is)
      by None k is there (inr (inl x)) =
          x.keeps_is ∙ sym (ap (option_map (λ (m : Meta). is_some (map.get metas h))) is)
      by None k is there (inr (inr (inl x))) =
          let here : resolved base h ≡ Some x.blob = resolves_at h ∙ sym (base_is None is) ∙ x.there in
          let neither = no_marks base h x.blob here in
          absurd (let bad : mark_of x.blob ≡ None = rw (neither.0, neither.1) refl in cc (bad, x.marked))
      by None k is there (inr (inr (inr x))) =
          absurd (let bad = sym x.gives ∙ resolves_at h ∙ sym (base_is None is) ∙ x.there in cc bad)
      by (Some m) k is there (inl x) = absurd (let bad = sym (base_is (Some m) is) ∙ x.there in cc bad)
      by (Some m) k is there (inr (inl x)) =
          let same : Some m ≡ Some x.blob = sym (base_is (Some m) is) ∙ x.there in
          let e : m ≡ x.blob = cc same in
          absurd (are.marks h m is (ap mark_of e ∙ x.unmarked))
      by (Some m) (Some n) is there (inr (inr (inl x))) =
          x.keeps_is ∙ sym (ap (option_map (λ (m : Meta). is_some (map.get metas h))) is
          ∙ ap (λ (o : Option Meta). Some (is_some o)) there)
      by (Some m) None is there (inr (inr (inl x))) =
          absurd (let bad = sym x.gives ∙ resolves_at h ∙ there in cc bad)
      by (Some m) (Some n) is there (inr (inr (inr x))) =
          absurd (let bad = sym x.gives ∙ resolves_at h ∙ there in cc bad)
      by (Some m) None is there (inr (inr (inr x))) =
          x.keeps_is ∙ sym (ap (option_map (λ (m : Meta). is_some (map.get metas h))) is
          ∙ ap (λ (o : Option Meta). Some (is_some o)) there)

  abbrev seen_as : ℕ → Option Bool
  seen_as h = option_map (λ (m : Meta). is_some (map.get metas h)) (map.get marked h)

  kept_test : (h : ℕ) (o : Option Bool) → seen_as h ≡ o → has_kept_mark base h ≡ option_map_or (λ (k : Bool). k) o false
  kept_test h o is = ap (λ (x : Option Bool). option_map_or (λ (k : Bool). k) x false) (keeps_seen h ∙ is)

  removed_test : (h : ℕ) (o : Option Bool) → seen_as h ≡ o → is_removed base h ≡ option_map_or not o false
  removed_test h o is = ap (λ (x : Option Bool). option_map_or not x false) (keeps_seen h ∙ is)

  module _ (md_len : ℕ) where
    not_kept : (end h : ℕ) → AreNoneKept metas marked end → h < end → has_kept_mark base h ≡ false
    not_kept end h none low = by (map.get marked h) refl
      where
        by : (o : Option Meta) → map.get marked h ≡ o → has_kept_mark base h ≡ false
        by None is = kept_test h None (ap (option_map (λ (m : Meta). is_some (map.get metas h))) is)
        by (Some m) is = kept_test h (Some false) (ap (option_map (λ (m : Meta). is_some (map.get metas h))) is
            ∙ ap (λ (o : Option Meta). Some (is_some o)) (none h low (ap is_some is)))

    pub due_kept : (h : ℕ) → h < md_len → is_some (map.get marked h) ≡ true → is_some (map.get metas h) ≡ true
        → AreNoneKept metas marked h → IsDue md_len base h
    due_kept h low some there none = by (map.get marked h) refl some
      where
        by : (o : Option Meta) → map.get marked h ≡ o → is_some o ≡ true → IsDue md_len base h
        by None is bad = absurd (cc bad)
        by (Some m) is there_too =
            let passes : has_kept_mark base h ≡ true =
            kept_test h (Some true) (ap (option_map (λ (m : Meta). is_some (map.get metas h))) is
            ∙ ap (λ (b : Bool). Some b) there) in
            let x = first_where md_len (has_kept_mark base) h low passes (λ k lt. not_kept h k none lt) in (
              map_list (repair_at base) (x.0 ++ heads_where md_len (is_removed base)),
              ap (λ hs. map_list (repair_at base) (hs ++ heads_where md_len (is_removed base))) x.1,
            )

    module _ (below : HasHeadsBelow md_len base) (none : AreNoneKept metas marked md_len) where
      no_kept : heads_where md_len (has_kept_mark base) ≡ []
      no_kept = where_none (has_kept_mark base) md_len (λ h. elim (cases_lt h md_len) [
        | inl lt ↦ not_kept md_len h none lt
        | inr ge ↦ by h (base h) refl ge
      ])
        where
          by : (h : ℕ) (o : Option Meta) → base h ≡ o → md_len ≤ h → has_kept_mark base h ≡ false
          by h None is ge = kept_absent base h is
          by h (Some m) is ge = absurd (let lt = below h (ap is_some is) in omega (arith, lt, ge))

      pub due_removed : (h : ℕ) → h < md_len → is_some (map.get marked h) ≡ true
          → ((k : ℕ) → k < h → map.get marked k ≡ None) → IsDue md_len base h
      due_removed h low some first = by (map.get marked h) refl some
        where
          by : (o : Option Meta) → map.get marked h ≡ o → is_some o ≡ true → IsDue md_len base h
          by None is bad = absurd (cc bad)
          by (Some m) is there_too =
              let passes : is_removed base h ≡ true =
              removed_test h (Some false) (ap (option_map (λ (m : Meta). is_some (map.get metas h))) is
              ∙ ap (λ (o : Option Meta). Some (is_some o)) (none h low some)) in
              let x = first_where md_len (is_removed base) h low passes
              (λ k lt. removed_test k None
              (ap (option_map (λ (m : Meta). is_some (map.get metas k))) (first k lt))) in (
                map_list (repair_at base) x.0,
                ap (λ hs. map_list (repair_at base) (hs ++ heads_where md_len (is_removed base))) no_kept
                    ∙ ap (map_list (repair_at base)) x.1,
              )

    pub none_due : ((h : ℕ) → map.get marked h ≡ None) → repairs md_len base ≡ []
    none_due none =
        ap (λ hs. map_list (repair_at base) (hs ++ heads_where md_len (is_removed base)))
        (where_none (has_kept_mark base) md_len
        (λ h. kept_test h None (ap (option_map (λ (m : Meta). is_some (map.get metas h))) (none h))))
        ∙ ap (map_list (repair_at base)) (where_none (is_removed base) md_len
        (λ h. removed_test h None (ap (option_map (λ (m : Meta). is_some (map.get metas h))) (none h))))

-- a blob that is kept aside is there
pub marked_there : (metas marked : map.FinMap nat_cmp Meta) (h : ℕ) → IsSome (map.get marked h)
    → IsSome (base_of metas marked h)
marked_there metas marked h some = by (map.get marked h) some
  where
    by : (o : Option Meta) → IsSome o → IsSome (option_or o (map.get metas h))
    by None bad = absurd (cc bad)
    by (Some m) there = refl
