-- The steps of resolving, put together: kept marks are lifted, and then removed blobs are taken out.
use Rattle.std.proofs.Common.{◌≡◌, ℕ, ◌≤◌, ◌^◌, ◌++◌, Bool, true, false, Option, Some, None, IsSome, List, [], ◌∷◌}
use Rattle.std.proofs.Common.{refl, sym, ap, ◌∙◌, inl, inr, arith}
use Rattle.std.specs.Prelude.{filter, map, is_some, not, if◌then◌else◌}
use Rattle.std.specs.List.{range_with_len}
use Rattle.std.specs.Option.{option_map, option_map_or}
use Rattle.std.specs.Ordering.{nat_cmp}
use Rattle.std.specs.FinMap.{FinMap, get}
use Rattle.std.proofs.lemmas.Bool.{cases_Bool, cases_lt, false≢true}
use Rattle.std.proofs.lemmas.List.{map-append}
use Rattle.blob_meta.specs.declared.meta.Meta.{Meta}
use Rattle.blob_meta.specs.declared.job.Replacement.{Replacement}
use Rattle.blob_meta.specs.Resolving.{resolved, without_marks}
use Rattle.blob_meta.specs.Repairs.{has_kept_mark, is_removed, removed, heads_where, repair_at, repairs, keeps}
use Rattle.blob_meta.specs.Repairs.{after, AreHeadsWhere, AreRepairs, HasHeadsBelow}
use Rattle.blob_meta.specs.SlotCounts.{HeadsFit}
use Rattle.blob_meta.proofs.Fates.{Fate, fate, removed_absent}
use Rattle.blob_meta.proofs.HeadsListed.{among, among_passing, among_failing}
use Rattle.blob_meta.proofs.RepairsInTurn.{repaired_from}

-- heads of 32 bits are below 2^32
heads_below : (metas : FinMap nat_cmp Meta) → HeadsFit metas → HasHeadsBelow (2 ^ 32) (get metas)
heads_below metas fits h there = elim (cases_lt h (2 ^ 32)) [
  | inl lt ↦ lt
  | inr le ↦ absurd (false≢true (sym (ap is_some (fits h le)) ∙ there))
]

-- functions that agree on what passes give the same of it
map_passing : (f g : ℕ → Replacement) (p : ℕ → Bool) (xs : List ℕ) → ((x : ℕ) → p x ≡ true → f x ≡ g x)
    → map f (filter p xs) ≡ map g (filter p xs)
map_passing f g p [] alike = refl
map_passing f g p (x ∷ xs) alike = elim (cases_Bool (p x)) [
  | inl passes ↦ rw passes (λ i. alike x passes i ∷ map_passing f g p xs alike i)
  | inr fails ↦ rw fails (map_passing f g p xs alike)
]

-- what the lifting of marks gives a head
abbrev pub lifted_of : (ℕ → Option Meta) → ℕ → Option Meta
lifted_of metas h = option_map without_marks (metas h)

-- the tests by what is kept
tests : (metas : ℕ → Option Meta) (h : ℕ) (k : Option Bool) → keeps metas h ≡ k
    → (has_kept_mark metas h ≡ option_map_or (λ (b : Bool). b) k false)
    × (is_removed metas h ≡ option_map_or not k false)
tests metas h k is = (ap (λ o. option_map_or (λ (b : Bool). b) o false) is, ap (λ o. option_map_or not o false) is)

module _ (metas : ℕ → Option Meta) (h : ℕ) where
  kept_lifted : has_kept_mark metas h ≡ true → lifted_of metas h ≡ resolved metas h
  kept_lifted is = by (fate metas h)
    where
      never : (k : Option Bool) → keeps metas h ≡ k → option_map_or (λ (b : Bool). b) k false ≡ false
          → lifted_of metas h ≡ resolved metas h
      never k keeps_is fails = absurd (false≢true (sym fails ∙ sym ((tests metas h k keeps_is).0) ∙ is))

      by : Fate metas h → lifted_of metas h ≡ resolved metas h
      by (inl x) = never None x.keeps_is refl
      by (inr (inl x)) = never None x.keeps_is refl
      by (inr (inr (inl x))) = ap (option_map without_marks) x.there ∙ sym x.gives
      by (inr (inr (inr x))) = never (Some false) x.keeps_is refl

  removed_gone : is_removed metas h ≡ true → None ≡ resolved metas h
  removed_gone is = by (fate metas h)
    where
      never : (k : Option Bool) → keeps metas h ≡ k → option_map_or not k false ≡ false → None ≡ resolved metas h
      never k keeps_is fails = absurd (false≢true (sym fails ∙ sym ((tests metas h k keeps_is).1) ∙ is))

      by : Fate metas h → None ≡ resolved metas h
      by (inl x) = never None x.keeps_is refl
      by (inr (inl x)) = never None x.keeps_is refl
      by (inr (inr (inl x))) = never (Some true) x.keeps_is refl
      by (inr (inr (inr x))) = sym x.gives

removed_there : (metas : ℕ → Option Meta) (h : ℕ) → is_removed metas h ≡ true → IsSome (metas h)
removed_there metas h is = by (metas h) refl
  where
    by : (o : Option Meta) → metas h ≡ o → IsSome (metas h)
    by None there = absurd (false≢true (sym (removed_absent metas h there) ∙ is))
    by (Some m) there = ap is_some there

module _ (metas : ℕ → Option Meta) (n : ℕ) (below : HasHeadsBelow n metas) (kept gone : List ℕ)
    (kept_are : kept ≡ heads_where n (has_kept_mark metas)) (gone_are : gone ≡ heads_where n (is_removed metas)) where
  -- the first list lifts the marks, the second erases
  pub steps_repair :
      map (λ h. record { head = h; new = lifted_of metas h }) kept ++ map (λ h. record { head = h; new = None }) gone
      ≡ repairs n metas
  steps_repair =
      (λ i. map (λ h. record { head = h; new = lifted_of metas h }) (kept_are i)
      ++ map (λ h. record { head = h; new = None }) (gone_are i))
      ∙ (λ i. map_passing (λ h. record { head = h; new = lifted_of metas h }) (repair_at metas) (has_kept_mark metas)
      (range_with_len 0 n) (λ h is. ap (λ o. record { head = h; new = o }) (kept_lifted metas h is)) i
      ++ map_passing (λ h. record { head = h; new = None }) (repair_at metas) (is_removed metas)
      (range_with_len 0 n) (λ h is. ap (λ o. record { head = h; new = o }) (removed_gone metas h is)) i)
      ∙ sym (map-append (repair_at metas) (heads_where n (has_kept_mark metas)) (heads_where n (is_removed metas)))

module _ (metas : FinMap nat_cmp Meta) (kept gone : List ℕ) (kept_are : AreHeadsWhere metas has_kept_mark kept)
    (gone_are : AreHeadsWhere metas is_removed gone) where
  -- the liftings of the kept marks, and then the erasures of the others, are the repairs
  pub repairs_in_steps : (none list all : List Replacement) → none ≡ []
      → list ≡ none ++ map (λ h. record { head = h; new = option_map without_marks (get metas h) }) kept
      → all ≡ list ++ map (λ h. record { head = h; new = None }) gone → AreRepairs metas all
  repairs_in_steps none list all none_is list_is all_is n few below =
      all_is ∙ ap (λ (l : List Replacement). l ++ map (λ h. record { head = h; new = None }) gone)
      (list_is ∙ ap (λ (l : List Replacement). l ++ map (λ h. record { head = h; new = lifted_of (get metas) h }) kept)
      none_is)
      ∙ steps_repair (get metas) n below kept gone (kept_are n few below) (gone_are n few below)

  module _ (n : ℕ) (few : n ≤ 2 ^ 32) (below : HasHeadsBelow n (get metas)) where
    among_gone : (h : ℕ) → among h gone ≡ is_removed (get metas) h
    among_gone h = ap (among h) (gone_are n few below) ∙ elim (cases_Bool (is_removed (get metas) h)) [
      | inl passes ↦
          among_passing n (is_removed (get metas)) h passes (below h (removed_there (get metas) h passes)) ∙ sym passes
      | inr fails ↦ among_failing n (is_removed (get metas)) h fails ∙ sym fails
    ]

    removed_below : (taken : FinMap nat_cmp Meta)
        → ((h : ℕ) → get taken h ≡ (if among h gone then get metas h else None))
        → (h : ℕ) → get taken h ≡ removed (get metas) h
    removed_below taken taken_is h = taken_is h ∙ ap (λ (b : Bool). if b then get metas h else None) (among_gone h)

    resolved_below : (left : FinMap nat_cmp Meta)
        → ((h : ℕ) → get left h ≡ (if among h gone then None else get metas h)) → (all : List Replacement)
        → AreRepairs metas all → (end : FinMap nat_cmp Meta) → ((h : ℕ) → get end h ≡ after (get left) all h)
        → (h : ℕ) → get end h ≡ resolved (get metas) h
    resolved_below left left_is all all_are end end_is h =
        end_is h ∙ ap (λ (l : List Replacement). after (get left) l h) (all_are n few below)
        ∙ repaired_from n (get metas) below (get left) (λ k none. left_is k
        ∙ ap (λ (b : Bool). if b then None else get metas k) (among_gone k ∙ (tests (get metas) k None none).1)) h

  -- what is taken out is what recovery removes,
  pub removed_in_steps : (taken : FinMap nat_cmp Meta)
      → ((h : ℕ) → get taken h ≡ (if among h gone then get metas h else None))
      → HeadsFit metas → (h : ℕ) → get taken h ≡ removed (get metas) h
  removed_in_steps taken taken_is fits = removed_below (2 ^ 32) (omega arith) (heads_below metas fits) taken taken_is

  -- and the repairs give what is resolved
  pub resolved_in_steps : (left : FinMap nat_cmp Meta)
      → ((h : ℕ) → get left h ≡ (if among h gone then None else get metas h)) → (all : List Replacement)
      → AreRepairs metas all → (end : FinMap nat_cmp Meta) → ((h : ℕ) → get end h ≡ after (get left) all h)
      → HeadsFit metas → (h : ℕ) → get end h ≡ resolved (get metas) h
  resolved_in_steps left left_is all all_are end end_is fits =
      resolved_below (2 ^ 32) (omega arith) (heads_below metas fits) left left_is all all_are end end_is
