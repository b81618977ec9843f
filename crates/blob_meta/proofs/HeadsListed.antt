-- Lists of heads: which heads they have, and what a loop over the heads of a map gathers.
use Rattle.std.proofs.Common.{◌≡◌, ℕ, zero, suc, ◌+◌, ◌-◌, ◌<◌, ◌≤◌, ◌==◌, Bool, true, false, None, ◌^◌}
use Rattle.std.proofs.Common.{List, [], ◌∷◌, ◌++◌, refl, sym, ap, ◌∙◌, inl, inr, arith, add-one}
use Rattle.std.specs.Prelude.{filter, take, if◌then◌else◌}
use Rattle.std.specs.List.{list_any, range_with_len}
use Rattle.std.specs.Ordering.{nat_cmp}
use Rattle.std.specs.FinMap as map
use Rattle.std.proofs.lemmas.Bool.{cases_Bool, cases_lt, eq-eqb, eqb-true, false≢true}
use Rattle.std.proofs.lemmas.List.{append-nil}
use Rattle.std.proofs.lemmas.List.Elements.{filter-append}
use Rattle.std.proofs.lemmas.Map.Views.{any-filter_same}
use Rattle.blob_meta.specs.declared.meta.Meta.{Meta}
use Rattle.blob_meta.specs.Heads.{IsNextFrom}
use Rattle.blob_meta.specs.Repairs.{heads_where, HasHeadsBelow}
use Rattle.blob_meta.specs.SlotCounts.{HeadsFit}
use Rattle.blob_meta.proofs.HeadsInRange.{none_of}

-- the head is in the list
abbrev pub among : ℕ → List ℕ → Bool
among h hs = list_any (λ x. h == x) hs

among_range : (h a n : ℕ) → a ≤ h → h < a + n → among h (range_with_len a n) ≡ true
among_range h a zero low high = absurd (omega arith)
among_range h a (suc n) low high = elim (cases_Bool (h == a)) [
  | inl same ↦ rw same refl
  | inr differs ↦ elim (cases_lt a h) [
    | inl lt ↦ rw differs (among_range h (a + 1) n (omega arith) (omega arith))
    | inr le ↦ let e : h ≡ a = omega arith in absurd (false≢true (sym differs ∙ eq-eqb h a e))
  ]
]

-- a head is among those that pass where it passes and is below the number
pub among_passing : (md_len : ℕ) (p : ℕ → Bool) (h : ℕ) → p h ≡ true → h < md_len
    → among h (heads_where md_len p) ≡ true
among_passing md_len p h passes below =
    any-filter_same (λ x. h == x) p true (λ x same. ap p (sym (eqb-true h x same)) ∙ passes) (range_with_len 0 md_len)
    ∙ among_range h 0 md_len (omega arith) (omega arith)

-- and one that fails is not
pub among_failing : (md_len : ℕ) (p : ℕ → Bool) (h : ℕ) → p h ≡ false → among h (heads_where md_len p) ≡ false
among_failing md_len p h fails =
    any-filter_same (λ x. h == x) p false (λ x same. ap p (sym (eqb-true h x same)) ∙ fails) (range_with_len 0 md_len)

-- of two lists, one after another, all of the first come before any of the second
pub first_before : (front back : List ℕ) (k c h : ℕ) → among c front ≡ false → among c (take k (front ++ back)) ≡ true
    → among h front ≡ true → among h (take k (front ++ back)) ≡ true
first_before [] back k c h out taken is = absurd (false≢true is)
first_before (a ∷ front) back zero c h out taken is = absurd (false≢true taken)
first_before (a ∷ front) back (suc k) c h out taken is = elim (cases_Bool (c == a)) [
  | inl same ↦ absurd (false≢true (sym (rw same at out)))
  | inr differs ↦ elim (cases_Bool (h == a)) [
    | inl here ↦ rw here refl
    | inr behind ↦ rw behind
        (first_before front back k c h (rw differs at out) (rw differs at taken) (rw behind at is))
  ]
]

-- ---- heads that pass

range_more : (a n : ℕ) → range_with_len a (suc n) ≡ range_with_len a n ++ (a + n) ∷ []
range_more a zero = let e : a ≡ a + 0 = omega arith in ap (λ k. k ∷ []) e
range_more a (suc n) = let e : (a + 1) + n ≡ a + suc n = omega arith in
    ap (λ ks. a ∷ ks) (range_more (a + 1) n ∙ ap (λ k. range_with_len (a + 1) n ++ k ∷ []) e)

-- one head more
where_more : (p : ℕ → Bool) (n : ℕ) → heads_where (n + 1) p ≡ heads_where n p ++ (if p n then n ∷ [] else [])
where_more p n =
    let e : 0 + n ≡ n = omega arith in
    ap (λ k. heads_where k p) (add-one n) ∙ ap (filter p) (range_more 0 n ∙ ap (λ k. range_with_len 0 n ++ k ∷ []) e)
    ∙ filter-append p (range_with_len 0 n) (n ∷ [])

where_past : (p : ℕ → Bool) (m d : ℕ) → ((k : ℕ) → m ≤ k → k < m + d → p k ≡ false)
    → heads_where (m + d) p ≡ heads_where m p
where_past p m zero none = let e : m + 0 ≡ m = omega arith in ap (λ n. heads_where n p) e
where_past p m (suc d) none =
    let e : m + suc d ≡ (m + d) + 1 = omega arith in
    let last = none (m + d) (omega arith) (omega arith) in
    ap (λ n. heads_where n p) e ∙ where_more p (m + d)
    ∙ ap (λ (b : Bool). heads_where (m + d) p ++ (if b then (m + d) ∷ [] else [])) last
    ∙ append-nil (heads_where (m + d) p) ∙ where_past p m d (λ k le lt. none k le (omega arith))

-- where none between passes
where_same : (p : ℕ → Bool) (m n : ℕ) → m ≤ n → ((k : ℕ) → m ≤ k → k < n → p k ≡ false)
    → heads_where n p ≡ heads_where m p
where_same p m n le none =
    let e : m + (n - m) ≡ n = omega arith in
    ap (λ k. heads_where k p) (sym e) ∙ where_past p m (n - m) (λ k low lt. none k low (omega arith))

-- where none passes there is none
pub where_none : (p : ℕ → Bool) (n : ℕ) → ((k : ℕ) → p k ≡ false) → heads_where n p ≡ []
where_none p n none = where_same p 0 n (omega arith) (λ k low lt. none k)

module _ (metas : map.FinMap nat_cmp Meta) (p : ℕ → Bool)
    (absent : (h : ℕ) → map.get metas h ≡ None → p h ≡ false) where
  -- up to the next head and it
  pub where_through : (from head : ℕ) → IsNextFrom metas from head
      → heads_where (head + 1) p ≡ heads_where from p ++ (if p head then head ∷ [] else [])
  where_through from head next =
      where_more p head ∙ ap (λ hs. hs ++ (if p head then head ∷ [] else []))
      (where_same p from head next.above (λ k low lt. absent k (next.none_between k low lt)))

  -- behind the last head
  pub where_all : (from : ℕ) → ((h : ℕ) → from ≤ h → h < 2 ^ 32 → map.get metas h ≡ None) → (md_len : ℕ)
      → md_len ≤ 2 ^ 32 → HasHeadsBelow md_len (map.get metas) → heads_where from p ≡ heads_where md_len p
  where_all from past md_len few below = elim (cases_lt from md_len) [
    | inl lt ↦ sym (where_same p from md_len (omega arith)
        (λ k low high. absent k (past k low (omega arith))))
    | inr le ↦ where_same p md_len from le
        (λ k low high. absent k (none_of (map.get metas k) (λ there. let lt = below k there in omega arith)))
  ]

  -- a list that has the heads up to this one, and then the next where it passes
  pub gathered : (from head : ℕ) (old new : List ℕ) → IsNextFrom metas from head → old ≡ heads_where from p
      → new ≡ old ++ (if p head then head ∷ [] else []) → new ≡ heads_where (head + 1) p
  gathered from head old new next old_is new_is =
      new_is ∙ ap (λ hs. hs ++ (if p head then head ∷ [] else [])) old_is ∙ sym (where_through from head next)

-- heads below a number of 32 bits are of 32 bits
pub heads_fit : (metas : map.FinMap nat_cmp Meta) (md_len : ℕ) → md_len ≤ 2 ^ 32 → HasHeadsBelow md_len (map.get metas)
    → HeadsFit metas
heads_fit metas md_len few below h le =
    none_of (map.get metas h) (λ there. let lt = below h there in omega arith)
