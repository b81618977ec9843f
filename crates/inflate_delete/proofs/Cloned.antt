-- The clones of a blob, head by head.
use Rattle.std.proofs.Common.{◌≡◌, ℕ, zero, suc, ◌+◌, ◌-◌, ◌^◌, ◌<◌, ◌≤◌, Bool, true, false, Option, Some, None, IsSome}
use Rattle.std.proofs.Common.{List, [], ◌∷◌, ◌++◌, if◌then◌else◌, refl, sym, ap, ◌∙◌, subst, inl, inr, arith}
use Rattle.std.specs.List.{All, filter, range_with_len}
use Rattle.std.specs.Option.{option_map_or}
use Rattle.std.specs.Ordering.{nat_cmp}
use Rattle.std.specs.FinMap as map
use Rattle.std.proofs.lemmas.Bool.{cases_Bool, cases_lt, false≢true}
use Rattle.std.proofs.lemmas.List.{append-nil, map-id}
use Rattle.std.proofs.lemmas.List.Elements.{All-cons, All-nil}
use Rattle.std.proofs.lemmas.List.FromFn.{filter_of_map_range_with_len_more}
use Rattle.volume_model.specs.Volumes.{is_given_head}
use Rattle.blob_meta.specs.declared.meta.Meta.{Meta}
use Rattle.blob_meta.specs.Heads.{HasNoKeyFrom, IsNextFrom}
use Rattle.blob_meta.specs.Parents.{parent_of}
use Rattle.blob_meta.proofs.HeadsInRange.{none_of}
use Rattle.inflate_delete.specs.Clones.{AreClones, clones_below, is_clone}

filter_more : (p : ℕ → Bool) (n : ℕ) → filter p (range_with_len 0 (n + 1))
    ≡ filter p (range_with_len 0 n) ++ (if p n then n ∷ [] else [])
filter_more p n =
    ap (filter p) (sym (map-id (range_with_len 0 (n + 1))))
    ∙ filter_of_map_range_with_len_more p (λ k. k) 0 n n (omega arith)
    ∙ ap (λ ks. filter p ks ++ (if p n then n ∷ [] else [])) (map-id (range_with_len 0 n))

filter_past : (p : ℕ → Bool) (m d : ℕ) → ((k : ℕ) → m ≤ k → k < m + d → p k ≡ false)
    → filter p (range_with_len 0 (m + d)) ≡ filter p (range_with_len 0 m)
filter_past p m zero none = let e : m + 0 ≡ m = omega arith in ap (λ k. filter p (range_with_len 0 k)) e
filter_past p m (suc d) none =
    let e : m + suc d ≡ (m + d) + 1 = omega arith in
    let last : p (m + d) ≡ false = none (m + d) (omega arith) (omega arith) in
    ap (λ k. filter p (range_with_len 0 k)) e ∙ filter_more p (m + d)
    ∙ ap (λ b. filter p (range_with_len 0 (m + d)) ++ (if b then (m + d) ∷ [] else [])) last
    ∙ append-nil (filter p (range_with_len 0 (m + d))) ∙ filter_past p m d (λ k le lt. none k le (omega arith))

-- numbers that don't pass
filter_same : (p : ℕ → Bool) (m n : ℕ) → m ≤ n → ((k : ℕ) → m ≤ k → k < n → p k ≡ false)
    → filter p (range_with_len 0 n) ≡ filter p (range_with_len 0 m)
filter_same p m n le none =
    let e : m + (n - m) ≡ n = omega arith in
    ap (λ k. filter p (range_with_len 0 k)) (sym e) ∙ filter_past p m (n - m) (λ k low lt. none k low (omega arith))

all_passing : {P : ℕ → Type 0} (p : ℕ → Bool) → ((k : ℕ) → p k ≡ true → P k) → (ks : List ℕ) → All P (filter p ks)
all_passing {P} p holds [] = All-nil P
all_passing {P} p holds (k ∷ ks) = elim (cases_Bool (p k)) [
  | inl passes ↦ rw passes (All-cons P k (filter p ks) (holds k passes) (all_passing p holds ks))
  | inr fails ↦ rw fails (all_passing p holds ks)
]

passing_some : (p : Meta → Bool) (o : Option Meta) → option_map_or p o false ≡ true → IsSome o
passing_some p None e = absurd (false≢true e)
passing_some p (Some m) e = refl

module _ (metas : map.FinMap nat_cmp Meta) (head : ℕ) where
  no_clone : (k : ℕ) → map.get metas k ≡ None → is_clone (map.get metas) head k ≡ false
  no_clone k none = ap (λ o. option_map_or (λ (m : Meta). is_given_head head (parent_of m)) o false) none

  -- up to the next head and it
  pub clones_through : (from next : ℕ) → IsNextFrom metas from next → clones_below (next + 1) (map.get metas) head
      ≡ clones_below from (map.get metas) head ++ (if is_clone (map.get metas) head next then next ∷ [] else [])
  clones_through from next is =
      filter_more (is_clone (map.get metas) head) next
      ∙ ap (λ ks. ks ++ (if is_clone (map.get metas) head next then next ∷ [] else []))
      (filter_same (is_clone (map.get metas) head) from next is.above
      (λ k low lt. no_clone k (is.none_between k low lt)))

  -- the same, as a loop gathers them
  pub clones_more : (from next : ℕ) (old new : List ℕ) → IsNextFrom metas from next
      → old ≡ clones_below from (map.get metas) head
      → new ≡ old ++ (if is_clone (map.get metas) head next then next ∷ [] else [])
      → new ≡ clones_below (next + 1) (map.get metas) head
  clones_more from next old new is old_is new_is =
      new_is ∙ ap (λ ks. ks ++ (if is_clone (map.get metas) head next then next ∷ [] else [])) old_is
      ∙ sym (clones_through from next is)

  -- behind the last head
  clones_all : (from : ℕ) (clones : List ℕ) → clones ≡ clones_below from (map.get metas) head
      → ((h : ℕ) → from ≤ h → h < 2 ^ 32 → map.get metas h ≡ None) → AreClones metas head clones
  clones_all from clones is past md_len few below = elim (cases_lt from md_len) [
    | inl lt ↦ filter_same (is_clone (map.get metas) head) from md_len (omega arith)
        (λ k low high. no_clone k (past k low (omega arith))) ∙ sym is
    | inr le ↦ sym (is ∙ filter_same (is_clone (map.get metas) head) md_len from le
        (λ k low high. no_clone k (none_of (map.get metas k) (λ there. let lt = below k there in omega arith))))
  ]

  -- behind the last head that there is
  pub clones_ended : (from : ℕ) (clones : List ℕ) → clones ≡ clones_below from (map.get metas) head
      → HasNoKeyFrom metas from → AreClones metas head clones
  clones_ended from clones is none = clones_all from clones is (λ h low high. none h low)

  -- behind the last one that there can be
  pub clones_full : (last : ℕ) (clones : List ℕ) → clones ≡ clones_below (last + 1) (map.get metas) head
      → last ≡ 2 ^ 32 - 1 → AreClones metas head clones
  clones_full last clones is full = clones_all (last + 1) clones is (λ h low high. absurd (omega arith))

  there_below : (n : ℕ) → All (λ k. IsSome (map.get metas k)) (clones_below n (map.get metas) head)
  there_below n = all_passing (is_clone (map.get metas) head) (λ k e. passing_some _ (map.get metas k) e)
      (range_with_len 0 n)

  -- each clone is there
  pub clones_there : (n : ℕ) (clones : List ℕ) → clones ≡ clones_below n (map.get metas) head
      → All (λ k. IsSome (map.get metas k)) clones
  clones_there n clones is = subst (All (λ k. IsSome (map.get metas k))) (sym is) (there_below n)
