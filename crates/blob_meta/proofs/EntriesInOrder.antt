-- Entries in the order of their heads: where a head stands among them, and what an edit there makes of them.
use Rattle.std.proofs.Common.{◌≡◌, ℕ, zero, suc, ◌-◌, ◌<◌, ◌≤◌, true, List, [], ◌∷◌, length, get_or, set}
use Rattle.std.proofs.Common.{Some, None, refl, sym, ap, arith, Result, Ok, Err}
use Rattle.std.specs.Prelude.{All, AllPairs, MatchResult}
use Rattle.std.specs.List.{HoldsAt, insert}
use Rattle.std.specs.List.Sorted.{IsBinarySearchResult, IsNonDecreasingBy, IsPartitionPoint}
use Rattle.std.specs.Ordering.{nat_cmp, ordering_index}
use Rattle.std.specs.FinMap as map
use Rattle.std.specs.FinMap.Entries.{below_all}
use Rattle.std.proofs.lemmas.Cmp.{ranked}
use Rattle.std.proofs.lemmas.Bool.Decides.{nat_tests}
use Rattle.std.proofs.lemmas.List.Kept.{AllPairs-cons}
use Rattle.std.proofs.lemmas.List.Elements.{All-cons, All-nil}
use Rattle.blob_meta.specs.Heads.{IsInOrder}

-- an entry that stands at this place has the head
abbrev pub HasHead : {V : Type 0} → ℕ → ℕ × V → Type 0
HasHead head e = e.0 ≡ head

-- the entries before the place have lower heads, and the others higher ones
abbrev pub IsGap : {V : Type 0} → List (ℕ × V) → ℕ → ℕ → Type 0
IsGap es head place = IsPartitionPoint (λ e. e.0 < head) (λ e. head < e.0) es place

-- the head is below those of the entries
above : {V : Type 0} (head : ℕ) (es : List (ℕ × V)) → below_all nat_cmp head es ≡ true → All (λ e. head < e.0) es
above head [] low = All-nil (λ e. head < e.0)
above head (e ∷ es) low =
    All-cons (λ e. head < e.0) e es (grind (arith, nat_tests)) (above head es (grind (arith, nat_tests)))

-- the heads rise
pub rises : {V : Type 0} (es : List (ℕ × V)) → IsInOrder es → AllPairs (λ a b. a.0 < b.0) es
rises [] ok = λ i j d lt within. absurd (omega arith)
rises (e ∷ es) ok = AllPairs-cons (λ a b. a.0 < b.0) e es (above e.0 es (grind arith)) (rises es (grind arith))

-- what a binary search by the heads finds
pub searched : {V : Type 0} (es : List (ℕ × V)) (head : ℕ) (r : Result ℕ ℕ) → IsInOrder es
    → IsBinarySearchResult (λ e. nat_cmp e.0 head) es r → MatchResult r (HoldsAt (HasHead head) es) (IsGap es head)
searched es head (Ok place) ok equal = λ d. ranked _ head _ (sym (equal d))
searched es head (Err place) ok parted =
    let ordered : IsNonDecreasingBy (λ e. ordering_index (nat_cmp e.0 head)) es = λ i j d le within.
    let rise : (get_or es i d).0 ≤ (get_or es j d).0 =
    grind (arith, rises es ok i j d, λ (same : i ≡ j). ap (λ k. (get_or es k d).0) same) in grind (arith, nat_tests) in
    let (before, behind) = parted ordered in
    (λ k d low lt. ranked _ head _ (sym (before k d low lt)), λ k d low lt. ranked _ head _ (sym (behind k d low lt)))

module _ {V : Type 0} where
  -- the value in the head's entry is the head's
  pub find-at : (es : List (ℕ × V)) (head place : ℕ) (d : ℕ × V) → IsInOrder es → place < length es
      → HoldsAt (HasHead head) es place → map.find nat_cmp head es ≡ Some (get_or es place d).1
  find-at [] head place d ok within there = absurd (omega arith)
  find-at (e ∷ es) head zero d ok within there = grind (arith, nat_tests, there d)
  find-at (e ∷ es) head (suc place) d ok within there =
      grind (arith, nat_tests, rises (e ∷ es) ok zero (suc place) d, there d, find-at es head place d)

  -- another value in the head's entry is the head's from then on
  pub put-at : (es : List (ℕ × V)) (head place : ℕ) (d : ℕ × V) (value : V) → IsInOrder es → place < length es
      → HoldsAt (HasHead head) es place
      → set es place ((get_or es place d).0, value) ≡ map.put nat_cmp head value es
  put-at [] head place d value ok within there = absurd (omega arith)
  put-at (e ∷ es) head zero d value ok within there = grind (arith, nat_tests, there d)
  put-at (e ∷ es) head (suc place) d value ok within there =
      grind (arith, nat_tests, rises (e ∷ es) ok zero (suc place) d, there d, put-at es head place d value)

  -- the gap among all entries but the first
  gap_behind : (e : ℕ × V) (es : List (ℕ × V)) (head place rest : ℕ) → rest ≡ place - 1 → IsGap (e ∷ es) head place
      → IsGap es head rest
  gap_behind e es head place rest is gap = (
    (λ k d low lt. gap.0 (suc k) d (omega arith) (omega arith)),
    (λ k d low lt. gap.1 (suc k) d (omega arith) (omega arith)),
  )

  -- a head with a gap has no entry
  pub find-gap : (es : List (ℕ × V)) (head place : ℕ) → IsGap es head place → map.find nat_cmp head es ≡ None
  find-gap [] head place gap = refl
  find-gap (e ∷ es) head place gap =
      let rest = gap_behind e es head place (place - 1) refl gap in
      grind (arith, nat_tests, gap.0 zero e, gap.1 zero e, find-gap es head (place - 1) rest)

  -- an entry that is put into the gap is the head's
  pub put-gap : (es : List (ℕ × V)) (head place : ℕ) (value : V) → place ≤ length es → IsGap es head place
      → insert es place (head, value) ≡ map.put nat_cmp head value es
  put-gap [] head zero value within gap = refl
  put-gap [] head (suc place) value within gap = absurd (omega arith)
  put-gap (e ∷ es) head zero value within gap = grind (arith, nat_tests, gap.1 zero e)
  put-gap (e ∷ es) head (suc place) value within gap =
      let rest = gap_behind e es head (suc place) place (omega arith) gap in
      grind (arith, nat_tests, gap.0 zero e, put-gap es head place value (omega arith) rest)
