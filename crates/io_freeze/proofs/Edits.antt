-- What an edit of the rows at the place of a head, or at the gap for it, does to the rows of heads.
use Rattle.std.proofs.Common.{◌≡◌, ◌≢◌, ℕ, zero, suc, ◌+◌, ◌-◌, ◌<◌, ◌≤◌, true, false, cond, List, [], ◌∷◌, length}
use Rattle.std.proofs.Common.{get_or, set, Option, Some, None, refl, sym, ap, ◌∙◌, subst, arith, inl, inr}
use Rattle.std.specs.Prelude.{All}
use Rattle.std.specs.List.{AllWithin, HoldsAt, insert, remove}
use Rattle.std.proofs.lemmas.Bool.{cases_eq, cases_lt}
use Rattle.std.proofs.lemmas.List.Edits.{length-insert, get_or-insert_below, get_or-insert_at, get_or-insert_above}
use Rattle.std.proofs.lemmas.List.Elements.{All-cons, All-head, All-tail, All-nil}
use Rattle.io_freeze.specs.declared.rows.Row.{Row}
use Rattle.io_freeze.specs.Rows.{Rises, IsAt, IsGap}
use Rattle.io_freeze.proofs.Found.{tied, tied-same, tied-apart, row_of, row_of-none}

-- the rows of all heads stay but for one head's
abbrev pub Changes : List Row → List Row → ℕ → Option Row → Type 0
Changes old new head row = (q : ℕ) → row_of new q ≡ cond (tied q head) row (row_of old q)

-- no row before the place has the head
abbrev pub NoneBefore : List Row → ℕ → ℕ → Type 0
NoneBefore rows head place = AllWithin (λ r. r.head ≢ head) rows 0 place

later : (first : Row) (rows : List Row) (head place : ℕ) → NoneBefore (first ∷ rows) head (suc place)
    → NoneBefore rows head place
later first rows head place none k d low lt = none (suc k) d (omega arith) (omega arith)

swapped : (q a b : ℕ) (x y z : Option Row) → a ≢ b
    → cond (tied q b) y (cond (tied q a) x z) ≡ cond (tied q a) x (cond (tied q b) y z)
swapped q a b x y z apart =
    elim (cases_eq q a) [
      | inl same ↦ rw (tied-same q a same, tied-apart q b (λ e. apart (sym same ∙ e)))
      | inr other ↦ rw (tied-apart q a other)
    ]

shadowed : (q a b : ℕ) (x y z : Option Row) → b ≡ a → cond (tied q a) x z ≡ cond (tied q a) x (cond (tied q b) y z)
shadowed q a b x y z same =
    rw same (elim (tied q a) as (λ t. cond t x z ≡ cond t x (cond t y z)) [ true ↦ refl | false ↦ refl ])

-- a row after one of another head
behind_other : (first : Row) (rows new : List Row) (head : ℕ) (row : Option Row) → first.head ≢ head
    → Changes rows new head row → Changes (first ∷ rows) (first ∷ new) head row
behind_other first rows new head row apart changes q =
    ap (λ (z : Option Row). cond (tied q first.head) (Some first) z) (changes q)
    ∙ swapped q head first.head row (Some first) (row_of rows q) (λ e. apart (sym e))

-- a row put in before which none has its head
pub insert-Changes : (rows : List Row) (place : ℕ) (row : Row) → NoneBefore rows row.head place
    → Changes rows (insert rows place row) row.head (Some row)
insert-Changes rows zero row none q = refl
insert-Changes [] (suc place) row none q = refl
insert-Changes (first ∷ rows) (suc place) row none q =
    behind_other first rows (insert rows place row) row.head (Some row) (none 0 first (omega arith) (omega arith))
    (insert-Changes rows place row (later first rows row.head place none)) q

-- a row in the place of one of the same head
pub set-Changes : (rows : List Row) (place : ℕ) (row : Row) → place < length rows
    → HoldsAt (λ r. r.head ≡ row.head) rows place → NoneBefore rows row.head place
    → Changes rows (set rows place row) row.head (Some row)
set-Changes [] place row within there none q = absurd (omega arith)
set-Changes (first ∷ rows) zero row within there none q =
    shadowed q row.head first.head (Some row) (Some first) (row_of rows q) (there first)
set-Changes (first ∷ rows) (suc place) row within there none q =
    behind_other first rows (set rows place row) row.head (Some row) (none 0 first (omega arith) (omega arith))
    (set-Changes rows place row (omega arith) there (later first rows row.head place none)) q

-- a head's only row taken out
pub remove-Changes : (rows : List Row) (place head : ℕ) → place < length rows → HoldsAt (λ r. r.head ≡ head) rows place
    → NoneBefore rows head place → AllWithin (λ r. r.head ≢ head) rows (suc place) (length rows)
    → Changes rows (remove rows place) head None
remove-Changes [] place head within there none past q = absurd (omega arith)
remove-Changes (first ∷ rows) zero head within there none past q =
    elim (cases_eq q head) [
      | inl same ↦
          row_of-none rows q (λ k d lt e. past (suc k) d (omega arith) (omega arith) (e ∙ same))
          ∙ rw (tied-same q head same)
      | inr apart ↦ rw (tied-apart q head apart, tied-apart q first.head (λ e. apart (e ∙ there first)))
    ]
remove-Changes (first ∷ rows) (suc place) head within there none past q =
    behind_other first rows (remove rows place) head None (none 0 first (omega arith) (omega arith))
    (remove-Changes rows place head (omega arith) there (later first rows head place none)
    (λ k d low lt. past (suc k) d (omega arith) (omega arith))) q

-- a head's row is the one at its place
pub row_of-at : (rows : List Row) (place head : ℕ) (d : Row) → place < length rows
    → HoldsAt (λ r. r.head ≡ head) rows place → NoneBefore rows head place
    → row_of rows head ≡ Some (get_or rows place d)
row_of-at [] place head d within there none = absurd (omega arith)
row_of-at (first ∷ rows) zero head d within there none = rw (tied-same head first.head (sym (there first)))
row_of-at (first ∷ rows) (suc place) head d within there none =
    let apart : head ≢ first.head = λ e. none 0 first (omega arith) (omega arith) (sym e) in
    rw (tied-apart head first.head apart)
    (row_of-at rows place head d (omega arith) there (later first rows head place none))

-- ---- where the heads rise

-- no row before the place has the head
pub none_before : (rows : List Row) (head place : ℕ) → Rises rows → IsAt rows head place → NoneBefore rows head place
none_before rows head place rises at k d low lt same =
    let less : (get_or rows k d).head < (get_or rows place d).head = rises k place d lt at.within in
    let here : (get_or rows place d).head ≡ head = at.there d in
    omega arith

-- no row behind the place has the head
pub none_past : (rows : List Row) (head place : ℕ) → Rises rows → IsAt rows head place
    → AllWithin (λ r. r.head ≢ head) rows (suc place) (length rows)
none_past rows head place rises at k d low lt same =
    let less : (get_or rows place d).head < (get_or rows k d).head = rises place k d (omega arith) lt in
    let here : (get_or rows place d).head ≡ head = at.there d in
    omega arith

-- a head with a gap has no row
pub none_at_gap : (rows : List Row) (head place : ℕ) → IsGap rows head place → All (λ r. r.head ≢ head) rows
none_at_gap rows head place gap k d within same =
    elim (cases_lt k place) [
      | inl lt ↦ let less : (get_or rows k d).head < head = gap.before k d (omega arith) lt in omega arith
      | inr ge ↦ let more : head < (get_or rows k d).head = gap.behind k d ge within in omega arith
    ]

-- a row put into the gap for its head
module _ (rows : List Row) (place : ℕ) (row : Row) (gap : IsGap rows row.head place) where
  below_place : (i : ℕ) (d : Row) → i < place → (get_or (insert rows place row) i d).head ≡ (get_or rows i d).head
  below_place i d lt = ap (λ (r : Row). r.head) (get_or-insert_below rows place row d i lt gap.within)

  at_place : (i : ℕ) (d : Row) → i ≡ place → (get_or (insert rows place row) i d).head ≡ row.head
  at_place i d same = rw same (ap (λ (r : Row). r.head) (get_or-insert_at rows place row d gap.within))

  above_place : (i : ℕ) (d : Row) → place ≤ i → (get_or (insert rows place row) (i + 1) d).head ≡ (get_or rows i d).head
  above_place i d le = ap (λ (r : Row). r.head) (get_or-insert_above rows place row d i le gap.within)

  moved_up : (i : ℕ) (d : Row) → place < i → (get_or (insert rows place row) i d).head ≡ (get_or rows (i - 1) d).head
  moved_up i d lt =
      let next : i - 1 + 1 ≡ i =
      omega arith in
      subst (λ k. (get_or (insert rows place row) k d).head ≡ (get_or rows (i - 1) d).head) next
      (above_place (i - 1) d (omega arith))

  -- the heads rise with the new row too
  pub insert-Rises : Rises rows → Rises (insert rows place row)
  insert-Rises rises i j d lt within =
      let long : length (insert rows place row) ≡ length rows + 1 = length-insert rows place row gap.within in
      grind (
        arith,
        below_place i d,
        at_place i d,
        moved_up i d,
        below_place j d,
        at_place j d,
        moved_up j d,
        rises i j d,
        rises i (j - 1) d,
        rises (i - 1) (j - 1) d,
        gap.before i d,
        gap.behind (j - 1) d,
      )

-- what holds of all rows and of the new one
pub insert-All : (P : Row → Type 0) (rows : List Row) (place : ℕ) (row : Row) → All P rows → P row
    → All P (insert rows place row)
insert-All P rows zero row all here = All-cons P row rows here all
insert-All P [] (suc place) row all here = All-cons P row [] here (All-nil P)
insert-All P (first ∷ rows) (suc place) row all here =
    All-cons P first (insert rows place row) (All-head P first rows all)
    (insert-All P rows place row (All-tail P first rows all) here)
