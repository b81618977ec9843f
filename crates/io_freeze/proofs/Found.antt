-- The row of a head, and what the rows' heads rising says of it.
use Rattle.std.proofs.Common.{◌≡◌, ◌≢◌, ℕ, suc, ◌+◌, ◌<◌, ◌≤◌, Bool, true, false, cond, List, [], ◌∷◌, length, get_or}
use Rattle.std.proofs.Common.{Option, Some, None, refl, sym, ap, ◌∙◌, arith, inl, inr, Result, Ok, Err}
use Rattle.std.specs.Prelude.{All, MatchResult, ◌||◌, is_some, filter, map as mapped}
use Rattle.std.specs.List.Sorted.{IsSearchInRange, IsBinarySearchResult, IsNonDecreasingBy}
use Rattle.std.specs.Option.{option_map, option_map_or}
use Rattle.std.specs.Ordering.{nat_cmp, eq_by_cmp, ordering_index}
use Rattle.std.specs.FinMap as map
use Rattle.std.specs.FinSet as set
use Rattle.std.specs.Cmp.{nat_cmp_total, unsigned_tied}
use Rattle.std.proofs.lemmas.Cmp.{ranked}
use Rattle.std.proofs.lemmas.Bool.{cases_eq, cases_lt, cases_Bool, eq-eqb, ne_eqb}
use Rattle.std.proofs.lemmas.Bool.Decides.{nat_tests}
use Rattle.std.proofs.lemmas.List.Elements.{All-head, All-tail}
use Rattle.io_freeze.specs.declared.rows.Row.{Row}
use Rattle.io_freeze.specs.Rows.{Rises, IsAt, IsGap, generations_in, frozen_in}

-- two heads that the order of numbers does not tell apart
abbrev pub tied : ℕ → ℕ → Bool
tied = eq_by_cmp nat_cmp

-- the row of a head
abbrev pub row_of : List Row → ℕ → Option Row
row_of [] q = None
row_of (row ∷ rows) q = cond (tied q row.head) (Some row) (row_of rows q)

-- the generation in a row
abbrev pub generation_of : Option Row → Option ℕ
generation_of row = option_map (λ r. r.generation) row

-- a row that is there is frozen
abbrev pub is_marked : Option Row → Bool
is_marked row = option_map_or (λ r. r.frozen) row false

-- equal heads are tied
pub tied-same : (q k : ℕ) → q ≡ k → tied q k ≡ true
tied-same q k same = unsigned_tied q k ∙ eq-eqb q k same

-- different heads are not
pub tied-apart : (q k : ℕ) → q ≢ k → tied q k ≡ false
tied-apart q k apart = unsigned_tied q k ∙ ne_eqb q k apart

-- a head that no row has
pub row_of-none : (rows : List Row) (q : ℕ) → All (λ row. row.head ≢ q) rows → row_of rows q ≡ None
row_of-none [] q none = refl
row_of-none (row ∷ rows) q none =
    ap (λ (b : Bool). cond b (Some row) (row_of rows q))
    (tied-apart q row.head (λ e. All-head (λ r. r.head ≢ q) row rows none (sym e)))
    ∙ row_of-none rows q (All-tail (λ r. r.head ≢ q) row rows none)

-- the heads behind the first rise
pub Rises-tail : (row : Row) (rows : List Row) → Rises (row ∷ rows) → Rises rows
Rises-tail row rows rises i j d lt within = rises (suc i) (suc j) d (omega arith) (omega arith)

-- the first head stands in no later row
pub first_alone : (row : Row) (rows : List Row) → Rises (row ∷ rows) → row_of rows row.head ≡ None
first_alone row rows rises =
    row_of-none rows row.head (λ k d within same.
    let above : row.head < (get_or rows k d).head = rises 0 (suc k) d (omega arith) (omega arith) in
    omega arith)

-- a head's generation is that of its row
pub get-generations_in : (rows : List Row) (q : ℕ) → map.get (generations_in rows) q ≡ generation_of (row_of rows q)
get-generations_in [] q = map.get-empty nat_cmp q
get-generations_in (row ∷ rows) q =
    map.get-insert nat_cmp_total (generations_in rows) row.head row.generation q
    ∙ ap (cond (tied q row.head) (Some row.generation)) (get-generations_in rows q)
    ∙ elim (tied q row.head) as
    (λ b. cond b (Some row.generation) (generation_of (row_of rows q)) ≡ generation_of
    (cond b (Some row) (row_of rows q))) [
      | true ↦ refl
      | false ↦ refl
    ]

-- the frozen heads, where the first row is or isn't frozen
frozen_with : Bool → Row → List Row → set.FinSet nat_cmp
frozen_with b row rows =
    set.from_list (mapped (λ r. r.head) (cond b (row ∷ filter (λ r. r.frozen) rows) (filter (λ r. r.frozen) rows)))

-- a head is frozen where its row is
pub contains-frozen_in : (rows : List Row) (q : ℕ) → Rises rows
    → set.contains (frozen_in rows) q ≡ is_marked (row_of rows q)
unfolding frozen_with
contains-frozen_in [] q rises = set.contains-empty nat_cmp q
contains-frozen_in (row ∷ rows) q rises =
    let rest : set.contains (frozen_in rows) q ≡ is_marked (row_of rows q) =
    contains-frozen_in rows q (Rises-tail row rows rises) in
    elim (cases_Bool row.frozen) [
      | inl on ↦
          ap (λ (b : Bool). set.contains (frozen_with b row rows) q) on
          ∙ set.contains-insert nat_cmp_total (frozen_in rows) row.head q
          ∙ ap (λ (b : Bool). tied q row.head || b) rest
          ∙ elim (tied q row.head) as
          (λ b. (b || is_marked (row_of rows q)) ≡ is_marked (cond b (Some row) (row_of rows q))) [
            | true ↦ sym on
            | false ↦ refl
          ]
      | inr off ↦
          ap (λ (b : Bool). set.contains (frozen_with b row rows) q) off
          ∙ rest
          ∙ elim (cases_eq q row.head) [
            | inl same ↦
                ap (λ (k : ℕ). is_marked (row_of rows k)) same ∙ ap is_marked (first_alone row rows rises)
                ∙ sym (ap (λ (b : Bool). is_marked (cond b (Some row) (row_of rows q))) (tied-same q row.head same)
                ∙ off)
            | inr apart ↦
                sym (ap (λ (b : Bool). is_marked (cond b (Some row) (row_of rows q))) (tied-apart q row.head apart))
          ]
    ]

-- there are as many generations as rows
pub len-generations_in : (rows : List Row) → Rises rows → map.len (generations_in rows) ≡ length rows
len-generations_in [] rises = map.len-empty nat_cmp ℕ
len-generations_in (row ∷ rows) rises =
    let rest : map.len (generations_in rows) ≡ length rows = len-generations_in rows (Rises-tail row rows rises) in
    let new : map.contains_key (generations_in rows) row.head ≡ false =
    ap is_some (get-generations_in rows row.head ∙ ap generation_of (first_alone row rows rises)) in
    map.len-insert nat_cmp_total (generations_in rows) row.head row.generation
    ∙ ap (λ (b : Bool). cond b (map.len (generations_in rows)) (map.len (generations_in rows) + 1)) new
    ∙ omega arith

index-le : (a b head : ℕ) → a ≤ b → ordering_index (nat_cmp a head) ≤ ordering_index (nat_cmp b head)
index-le a b head le = grind (arith, nat_tests)

-- what a binary search by the heads finds
pub searched : (rows : List Row) (head : ℕ) (r : Result ℕ ℕ) → Rises rows → IsSearchInRange r (length rows)
    → IsBinarySearchResult (λ row. nat_cmp row.head head) rows r → MatchResult r (IsAt rows head) (IsGap rows head)
searched rows head (Ok place) rises within equal =
    record { within = within; there = λ d. ranked _ head _ (sym (equal d)) }
searched rows head (Err place) rises within parted =
    let ordered : IsNonDecreasingBy (λ row. ordering_index (nat_cmp row.head head)) rows = λ i j d le in'.
    index-le (get_or rows i d).head (get_or rows j d).head head (elim (cases_lt i j) [
      | inl lt ↦ let less : (get_or rows i d).head < (get_or rows j d).head = rises i j d lt in' in omega arith
      | inr ge ↦ let same : i ≡ j = omega arith in rw same (omega arith)
    ]) in
    record {
      within = within;
      before = λ k d low lt. ranked _ head _ (sym ((parted ordered).0 k d low lt));
      behind = λ k d low lt. ranked _ head _ (sym ((parted ordered).1 k d low lt));
    }
