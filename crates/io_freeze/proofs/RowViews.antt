-- What each edit makes of the state that the rows are seen as.
use Rattle.std.proofs.Common.{◌≡◌, ℕ, ◌+◌, ◌<◌, true, false, List, length, get_or, set, Some, None, refl, sym, ap, ◌∙◌}
use Rattle.std.proofs.Common.{arith, inl, inr}
use Rattle.std.specs.List.{insert, remove}
use Rattle.std.specs.Prelude.{is_some}
use Rattle.std.specs.FinMap as map
use Rattle.std.specs.FinSet as set
use Rattle.std.proofs.lemmas.Bool.{cases_eq}
use Rattle.std.proofs.lemmas.List.{get_or-set_same, get_or-set_other, length-set}
use Rattle.std.proofs.lemmas.List.Quantifiers.{all_pairs_remove}
use Rattle.io_freeze.specs.declared.rows.Row.{Row}
use Rattle.io_freeze.specs.Guards.{GuardsState, frozen_at, released, guard_removed, renewed}
use Rattle.io_freeze.specs.Rows.{Rises, IsAt, IsGap, generations_in, frozen_in}
use Rattle.io_freeze.proofs.Found.{row_of, row_of-none, generation_of, is_marked, get-generations_in}
use Rattle.io_freeze.proofs.Found.{contains-frozen_in}
use Rattle.io_freeze.proofs.Edits.{Changes, insert-Changes, set-Changes, remove-Changes, row_of-at, none_before}
use Rattle.io_freeze.proofs.Edits.{none_past, none_at_gap, insert-Rises}
use Rattle.io_freeze.proofs.States.{generations_stay, generations_put, generations_taken, frozen_stay, frozen_put}
use Rattle.io_freeze.proofs.States.{frozen_taken, absent-Changes}

-- the guards that rows are seen as
abbrev pub seen : List Row → ℕ → ℕ → GuardsState
seen rows drawn room = record { generations = generations_in rows; frozen = frozen_in rows; drawn = drawn; room = room }

-- a row of the same head in the place of the old one
module _ (rows : List Row) (row : Row) (place : ℕ) (rises : Rises rows) (at : IsAt rows row.head place) where
  head_stays : (i : ℕ) (d : Row) → i < length rows → (get_or (set rows place row) i d).head ≡ (get_or rows i d).head
  head_stays i d within =
      elim (cases_eq i place) [
        | inl same ↦ rw same (ap (λ (r : Row). r.head) (get_or-set_same rows place row d at.within) ∙ sym (at.there d))
        | inr apart ↦ ap (λ (r : Row). r.head) (get_or-set_other rows place i row d apart)
      ]

  -- the heads rise as before
  pub set-Rises : Rises (set rows place row)
  set-Rises i j d lt within =
      let long : length (set rows place row) ≡ length rows = length-set rows place row in
      let first : (get_or (set rows place row) i d).head ≡ (get_or rows i d).head = head_stays i d (omega arith) in
      let second : (get_or (set rows place row) j d).head ≡ (get_or rows j d).head = head_stays j d (omega arith) in
      let less : (get_or rows i d).head < (get_or rows j d).head = rises i j d lt (omega arith) in
      omega arith

  changed : Changes rows (set rows place row) row.head (Some row)
  changed = set-Changes rows place row at.within at.there (none_before rows row.head place rises at)

  was : (d : Row) → row_of rows row.head ≡ Some (get_or rows place d)
  was d = row_of-at rows place row.head d at.within at.there (none_before rows row.head place rises at)

  numbers_stay : (d : Row) → row.generation ≡ (get_or rows place d).generation
      → generations_in (set rows place row) ≡ generations_in rows
  numbers_stay d same =
      generations_stay rows (set rows place row) row.head (Some row) changed
      (ap (λ (n : ℕ). Some n) same ∙ sym (ap generation_of (was d)))

  set_frozen : (drawn room : ℕ) (d : Row) → row.generation ≡ (get_or rows place d).generation → row.frozen ≡ true
      → seen (set rows place row) drawn room ≡ frozen_at (seen rows drawn room) row.head
  set_frozen drawn room d same on =
      let numbers = numbers_stay d same in
      let marks = frozen_put rows (set rows place row) row.head (Some row) changed rises set-Rises on in
      λ i. record { generations = numbers i; frozen = marks i; drawn = drawn; room = room }

  set_released : (drawn room : ℕ) (d : Row) → row.generation ≡ (get_or rows place d).generation → row.frozen ≡ false
      → seen (set rows place row) drawn room ≡ released (seen rows drawn room) row.head
  set_released drawn room d same off =
      let numbers = numbers_stay d same in
      let marks = frozen_taken rows (set rows place row) row.head (Some row) changed rises set-Rises off in
      λ i. record { generations = numbers i; frozen = marks i; drawn = drawn; room = room }

  set_renewed : (drawn room : ℕ) (d : Row) → row.frozen ≡ (get_or rows place d).frozen → row.generation ≡ drawn + 1
      → seen (set rows place row) (drawn + 1) room ≡ renewed (seen rows drawn room) row.head
  set_renewed drawn room d same next =
      let numbers =
      generations_put rows (set rows place row) row.head (Some row) changed (drawn + 1) (ap (λ (n : ℕ). Some n) next) in
      let marks =
      frozen_stay rows (set rows place row) row.head (Some row) changed rises set-Rises
      (same ∙ sym (ap is_marked (was d))) in
      λ i. record { generations = numbers i; frozen = marks i; drawn = drawn + 1; room = room }

-- a field of the row that was read at the place of a head is written
module _ (rows : List Row) (head place : ℕ) (read : Row) (rises : Rises rows) (at : IsAt rows head place)
    (is : read ≡ get_or rows place read) (drawn room : ℕ) where
  here : read.head ≡ head
  here = ap (λ (r : Row). r.head) is ∙ at.there read

  at_read : IsAt rows read.head place
  at_read = record { within = at.within; there = λ d. at.there d ∙ sym here }

  -- its mark is set
  pub seen-freeze : seen
      (set rows place (record { head = read.head; generation = read.generation; frozen = true })) drawn room ≡ frozen_at
      (seen rows drawn room) head
  seen-freeze =
      set_frozen rows
      (record { head = read.head; generation = read.generation; frozen = true }) place rises at_read drawn room read
      (ap (λ (r : Row). r.generation) is) refl
      ∙ ap (frozen_at (seen rows drawn room)) here

  -- its mark is cleared
  pub seen-release : seen
      (set rows place (record { head = read.head; generation = read.generation; frozen = false })) drawn room ≡ released
      (seen rows drawn room) head
  seen-release =
      set_released rows
      (record { head = read.head; generation = read.generation; frozen = false }) place rises at_read drawn room read
      (ap (λ (r : Row). r.generation) is) refl
      ∙ ap (released (seen rows drawn room)) here

  -- its generation is the next number
  pub seen-renew : seen (set rows place (record { head = read.head; generation = drawn + 1; frozen = read.frozen }))
      (drawn + 1) room ≡ renewed (seen rows drawn room) head
  seen-renew =
      set_renewed rows
      (record { head = read.head; generation = drawn + 1; frozen = read.frozen }) place rises at_read drawn room read
      (ap (λ (r : Row). r.frozen) is) refl
      ∙ ap (renewed (seen rows drawn room)) here

-- the row of a head taken out
module _ (rows : List Row) (head place : ℕ) (rises : Rises rows) (at : IsAt rows head place) where
  -- the head is held no longer
  pub seen-remove : (drawn room : ℕ) → seen (remove rows place) drawn room ≡ guard_removed (seen rows drawn room) head
  seen-remove drawn room =
      let changes : Changes rows (remove rows place) head None =
      remove-Changes rows place head at.within at.there (none_before rows head place rises at)
      (none_past rows head place rises at) in
      let still : Rises (remove rows place) = all_pairs_remove (λ a b. a.head < b.head) rows place at.within rises in
      let numbers = generations_taken rows (remove rows place) head None changes refl in
      let marks = frozen_taken rows (remove rows place) head None changes rises still refl in
      λ i. record { generations = numbers i; frozen = marks i; drawn = drawn; room = room }

  -- what is read at the place
  pub read_generation : (row : Row) → row ≡ get_or rows place row
      → Some row.generation ≡ map.get (generations_in rows) head
  read_generation row is =
      ap (λ (r : Row). Some r.generation) is
      ∙ sym (get-generations_in rows head
      ∙ ap generation_of (row_of-at rows place head row at.within at.there (none_before rows head place rises at)))

  -- the head is held
  pub read_held : is_some (map.get (generations_in rows) head) ≡ true
  read_held =
      let any : Row = record { head = head; generation = 0; frozen = false } in
      ap is_some
      (get-generations_in rows head
      ∙ ap generation_of (row_of-at rows place head any at.within at.there (none_before rows head place rises at)))

  -- the row's mark is the head's
  pub read_frozen : (row : Row) → row ≡ get_or rows place row → row.frozen ≡ set.contains (frozen_in rows) head
  read_frozen row is =
      ap (λ (r : Row). r.frozen) is
      ∙ sym (contains-frozen_in rows head rises
      ∙ ap is_marked (row_of-at rows place head row at.within at.there (none_before rows head place rises at)))

-- rows without the head
module _ (rows : List Row) (head place : ℕ) (rises : Rises rows) (gap : IsGap rows head place) where
  none_there : row_of rows head ≡ None
  none_there = row_of-none rows head (none_at_gap rows head place gap)

  -- the head has no generation
  pub read_none : map.get (generations_in rows) head ≡ None
  read_none = get-generations_in rows head ∙ ap generation_of none_there

  -- the head is not frozen
  pub read_thawed : set.contains (frozen_in rows) head ≡ false
  read_thawed = contains-frozen_in rows head rises ∙ ap is_marked none_there

  same_marks : frozen_in rows ≡ set.remove (frozen_in rows) head
  same_marks = frozen_taken rows rows head None (absent-Changes rows head none_there) rises rises refl

  -- to remove the head changes nothing
  pub absent_removed : (drawn room : ℕ) → seen rows drawn room ≡ guard_removed (seen rows drawn room) head
  absent_removed drawn room =
      let numbers = generations_taken rows rows head None (absent-Changes rows head none_there) refl in
      λ i. record { generations = numbers i; frozen = same_marks i; drawn = drawn; room = room }

  -- to release the head changes nothing
  pub absent_released : (drawn room : ℕ) → seen rows drawn room ≡ released (seen rows drawn room) head
  absent_released drawn room =
      λ i. record { generations = generations_in rows; frozen = same_marks i; drawn = drawn; room = room }

-- a row for a head that had none
module _ (rows : List Row) (row : Row) (place : ℕ) (rises : Rises rows) (gap : IsGap rows row.head place)
    (off : row.frozen ≡ false) where
  changes_in : Changes rows (insert rows place row) row.head (Some row)
  changes_in =
      insert-Changes rows place row (λ k d low lt. none_at_gap rows row.head place gap k d (omega (arith, gap.within)))

  still_off : frozen_in (insert rows place row) ≡ frozen_in rows
  still_off =
      frozen_stay rows (insert rows place row) row.head (Some row) changes_in rises
      (insert-Rises rows place row gap rises)
      (off ∙ sym (ap is_marked (none_there rows row.head place rises gap)))

  -- the head is held, with the next number
  pub seen-insert : (drawn room : ℕ) → row.generation ≡ drawn + 1
      → seen (insert rows place row) (drawn + 1) room ≡ renewed (seen rows drawn room) row.head
  seen-insert drawn room next =
      let numbers =
      generations_put rows (insert rows place row) row.head (Some row) changes_in (drawn + 1)
      (ap (λ (n : ℕ). Some n) next) in
      λ i. record { generations = numbers i; frozen = still_off i; drawn = drawn + 1; room = room }

  -- the head is not frozen
  pub insert-thawed : set.contains (frozen_in (insert rows place row)) row.head ≡ false
  insert-thawed =
      ap (λ (s : set.FinSet _). set.contains s row.head) still_off ∙ read_thawed rows row.head place rises gap
