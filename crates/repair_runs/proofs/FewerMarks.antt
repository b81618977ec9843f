-- A replacement that lifts a mark, or erases a blob with one, leaves fewer blobs marked.
use Rattle.std.proofs.Common.{◌≡◌, ℕ, zero, suc, ◌+◌, ◌<◌, ◌≤◌, Bool, true, false, Option, Some, None, List, []}
use Rattle.std.proofs.Common.{◌∷◌, refl, sym, ap, ◌∙◌, inl, inr, arith}
use Rattle.std.specs.Prelude.{filter, is_some, length}
use Rattle.std.specs.List.{range_with_len}
use Rattle.std.specs.Option.{option_and_then}
use Rattle.std.proofs.lemmas.Bool.{cases_Bool, cases_eq, false≢true}
use Rattle.blob_meta.specs.declared.meta.Meta.{Meta}
use Rattle.blob_meta.specs.Repairs.{heads_where}
use Rattle.blob_meta.specs.Resolving.{mark_of}
use Rattle.store_model.specs.Maps.{Metas}
use Rattle.store_model.specs.Phases.{replaced, Replacing}
use Rattle.store_model.proofs.WithEntry.{option_elsewhere, option_here}
use Rattle.repair_runs.specs.RepairRuns.{has_mark}

-- ---- numbers that pass a test

-- Whatever passes the second test passes the first.
module _ (first second : ℕ → Bool) (within : (h : ℕ) → second h ≡ true → first h ≡ true) where
  -- one number in front
  one_more : (x : ℕ) (xs : List ℕ) (d : ℕ) → length (filter second xs) + d ≤ length (filter first xs)
      → length (filter second (x ∷ xs)) + d ≤ length (filter first (x ∷ xs))
  one_more x xs d le = elim (cases_Bool (second x)) [
    | inl is ↦ rw (is, within x is) (omega (arith, le))
    | inr fails ↦ elim (cases_Bool (first x)) [
      | inl is ↦ rw (fails, is) (omega (arith, le))
      | inr both ↦ rw (fails, both) le
    ]
  ]

  as_many : (xs : List ℕ) → length (filter second xs) + 0 ≤ length (filter first xs)
  as_many [] = omega arith
  as_many (x ∷ xs) = one_more x xs 0 (as_many xs)

  -- a number passes the first alone: so fewer pass the second
  fewer_pass : (k a n : ℕ) → first k ≡ true → second k ≡ false → a ≤ k → k < a + n
      → length (filter second (range_with_len a n)) + 1 ≤ length (filter first (range_with_len a n))
  fewer_pass k a zero passes fails low high = absurd (omega arith)
  fewer_pass k a (suc n) passes fails low high = elim (cases_eq a k) [
    | inl e ↦
        let le = as_many (range_with_len (a + 1) n) in
        rw (ap second e ∙ fails, ap first e ∙ passes) (omega (arith, le))
    | inr ne ↦
        one_more a (range_with_len (a + 1) n) 1 (fewer_pass k (a + 1) n passes fails (omega arith) (omega arith))
  ]

-- ---- marks

unmarked_new : (o : Option Meta) → ((m : Meta) → o ≡ Some m → mark_of m ≡ None)
    → is_some (option_and_then mark_of o) ≡ false
unmarked_new None none = refl
unmarked_new (Some m) none = ap is_some (none m refl)

module _ (base : Metas) (r : Replacing) (none : (m : Meta) → r.new ≡ Some m → mark_of m ≡ None) where
  mended_there : has_mark (replaced base r) r.head ≡ false
  mended_there = ap (λ o. is_some (option_and_then mark_of o)) (option_here base r.head r.new r.head refl)
      ∙ unmarked_new r.new none

  -- no mark is new
  marked_before : (h : ℕ) → has_mark (replaced base r) h ≡ true → has_mark base h ≡ true
  marked_before h is = elim (cases_eq h r.head) [
    | inl e ↦ absurd (false≢true (sym mended_there ∙ sym (ap (has_mark (replaced base r)) e) ∙ is))
    | inr ne ↦
        sym (ap (λ o. is_some (option_and_then mark_of o)) (option_elsewhere base r.head r.new h ne)) ∙ is
  ]

  -- one is gone
  pub fewer_marks : (md_len : ℕ) → r.head < md_len → has_mark base r.head ≡ true
      → length (heads_where md_len (has_mark (replaced base r))) < length (heads_where md_len (has_mark base))
  fewer_marks md_len low marked =
      let less = fewer_pass (has_mark base) (has_mark (replaced base r)) marked_before r.head 0 md_len marked
      mended_there (omega arith) (omega arith) in
      omega (arith, less)
