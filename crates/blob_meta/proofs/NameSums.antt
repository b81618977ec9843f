-- The checksums of names beside the entries of a map: they stay those of the entries where both are edited alike.
use Rattle.std.proofs.Common.{◌≡◌, ℕ, zero, suc, ◌<◌, ◌≤◌, List, [], ◌∷◌, length, get_or, set}
use Rattle.std.proofs.Common.{Result, Ok, Err, refl, sym, ap, ◌∙◌}
use Rattle.std.specs.Prelude.{OnOk, OnErr}
use Rattle.std.specs.Ordering.{nat_cmp}
use Rattle.std.specs.FinMap as map
use Rattle.std.specs.List.{HoldsAt, insert, remove}
use Rattle.std.proofs.lemmas.List.{get_or-map, length-map, map-set}
use Rattle.crc32c.specs.Crc.{crc32c_of}
use Rattle.blob_meta.specs.Heads.{AreKept, sum_of, sums_of}
use Rattle.blob_meta.proofs.EntriesInOrder.{HasHead, IsGap, put-gap}
use Rattle.blob_meta.proofs.MapOfEntries.{in_order-put, in_order-remove}

module _ {V : Type 0} (name_of : V → List ℕ) where
  -- the checksum in an entry's place is that of its name
  pub sum_at : (es : List (ℕ × V)) (sums : List ℕ) (place : ℕ) (e : ℕ × V) (d : ℕ) → sums ≡ sums_of name_of es
      → place < length es → get_or sums place d ≡ crc32c_of (name_of (get_or es place e).1)
  sum_at es sums place e d is lt =
      ap (λ (l : List ℕ). get_or l place d) is ∙ get_or-map (sum_of name_of) es place e d lt

  -- there are as many checksums as entries
  pub as_many : (es : List (ℕ × V)) (sums : List ℕ) → sums ≡ sums_of name_of es → length sums ≡ length es
  as_many es sums is = ap length is ∙ length-map es (sum_of name_of)

  -- the value in an entry is another,
  sums-set : (es : List (ℕ × V)) (place : ℕ) (e : ℕ × V)
      → sums_of name_of (set es place e) ≡ set (sums_of name_of es) place (sum_of name_of e)
  sums-set es place e = map-set (sum_of name_of) es place e

  -- an entry is put in,
  sums-insert : (es : List (ℕ × V)) (place : ℕ) (e : ℕ × V)
      → sums_of name_of (insert es place e) ≡ insert (sums_of name_of es) place (sum_of name_of e)
  sums-insert [] zero e = refl
  sums-insert [] (suc place) e = refl
  sums-insert (x ∷ es) zero e = refl
  sums-insert (x ∷ es) (suc place) e = ap (λ (l : List ℕ). sum_of name_of x ∷ l) (sums-insert es place e)

  -- or taken out
  sums-remove : (es : List (ℕ × V)) (place : ℕ)
      → sums_of name_of (remove es place) ≡ remove (sums_of name_of es) place
  sums-remove [] zero = refl
  sums-remove [] (suc place) = refl
  sums-remove (x ∷ es) zero = refl
  sums-remove (x ∷ es) (suc place) = ap (λ (l : List ℕ). sum_of name_of x ∷ l) (sums-remove es place)

  -- a new entry and its checksum are put into the gap, or both lists stay
  pub kept-added : {E : Type 0} (es new : List (ℕ × V)) (sums new_sums : List ℕ) (head place : ℕ) (value : V)
      (r : Result (Unit {0}) E) → AreKept name_of es sums → place ≤ length es → IsGap es head place
      → OnOk r (new ≡ insert es place (head, value))
      → OnOk r (new_sums ≡ insert sums place (sum_of name_of (head, value)))
      → OnErr r (new ≡ es) → OnErr r (new_sums ≡ sums) → AreKept name_of new new_sums
  kept-added es new sums new_sums head place value (Ok u) kept within gap added sum_added stays sums_stay =
      let is = added ∙ put-gap es head place value within gap in
      record {
        in_order = rw is (in_order-put es head value kept.in_order);
        summed =
            sum_added ∙ ap (λ (l : List ℕ). insert l place (sum_of name_of (head, value))) kept.summed
            ∙ sym (ap (sums_of name_of) added ∙ sums-insert es place (head, value));
      }
  kept-added es new sums new_sums head place value (Err e) kept within gap added sum_added stays sums_stay =
      record {
        in_order = rw stays kept.in_order;
        summed = sums_stay ∙ kept.summed ∙ sym (ap (sums_of name_of) stays);
      }

  -- the value in the head's entry is another, and so is its checksum
  pub kept-set : (es new : List (ℕ × V)) (sums : List ℕ) (head place : ℕ) (e : ℕ × V) (value : V)
      → AreKept name_of es sums → new ≡ set es place (e.0, value) → new ≡ map.put nat_cmp head value es
      → AreKept name_of new (set sums place (crc32c_of (name_of value)))
  kept-set es new sums head place e value kept is put = record {
    in_order = rw put (in_order-put es head value kept.in_order);
    summed =
        ap (λ (l : List ℕ). set l place (crc32c_of (name_of value))) kept.summed
        ∙ sym (ap (sums_of name_of) is ∙ sums-set es place (e.0, value));
  }

  -- the head's entry is taken out, and so is its checksum
  pub kept-remove : (es new : List (ℕ × V)) (sums : List ℕ) (head place : ℕ) → AreKept name_of es sums
      → place < length es → HoldsAt (HasHead head) es place → new ≡ remove es place
      → AreKept name_of new (remove sums place)
  kept-remove es new sums head place kept within there is = record {
    in_order = rw is (in_order-remove es head place kept.in_order within there);
    summed =
        ap (λ (l : List ℕ). remove l place) kept.summed
        ∙ sym (ap (sums_of name_of) is ∙ sums-remove es place);
  }
