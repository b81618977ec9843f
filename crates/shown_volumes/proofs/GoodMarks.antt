-- Internal attributes in which a mark is set or taken away: they can be written, and no mark is bad.
use Rattle.std.proofs.Common.{◌≡◌, ℕ, ◌+◌, ◌≤◌, ◌^◌, ◌==◌, ◌&&◌, Bool, true, false, not, Option, Some, None}
use Rattle.std.proofs.Common.{[], ◌∷◌, length, refl, sym, ap, ◌∙◌, inl, inr, arith}
use Rattle.std.specs.Prelude.{codes, find}
use Rattle.std.specs.List.{AllByRecursion}
use Rattle.std.specs.Option.{option_map, option_map_or}
use Rattle.std.specs.Str.{bytes_eq}
use Rattle.std.proofs.lemmas.Bool.{cases_Bool, eqb-true}
use Rattle.page_fields.proofs.Laws.{len-number_bytes}
use Rattle.volume_model.specs.Xattrs.{Text, Xattrs, value_of, with_value, without}
use Rattle.volume_model.specs.declared.text.Xattr.{Xattr}
use Rattle.blob_meta.specs.declared.fault.MetaFault.TheVariants as faults
use Rattle.blob_meta.specs.declared.meta.Meta.{Meta}
use Rattle.blob_meta.specs.Faults.{bad_mark, is_bad_mark, is_mark}
use Rattle.snapshots.specs.Marks.{id_bytes, with_named, with_parent_of}
use Rattle.shown_volumes.specs.Steady.{CanBeWritten}
use Rattle.shown_volumes.proofs.Inside.{none_of_map}
use Rattle.shown_volumes.proofs.Written.{all_with, all_without, written_with, written_without}

abbrev IsGood : Xattr → Type 0
IsGood x = is_bad_mark x ≡ false

-- they can be written, and each mark has eight bytes
pub record AreGood (internal : Xattrs) : Type 0 where
  pub can : CanBeWritten internal
  pub good : AllByRecursion IsGood internal

-- no mark is bad where none is found
pub good_of : (xs : Xattrs) → bad_mark xs ≡ None → AllByRecursion IsGood xs
good_of xs none = by xs (none_of_map _ (find is_bad_mark xs) none)
  where
    by : (xs : Xattrs) → find is_bad_mark xs ≡ None → AllByRecursion IsGood xs
    by [] none = tt
    by (x ∷ xs) none = elim (cases_Bool (is_bad_mark x)) [
      | inl bad ↦ let found : Some x ≡ None = sym (rw bad refl) ∙ none in absurd (cc found)
      | inr good ↦ (good, by xs (rw good at none))
    ]

pub none_bad : (xs : Xattrs) → AllByRecursion IsGood xs → bad_mark xs ≡ None
none_bad xs all = ap (option_map (λ (x : Xattr). faults.BadMark x.key _)) (by xs all)
  where
    by : (xs : Xattrs) → AllByRecursion IsGood xs → find is_bad_mark xs ≡ None
    by [] all = refl
    by (x ∷ xs) all = rw all.0 (by xs all.1)

-- ---- a mark is set

and_none : (b : Bool) → (b && false) ≡ false
and_none true = refl
and_none false = refl

-- by eight bytes
long_good : (key value : Text) → length value ≡ 8 → IsGood (record { key = key; value = value })
long_good key value long = ap (λ n. is_mark key && not (n == 8)) long ∙ and_none (is_mark key)

-- by an id
pub named_good : (internal : Xattrs) (key : Text) (head : ℕ) → length key ≤ 8 → AreGood internal
    → AreGood (with_named internal key head)
named_good internal key head short old =
    let long = len-number_bytes 8 (2 ^ 32 + head) in
    record {
      can = written_with internal key (id_bytes head) (omega (arith, long, short)) old.can;
      good = all_with IsGood internal key (id_bytes head) (long_good key (id_bytes head) long) old.good;
    }

pub without_good : (internal : Xattrs) (key : Text) → AreGood internal → AreGood (without internal key)
without_good internal key old = record {
  can = written_without internal key old.can;
  good = all_without IsGood internal key old.good;
}

-- a good mark has eight bytes
value_long : (xs : Xattrs) (id : Text) → AllByRecursion IsGood xs → value_of xs (codes "SNAP") ≡ Some id
    → length id ≡ 8
value_long [] id all is = absurd (cc is)
value_long (x ∷ xs) id all is = elim (cases_Bool (bytes_eq x.key (codes "SNAP"))) [
  | inl same ↦
      let here : Some x.value ≡ Some id = rw same at is in
      let one : x.value ≡ id = cc here in
      let eight : not (length x.value == 8) ≡ false = rw same at all.0 in
      ap length (sym one) ∙ eqb-true (length x.value) 8 (turned (length x.value == 8) eight)
  | inr differs ↦ value_long xs id all.1 (rw differs at is)
]
  where
    turned : (b : Bool) → not b ≡ false → b ≡ true
    turned true is = refl
    turned false is = absurd (cc is)

-- with the parent of another blob
pub given_good : (internal : Xattrs) (m : Meta) → AreGood internal → AreGood m.internal
    → AreGood (with_parent_of internal m)
given_good internal m old its = at (value_of m.internal (codes "SNAP")) refl
  where
    at : (o : Option Text) → value_of m.internal (codes "SNAP") ≡ o
        → AreGood (option_map_or (λ id. with_value internal (codes "SNAP") id) o (without internal (codes "SNAP")))
    at None is = without_good internal (codes "SNAP") old
    at (Some id) is =
        let long = value_long m.internal id its.good is in
        let short : length (codes "SNAP") ≤ 8 = omega arith in
        record {
          can = written_with internal (codes "SNAP") id (omega (arith, long, short)) old.can;
          good = all_with IsGood internal (codes "SNAP") id (long_good (codes "SNAP") id long) old.good;
        }
