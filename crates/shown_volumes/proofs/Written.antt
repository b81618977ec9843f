-- Attributes that can be written, when one is set or removed.
use Rattle.std.proofs.Common.{◌≡◌, ◌+◌, ◌≤◌, false, List, [], ◌∷◌, length, ℕ, sym, subst, inl, inr}
use Rattle.std.specs.List.{AllByRecursion}
use Rattle.std.specs.Str.{bytes_eq}
use Rattle.std.proofs.lemmas.Bool.{cases_Bool}
use Rattle.std.proofs.lemmas.Slice.Eq.{bytes_eq-Decides}
use Rattle.volume_model.specs.Xattrs.{Xattrs, with_value, without}
use Rattle.volume_model.specs.declared.text.Xattr.{Xattr}
use Rattle.blob_meta.specs.Items.{HasDistinctNames}
use Rattle.shown_volumes.specs.Steady.{CanBeWritten}

-- a name that is none of these, nor the new one's, is none with it
apart : (name : List ℕ) (xs : List Xattr) (key value : List ℕ)
    → bytes_eq name key ≡ false → AllByRecursion (λ y. bytes_eq name y.key ≡ false) xs
    → AllByRecursion (λ y. bytes_eq name y.key ≡ false) (with_value xs key value)
apart name [] key value ne h = (ne, tt)
apart name (x ∷ xs) key value ne h = elim (cases_Bool (bytes_eq x.key key)) [
  | inl same ↦ rw same (h.0, h.1)
  | inr other ↦ rw other (h.0, apart name xs key value ne h.1)
]

pub distinct_with : (xs : List Xattr) (key value : List ℕ) → HasDistinctNames xs
    → HasDistinctNames (with_value xs key value)
distinct_with [] key value h = (tt, tt)
distinct_with (x ∷ xs) key value h = elim (cases_Bool (bytes_eq x.key key)) [
  | inl same ↦ rw same (h.0, h.1)
  | inr other ↦ rw other (apart x.key xs key value other h.0, distinct_with xs key value h.1)
]

-- ---- lists of attributes

abbrev IsShort : Xattr → Type 0
IsShort x = length x.key + length x.value ≤ 4063

-- what holds of the attribute that is set, and of each that is there, holds of each
pub all_with : (P : Xattr → Type 0) (xs : Xattrs) (key value : List ℕ) → P (record { key = key; value = value })
    → AllByRecursion P xs → AllByRecursion P (with_value xs key value)
all_with P [] key value new all = (new, tt)
all_with P (x ∷ xs) key value new all = elim (cases_Bool (bytes_eq x.key key)) [
  | inl same ↦
      let is : x.key ≡ key = (bytes_eq-Decides x.key key).0 same in
      rw same (subst (λ k. P (record { key = k; value = value })) (sym is) new, all.1)
  | inr other ↦ rw other (all.0, all_with P xs key value new all.1)
]

pub all_without : (P : Xattr → Type 0) (xs : Xattrs) (key : List ℕ) → AllByRecursion P xs
    → AllByRecursion P (without xs key)
all_without P [] key all = tt
all_without P (x ∷ xs) key all = elim (cases_Bool (bytes_eq x.key key)) [
  | inl same ↦ rw same (all_without P xs key all.1)
  | inr other ↦ rw other (all.0, all_without P xs key all.1)
]

distinct_without : (xs : Xattrs) (key : List ℕ) → HasDistinctNames xs → HasDistinctNames (without xs key)
distinct_without [] key h = tt
distinct_without (x ∷ xs) key h = elim (cases_Bool (bytes_eq x.key key)) [
  | inl same ↦ rw same (distinct_without xs key h.1)
  | inr other ↦ rw other (all_without (λ y. bytes_eq x.key y.key ≡ false) xs key h.0, distinct_without xs key h.1)
]

pub written_with : (xs : Xattrs) (key value : List ℕ) → length key + length value ≤ 4063 → CanBeWritten xs
    → CanBeWritten (with_value xs key value)
written_with xs key value fits can =
    record { names = distinct_with xs key value can.names; short = all_with IsShort xs key value fits can.short }

pub written_without : (xs : Xattrs) (key : List ℕ) → CanBeWritten xs → CanBeWritten (without xs key)
written_without xs key can =
    record { names = distinct_without xs key can.names; short = all_without IsShort xs key can.short }
