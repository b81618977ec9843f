-- What an attribute tells once one of another key is set or gone, or once it is set itself.
use Rattle.std.proofs.Common.{◌≡◌, true, false, Some, [], ◌∷◌, refl, sym, ap, ◌∙◌, inl, inr}
use Rattle.std.specs.Str.{bytes_eq}
use Rattle.std.proofs.lemmas.Bool.{cases_Bool}
use Rattle.std.proofs.lemmas.Slice.Eq.{bytes_eq-Decides}
use Rattle.volume_model.specs.Xattrs.{Text, Xattrs, value_of, with_value, without}
use Rattle.volume_model.specs.declared.text.Xattr.{Xattr}

-- an attribute of the key isn't one of another key
unlike : (x : Xattr) (key other : Text) → bytes_eq key other ≡ false → bytes_eq x.key key ≡ true
    → bytes_eq x.key other ≡ false
unlike x key other apart same = ap (λ k. bytes_eq k other) ((bytes_eq-Decides x.key key).0 same) ∙ apart

-- an attribute of another key at the front is passed
passed : (x : Xattr) (xs : Xattrs) (other : Text) → bytes_eq x.key other ≡ false
    → value_of (x ∷ xs) other ≡ value_of xs other
passed x xs other apart = rw apart refl

-- two lists that begin alike
begins_alike : (x : Xattr) (xs ys : Xattrs) (other : Text) → value_of xs other ≡ value_of ys other
    → value_of (x ∷ xs) other ≡ value_of (x ∷ ys) other
begins_alike x xs ys other e = elim (cases_Bool (bytes_eq x.key other)) [
  | inl here ↦ rw here refl
  | inr apart ↦ passed x xs other apart ∙ e ∙ sym (passed x ys other apart)
]

-- the value of another key stays as it is when one is set,
pub value_beside : (xs : Xattrs) (key value other : Text) → bytes_eq key other ≡ false
    → value_of (with_value xs key value) other ≡ value_of xs other
value_beside [] key value other apart = passed (record { key = key; value = value }) [] other apart
value_beside (x ∷ xs) key value other apart = elim (cases_Bool (bytes_eq x.key key)) [
  | inl same ↦
      let ne = unlike x key other apart same in
      rw same (passed (record x { value = value }) xs other ne ∙ sym (passed x xs other ne))
  | inr differs ↦ rw differs
      (begins_alike x (with_value xs key value) xs other (value_beside xs key value other apart))
]

-- and when one is taken away
pub value_without : (xs : Xattrs) (key other : Text) → bytes_eq key other ≡ false
    → value_of (without xs key) other ≡ value_of xs other
value_without [] key other apart = refl
value_without (x ∷ xs) key other apart = elim (cases_Bool (bytes_eq x.key key)) [
  | inl same ↦ rw same
      (value_without xs key other apart ∙ sym (passed x xs other (unlike x key other apart same)))
  | inr differs ↦ rw differs (begins_alike x (without xs key) xs other (value_without xs key other apart))
]

-- an attribute of the key at the front has its value
found_first : (x : Xattr) (xs : Xattrs) (key : Text) → bytes_eq x.key key ≡ true
    → value_of (x ∷ xs) key ≡ Some x.value
found_first x xs key same = rw same refl

-- the value that is set is the key's
pub value_set : (xs : Xattrs) (key value : Text) → value_of (with_value xs key value) key ≡ Some value
value_set [] key value = found_first (record { key = key; value = value }) [] key ((bytes_eq-Decides key key).1 refl)
value_set (x ∷ xs) key value = elim (cases_Bool (bytes_eq x.key key)) [
  | inl same ↦ rw same (found_first (record x { value = value }) xs key same)
  | inr differs ↦ rw differs (passed x (with_value xs key value) key differs ∙ value_set xs key value)
]
