-- Metadata whose marks are lifted has the parent that it had, and no mark.
use Rattle.std.proofs.Common.{◌≡◌, false, Some, None, [], ◌∷◌, refl, sym, ap, ◌∙◌, inl, inr}
use Rattle.std.specs.Prelude.{codes}
use Rattle.std.specs.Option.{option_and_then, option_map_or}
use Rattle.std.specs.Str.{bytes_eq}
use Rattle.std.proofs.lemmas.Bool.{cases_Bool}
use Rattle.volume_model.specs.declared.text.Xattr.{Xattr}
use Rattle.volume_model.specs.Xattrs.{Text, Xattrs, value_of, without}
use Rattle.blob_meta.specs.declared.meta.Meta.{Meta}
use Rattle.blob_meta.specs.Parents.{named_in, parent_of}
use Rattle.blob_meta.specs.Resolving.{mark_of, without_marks}
use Rattle.blob_meta.proofs.Firsts.{same_name}

abbrev tmp : Text
tmp = codes "SNAPTMP"

abbrev rm : Text
rm = codes "SNAPRM"

-- an attribute of another name at the front is passed
passed : (x : Xattr) (xs : Xattrs) (other : Text) → bytes_eq x.key other ≡ false
    → value_of (x ∷ xs) other ≡ value_of xs other
passed x xs other apart = rw apart refl

begins_alike : (x : Xattr) (xs ys : Xattrs) (other : Text) → value_of xs other ≡ value_of ys other
    → value_of (x ∷ xs) other ≡ value_of (x ∷ ys) other
begins_alike x xs ys other e = elim (cases_Bool (bytes_eq x.key other)) [
  | inl here ↦ rw here refl
  | inr apart ↦ passed x xs other apart ∙ e ∙ sym (passed x ys other apart)
]

-- what is taken away has no value,
none_without : (xs : Xattrs) (key : Text) → value_of (without xs key) key ≡ None
none_without [] key = refl
none_without (x ∷ xs) key = elim (cases_Bool (bytes_eq x.key key)) [
  | inl same ↦ rw same (none_without xs key)
  | inr differs ↦ rw differs (passed x (without xs key) key differs ∙ none_without xs key)
]

-- and any other name the value that it had
other_without : (xs : Xattrs) (key other : Text) → bytes_eq key other ≡ false
    → value_of (without xs key) other ≡ value_of xs other
other_without [] key other apart = refl
other_without (x ∷ xs) key other apart = elim (cases_Bool (bytes_eq x.key key)) [
  | inl same ↦
      let unlike : bytes_eq x.key other ≡ false = ap (λ k. bytes_eq k other) (same_name x.key key same) ∙ apart in
      rw same (other_without xs key other apart ∙ sym (passed x xs other unlike))
  | inr differs ↦ rw differs (begins_alike x (without xs key) xs other (other_without xs key other apart))
]

module _ (m : Meta) where
  -- neither mark is left
  pub no_snaprm : value_of (without_marks m).internal (codes "SNAPRM") ≡ None
  no_snaprm = other_without (without m.internal rm) tmp rm refl ∙ none_without m.internal rm

  pub no_snaptmp : value_of (without_marks m).internal (codes "SNAPTMP") ≡ None
  no_snaptmp = none_without (without m.internal rm) tmp

  pub no_mark : mark_of (without_marks m) ≡ None
  no_mark = ap (λ o. option_map_or (λ (bytes : Text). Some bytes) o (value_of (without_marks m).internal tmp)) no_snaprm
      ∙ no_snaptmp

  -- the parent stays
  pub same_parent : parent_of (without_marks m) ≡ parent_of m
  same_parent = ap (option_and_then named_in)
      (other_without (without m.internal rm) tmp (codes "SNAP") refl ∙ other_without m.internal rm (codes "SNAP") refl)
