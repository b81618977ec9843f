-- What attributes say once one is taken away, and which marks and parents they name.
use Rattle.std.proofs.Common.{◌≡◌, ℕ, ◌+◌, ◌-◌, ◌<◌, ◌^◌, false, Option, Some, None, [], ◌∷◌, refl, sym, ap, ◌∙◌}
use Rattle.std.proofs.Common.{inl, inr, arith}
use Rattle.std.specs.Prelude.{codes, nat_lt, if◌then◌else◌}
use Rattle.std.specs.Option.{option_and_then, option_map_or}
use Rattle.std.specs.Str.{bytes_eq}
use Rattle.std.proofs.lemmas.Bool.{cases_Bool}
use Rattle.std.proofs.lemmas.Bool.Decides.{nat_tests}
use Rattle.std.proofs.lemmas.Slice.Eq.{bytes_eq-Decides}
use Rattle.page_fields.proofs.Laws.{number_is}
use Rattle.volume_model.specs.Xattrs.{Text, Xattrs, value_of, with_value, without}
use Rattle.volume_model.specs.declared.text.Xattr.{Xattr}
use Rattle.volume_model.proofs.Told.{value_beside, value_set, value_without}
use Rattle.blob_meta.specs.declared.meta.Meta.{Meta}
use Rattle.blob_meta.specs.Parents.{head_of_id, named_in, parent_of}
use Rattle.snapshots.specs.Marks.{id_bytes, with_named, with_parent_of}

-- ---- one key

-- a key without a value isn't that of the first attribute, and has none among the others
past_first : (x : Xattr) (xs : Xattrs) (key : Text) → value_of (x ∷ xs) key ≡ None
    → (bytes_eq x.key key ≡ false) × (value_of xs key ≡ None)
past_first x xs key none = elim (cases_Bool (bytes_eq x.key key)) [
  | inl same ↦
      let first : value_of (x ∷ xs) key ≡ Some x.value = rw same refl in
      let bad : Some x.value ≡ None = sym first ∙ none in absurd (cc bad)
  | inr differs ↦
      let others : value_of (x ∷ xs) key ≡ value_of xs key = rw differs refl in (differs, sym others ∙ none)
]

-- a key that is taken away has no value then
pub none_without : (xs : Xattrs) (key : Text) → value_of (without xs key) key ≡ None
none_without [] key = refl
none_without (x ∷ xs) key = elim (cases_Bool (bytes_eq x.key key)) [
  | inl same ↦ rw same (none_without xs key)
  | inr differs ↦ rw (differs, differs) (none_without xs key)
]

-- an attribute that isn't there is none to take away,
pub without_none : (xs : Xattrs) (key : Text) → value_of xs key ≡ None → without xs key ≡ xs
without_none [] key none = refl
without_none (x ∷ xs) key none =
    let apart = past_first x xs key none in
    rw apart.0 (ap (λ ys. x ∷ ys) (without_none xs key apart.1))

-- and a new one that is set and taken away leaves what was there
pub without_set : (xs : Xattrs) (key value : Text) → value_of xs key ≡ None
    → without (with_value xs key value) key ≡ xs
without_set [] key value none = rw ((bytes_eq-Decides key key).1 refl) refl
without_set (x ∷ xs) key value none =
    let apart = past_first x xs key none in
    rw (apart.0, apart.0) (ap (λ ys. x ∷ ys) (without_set xs key value apart.1))

-- ---- ids

-- an id names its head
pub id_named : (head : ℕ) → head < 2 ^ 32 → named_in (id_bytes head) ≡ Some head
id_named head low =
    let whole = number_is 8 (2 ^ 32 + head) (omega (arith, low)) in
    let above : nat_lt (2 ^ 32 + head) (2 ^ 32) ≡ false = grind (arith, nat_tests) in
    let back : 2 ^ 32 + head - 2 ^ 32 ≡ head = omega arith in
    ap head_of_id whole ∙ ap (λ b. if b then None else Some (2 ^ 32 + head - 2 ^ 32)) above ∙ ap (λ n. Some n) back

-- the parent that these internal attributes name, and the mark that they are
abbrev pub parent_in : Xattrs → Option ℕ
parent_in internal = option_and_then named_in (value_of internal (codes "SNAP"))

abbrev pub mark_in : Xattrs → Option Text
mark_in internal = option_map_or (λ bytes. Some bytes) (value_of internal (codes "SNAPRM"))
    (value_of internal (codes "SNAPTMP"))

-- a parent that is named
pub parent_named : (internal : Xattrs) (head : ℕ) → head < 2 ^ 32
    → parent_in (with_named internal (codes "SNAP") head) ≡ Some head
parent_named internal head low = ap (option_and_then named_in) (value_set internal (codes "SNAP") (id_bytes head))
    ∙ id_named head low

-- naming a parent changes no mark
pub mark_named : (internal : Xattrs) (head : ℕ) → mark_in (with_named internal (codes "SNAP") head) ≡ mark_in internal
mark_named internal head =
    ap (λ o. option_map_or (λ (bytes : Text). Some bytes) o
    (value_of (with_named internal (codes "SNAP") head) (codes "SNAPTMP")))
    (value_beside internal (codes "SNAP") (id_bytes head) (codes "SNAPRM") refl)
    ∙ ap (λ o. option_map_or (λ (bytes : Text). Some bytes) (value_of internal (codes "SNAPRM")) o)
    (value_beside internal (codes "SNAP") (id_bytes head) (codes "SNAPTMP") refl)

-- nor does taking it away, after which none is named
pub mark_without : (internal : Xattrs) → mark_in (without internal (codes "SNAP")) ≡ mark_in internal
mark_without internal =
    ap (λ o. option_map_or (λ (bytes : Text). Some bytes) o
    (value_of (without internal (codes "SNAP")) (codes "SNAPTMP")))
    (value_without internal (codes "SNAP") (codes "SNAPRM") refl)
    ∙ ap (λ o. option_map_or (λ (bytes : Text). Some bytes) (value_of internal (codes "SNAPRM")) o)
    (value_without internal (codes "SNAP") (codes "SNAPTMP") refl)

pub parent_without : (internal : Xattrs) → parent_in (without internal (codes "SNAP")) ≡ None
parent_without internal = ap (option_and_then named_in) (none_without internal (codes "SNAP"))

module _ (internal : Xattrs) (m : Meta) where
  -- with the parent of a blob, or none where it has none
  abbrev pub with_its : Option Text → Xattrs
  with_its o = option_map_or (λ id. with_value internal (codes "SNAP") id) o (without internal (codes "SNAP"))

  -- whose id is the value of SNAP
  pub snap_given : (o : Option Text) → value_of (with_its o) (codes "SNAP") ≡ o
  snap_given (Some id) = value_set internal (codes "SNAP") id
  snap_given None = none_without internal (codes "SNAP")

  pub parent_given : parent_in (with_parent_of internal m) ≡ parent_of m
  parent_given = ap (option_and_then named_in) (snap_given (value_of m.internal (codes "SNAP")))

  pub value_given : (other : Text) → bytes_eq (codes "SNAP") other ≡ false
      → value_of (with_parent_of internal m) other ≡ value_of internal other
  value_given other apart = at (value_of m.internal (codes "SNAP"))
    where
      at : (o : Option Text) → value_of (with_its o) other ≡ value_of internal other
      at (Some id) = value_beside internal (codes "SNAP") id other apart
      at None = value_without internal (codes "SNAP") other apart

  -- which changes no mark
  pub mark_given : mark_in (with_parent_of internal m) ≡ mark_in internal
  mark_given =
      ap (λ o. option_map_or (λ (bytes : Text). Some bytes) o
      (value_of (with_parent_of internal m) (codes "SNAPTMP"))) (value_given (codes "SNAPRM") refl)
      ∙ ap (λ o. option_map_or (λ (bytes : Text). Some bytes) (value_of internal (codes "SNAPRM")) o)
      (value_given (codes "SNAPTMP") refl)
