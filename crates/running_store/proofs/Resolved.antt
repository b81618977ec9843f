-- What the device says beside what the store has in memory, of which some blobs may have a mark.
use Rattle.std.proofs.Common.{◌≡◌, ◌≢◌, ℕ, ◌==◌, Bool, true, false, if◌then◌else◌, Option, Some, None, refl, sym, ap}
use Rattle.std.proofs.Common.{◌∙◌, ◌↔◌, inl, inr, arith, subst, List, IfNone, IfSome, IsSome, IsTrue}
use Rattle.std.specs.Prelude.{codes, is_some, not}
use Rattle.std.specs.Option.{option_map_or, option_or}
use Rattle.std.specs.Ordering.{nat_cmp}
use Rattle.std.specs.FinMap as map
use Rattle.std.proofs.Math.Path.{fun_ext}
use Rattle.std.proofs.lemmas.Bool.{cases_eq, eq-eqb, ne_eqb}
use Rattle.volume_model.specs.Xattrs.{value_of}
use Rattle.blob_meta.specs.declared.meta.Meta.{Meta}
use Rattle.blob_meta.specs.Heads.{HasNoKeyFrom, IsNextFrom}
use Rattle.blob_meta.specs.Repairs.{HasNoMarks}
use Rattle.blob_meta.specs.Resolving.{mark_of, resolved}
use Rattle.blob_meta.proofs.ResolvedBlobs.{no_marks}
use Rattle.store_model.specs.Maps.{Metas, with_entry, without_entry}
use Rattle.store_model.proofs.WithEntry.{given_elsewhere, given_here}
use Rattle.store_model.proofs.Resolved.{unmarked_resolved}
use Rattle.running_store.specs.StoreView.{base_of, AreResolved}
use Rattle.running_store.proofs.Maps.{insert_given, remove_given}

abbrev MetaMap : Type 0
MetaMap = map.FinMap nat_cmp Meta

-- what metadata resolves to has no mark
pub resolved_none : (metas : Metas) (head : ℕ) (m : Meta) → resolved metas head ≡ Some m → mark_of m ≡ None
resolved_none metas head m is =
    let neither = no_marks metas head m is in
    ap (λ (o : Option (List ℕ)). option_map_or (λ (bytes : List ℕ). Some bytes) o
    (value_of m.internal (codes "SNAPTMP"))) neither.0 ∙ neither.1

module _ (metas marked : MetaMap) where
  -- no blob has a mark exactly where none is kept aside
  none_marked : AreResolved metas marked → HasNoMarks (base_of metas marked) → (head : ℕ) → map.get marked head ≡ None
  none_marked are none head = by (map.get marked head) refl
    where
      by : (o : Option Meta) → map.get marked head ≡ o → map.get marked head ≡ None
      by None is = is
      by (Some m) is = absurd (are.marks head m is
          (none head m (ap (λ (o : Option Meta). option_or o (map.get metas head)) is)))

  unmarked_where : AreResolved metas marked → ((head : ℕ) → map.get marked head ≡ None)
      → HasNoMarks (base_of metas marked)
  unmarked_where are none head m is =
      let same : base_of metas marked head ≡ map.get metas head =
      ap (λ (o : Option Meta). option_or o (map.get metas head)) (none head) in
      resolved_none (base_of metas marked) head m (ap (λ (f : Metas). f head) are.resolves ∙ sym same ∙ is)

  pub is_unmarked : AreResolved metas marked → (next : Option ℕ) → IfSome next (λ n. IsNextFrom marked 0 n)
      → IfNone next (HasNoKeyFrom marked 0) → (b : Bool) → is_some next ≡ not b
      → IsTrue b ↔ HasNoMarks (base_of metas marked)
  is_unmarked are None some none true is = (λ _. unmarked_where are (λ head. none head (omega arith)), λ _. refl)
  is_unmarked are None some none false is = absurd (cc is)
  is_unmarked are (Some n) some none true is = absurd (cc is)
  is_unmarked are (Some n) some none false is = (
    λ holds. absurd (cc holds),
    λ clean. absurd (let bad = subst (λ (o : Option Meta). IsSome o) (none_marked are clean n) some.there in cc bad),
  )

  -- where no blob has a mark, the device says what the store has
  pub unmarked_base : AreResolved metas marked → HasNoMarks (base_of metas marked)
      → base_of metas marked ≡ map.get metas
  unmarked_base are none = fun_ext (λ head.
      ap (λ (o : Option Meta). option_or o (map.get metas head)) (none_marked are none head))

  -- the device's metadata behind a replacement
  pub base_given : (head : ℕ) (new : Meta)
      → base_of (map.insert metas head new) (map.remove marked head) ≡ with_entry (base_of metas marked) head new
  base_given head new = fun_ext (λ q.
      ap (λ (f : Metas). option_or (f q) (map.get (map.insert metas head new) q)) (remove_given marked head)
      ∙ ap (λ (f : Metas). option_or (without_entry (map.get marked) head q) (f q)) (insert_given metas head new)
      ∙ by (q == head) (map.get marked q) (map.get metas q))
    where
      by : (b : Bool) (x y : Option Meta)
          → option_or (if b then None else x) (if b then Some new else y) ≡ (if b then Some new else option_or x y)
      by true x y = refl
      by false x y = refl

  -- a blob that is replaced or erased is kept aside no more, and the others have their marks
  pub still_marked : (head : ℕ) → AreResolved metas marked → (q : ℕ) (m : Meta)
      → map.get (map.remove marked head) q ≡ Some m → mark_of m ≢ None
  still_marked head are q m is = elim (cases_eq q head) [
    | inl e ↦ absurd (let gone : map.get (map.remove marked head) q ≡ None =
        ap (map.get (map.remove marked head)) e ∙ ap (λ (f : Metas). f head) (remove_given marked head)
        ∙ here head in cc (gone, is))
    | inr ne ↦ are.marks q m (sym (ap (λ (f : Metas). f q) (remove_given marked head) ∙ elsewhere q ne) ∙ is)
  ]
    where
      here : (h : ℕ) → without_entry (map.get marked) h h ≡ None
      here h = rw (eq-eqb h h refl) refl

      elsewhere : (q : ℕ) → q ≢ head → without_entry (map.get marked) head q ≡ map.get marked q
      elsewhere q ne = rw (ne_eqb q head ne) refl

  -- the replaced blob has its mark no more, and the others are as they were
  pub resolved_behind : (head : ℕ) (new : Meta) → AreResolved metas marked
      → resolved (with_entry (base_of metas marked) head new) ≡ map.get (map.insert metas head new)
      → AreResolved (map.insert metas head new) (map.remove marked head)
  resolved_behind head new are will = record {
    marks = still_marked head are;
    resolves = ap resolved (base_given head new) ∙ will;
  }

-- Where no blob has a mark, none has one once a blob is given metadata without a mark: the metadata resolves as it is.
pub will_resolve : (metas marked : MetaMap) (head : ℕ) (new : Meta) → AreResolved metas marked
    → HasNoMarks (base_of metas marked) → mark_of new ≡ None
    → resolved (with_entry (base_of metas marked) head new) ≡ map.get (map.insert metas head new)
will_resolve metas marked head new are none unmarked =
    unmarked_resolved (with_entry (base_of metas marked) head new) still
    ∙ ap (λ (m : Metas). with_entry m head new) (unmarked_base metas marked are none)
    ∙ sym (insert_given metas head new)
  where
    still : HasNoMarks (with_entry (base_of metas marked) head new)
    still q m is = elim (cases_eq q head) [
      | inl e ↦ let one : new ≡ m = let both = sym (given_here (base_of metas marked) head new q e) ∙ is in cc both in
          ap mark_of (sym one) ∙ unmarked
      | inr ne ↦ none q m (sym (given_elsewhere (base_of metas marked) head new q ne) ∙ is)
    ]
