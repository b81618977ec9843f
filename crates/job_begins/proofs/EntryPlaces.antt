-- Places in maps of blobs where a blob has had new metadata, and the generations of blobs that have some.
use Rattle.std.proofs.Common.{◌≡◌, ◌∙◌, ℕ, ◌+◌, ◌-◌, ◌<◌, ◌^◌, Bool, true, false, cond, List, [], ◌∷◌, Option}
use Rattle.std.proofs.Common.{Some, None, refl, sym, ap, subst, arith, inl, inr, IsSome}
use Rattle.std.specs.Prelude.{if◌then◌else◌, is_some}
use Rattle.std.specs.Ordering.{nat_cmp}
use Rattle.std.specs.Cmp.{nat_cmp_total}
use Rattle.std.specs.FinMap as map
use Rattle.std.proofs.lemmas.Bool.{cases_eq}
use Rattle.blob_meta.specs.declared.meta.Meta.{Meta}
use Rattle.blob_meta.specs.Resolving.{mark_of}
use Rattle.io_freeze.specs.Guards.{renewed, GuardsState}
use Rattle.shown_volumes.proofs.WithEntry.{given_elsewhere, given_here}
use Rattle.store_model.specs.Maps.{Map}
use Rattle.running_store.specs.Blobs.{metas_given, Blobs}
use Rattle.running_store.specs.Places.{CanNumber, HasPlace}
use Rattle.running_store.proofs.Maps.{insert_given}

-- ---- a map with an entry given

module _ {X : Type 0} (m : map.FinMap nat_cmp X) (head : ℕ) (x : X) where
  -- the entry is there,
  pub is_given : IsSome (map.get (map.insert m head x) head)
  is_given = ap is_some (ap (λ (f : Map X). f head) (insert_given m head x) ∙ given_here (map.get m) head x head refl)

  -- and so is each that was there
  pub is_still : (q : ℕ) → IsSome (map.get m q) → IsSome (map.get (map.insert m head x) q)
  is_still q there = elim (cases_eq q head) [
    | inl e ↦ subst (λ (h : ℕ). IsSome (map.get (map.insert m head x) h)) (sym e) is_given
    | inr ne ↦
        ap is_some (ap (λ (f : Map X). f q) (insert_given m head x) ∙ given_elsewhere (map.get m) head x q ne)
        ∙ there
  ]

  same_len : IsSome (map.get m head) → map.len (map.insert m head x) ≡ map.len m
  same_len there = map.len-insert nat_cmp_total m head x
      ∙ ap (λ (b : Bool). cond b (map.len m) (map.len m + 1)) there

  -- A place for another head stays where the map had the entry.
  pub place_still : (q : ℕ) (room : Option ℕ) → IsSome (map.get m head) → HasPlace m q room
      → HasPlace (map.insert m head x) q room
  place_still q None there has = is_still q has
  place_still q (Some room) there has = subst (λ (n : ℕ). n < room) (sym (same_len there)) has

-- ---- the metadata of a blob by its mark

abbrev pub MetaMap : Type 0
MetaMap = map.FinMap nat_cmp Meta

-- what a blob with a mark resolves to stays,
pub metas_stay : (metas : MetaMap) (head : ℕ) (new : Meta) (mark : List ℕ) → mark_of new ≡ Some mark
    → metas_given metas head new ≡ metas
metas_stay metas head new mark is =
    ap (λ (o : Option (List ℕ)). if is_some o then metas else map.insert metas head new) is

-- and one without a mark is as it is written
pub metas_written : (metas : MetaMap) (head : ℕ) (new : Meta) → mark_of new ≡ None
    → metas_given metas head new ≡ map.insert metas head new
metas_written metas head new is =
    ap (λ (o : Option (List ℕ)). if is_some o then metas else map.insert metas head new) is

-- the place for new metadata is among the marked blobs, where it has a mark,
pub place_aside : (b : Blobs) (head : ℕ) (new : Meta) (mark : List ℕ) (room : Option ℕ) → mark_of new ≡ Some mark
    → HasPlace b.marked head room → HasPlace (if is_some (mark_of new) then b.marked else b.metas) head room
place_aside b head new mark room is has =
    subst (λ (o : Option (List ℕ)). HasPlace (if is_some o then b.marked else b.metas) head room) (sym is) has

-- and else among the others
pub place_plain : (b : Blobs) (head : ℕ) (new : Meta) (room : Option ℕ) → mark_of new ≡ None
    → HasPlace b.metas head room → HasPlace (if is_some (mark_of new) then b.marked else b.metas) head room
place_plain b head new room is has =
    subst (λ (o : Option (List ℕ)). HasPlace (if is_some o then b.marked else b.metas) head room) (sym is) has

-- ---- generations

-- the first generation of a blob needs room and a number
pub can_first : (g : GuardsState) (head : ℕ) → map.len g.generations < g.room → g.drawn < 2 ^ 64 - 1
    → CanNumber g (head ∷ [])
can_first g head few left = (λ none. few, left, tt)

-- another one needs a number,
pub can_again : (g : GuardsState) (head : ℕ) → IsSome (map.get g.generations head) → g.drawn < 2 ^ 64 - 1
    → CanNumber g (head ∷ [])
can_again g head there left =
    (λ none. absurd (let bad : false ≡ true = sym (ap is_some none) ∙ there in cc bad), left, tt)

-- and those of two blobs two numbers
pub can_both : (g : GuardsState) (first second : ℕ) → IsSome (map.get g.generations first)
    → IsSome (map.get g.generations second) → g.drawn + 2 < 2 ^ 64 → CanNumber g (first ∷ second ∷ [])
can_both g first second there there_too left =
    let one = can_again g first there (omega (arith, left)) in
    let two = can_again (renewed g first) second
    (is_still g.generations first (g.drawn + 1) second there_too) (omega (arith, left)) in
    (one.0, one.1, two)
