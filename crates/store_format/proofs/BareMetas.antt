-- Metadata without clusters and without parents, as a new store has it.
use Rattle.std.proofs.Common.{◌≡◌, ℕ, zero, suc, ◌^◌, ◌≤◌, List, [], ◌∷◌, length, None, Option, Some, refl, sym, ap}
use Rattle.std.proofs.Common.{subst, ◌∙◌, arith}
use Rattle.std.specs.List.{range_with_len, sum_by}
use Rattle.std.specs.Option.{option_and_then, option_map_or}
use Rattle.std.proofs.lemmas.List.Sums.{sum_by-cons}
use Rattle.blob_meta.specs.declared.meta.Meta.{Meta}
use Rattle.blob_meta.specs.Parents.{parent_of, slot}
use Rattle.blob_meta.specs.Resolving.{resolved, resolved_one, IsLawful, slots_together}
use Rattle.store_model.specs.Maps.{Metas}
use Rattle.store_model.specs.Steady.{AreNamed}
use Rattle.store_format.specs.SuperBlob.{new_metas, super_meta}
use Rattle.store_format.specs.declared.super_blob.StoreName.{StoreName}

-- no blob has a slot, or an internal attribute
abbrev pub AreBare : Metas → Type 0
AreBare metas = (head : ℕ) (m : Meta) → metas head ≡ Some m → (m.map ≡ []) × (m.internal ≡ [])

-- such a blob has no cluster,
pub no_cluster : (m : Meta) → m.map ≡ [] → (i : ℕ) → slot m i ≡ None
no_cluster m none i = rw none refl

-- and no parent
no_parent : (m : Meta) → m.internal ≡ [] → parent_of m ≡ None
no_parent m none = rw none refl

abbrev slots_at : Metas → ℕ → ℕ
slots_at metas head = option_map_or (λ (m : Meta). length m.map) (metas head) 0

no_slots : (found : Option Meta) → ((m : Meta) → found ≡ Some m → (m.map ≡ []) × (m.internal ≡ []))
    → option_map_or (λ (m : Meta). length m.map) found 0 ≡ 0
no_slots None bare = refl
no_slots (Some m) bare = ap (λ (map : List (Option ℕ)). length map) (bare m refl).0

none_together : (metas : Metas) → AreBare metas → (heads : List ℕ) → sum_by (slots_at metas) heads ≡ 0
none_together metas bare [] = refl
none_together metas bare (head ∷ heads) =
    let more = sum_by-cons (slots_at metas) head heads in
    let here : slots_at metas head ≡ 0 = no_slots (metas head) (bare head) in
    let rest = none_together metas bare heads in
    omega (arith, more, here, rest)

-- there are few slots together
pub few_slots : (metas : Metas) → AreBare metas → (md_len : ℕ) → slots_together md_len metas ≤ 2 ^ 24
few_slots metas bare md_len = let none = none_together metas bare (range_with_len 0 md_len) in omega (arith, none)

-- such metadata is lawful
pub bare_is_lawful : (metas : Metas) → AreBare metas → (md_len : ℕ) → IsLawful md_len metas
bare_is_lawful metas bare md_len = record {
  alone =
      λ h k i j cluster m n is also at same.
      absurd (let bad = sym (no_cluster m (bare h m is).0 i) ∙ at in cc bad);
  parents = λ h p m is of. absurd (let bad = sym (no_parent m (bare h m is).1) ∙ of in cc bad);
  rank = λ head. 0;
  falls = λ h p m is of. absurd (let bad = sym (no_parent m (bare h m is).1) ∙ of in cc bad);
  few = few_slots metas bare md_len;
}

-- nothing is marked, so recovery leaves it as it is
found_as_is : (metas : Metas) (head : ℕ) (found : Option Meta)
    → ((m : Meta) → found ≡ Some m → (m.map ≡ []) × (m.internal ≡ []))
    → option_and_then (resolved_one metas head) found ≡ found
found_as_is metas head None bare = refl
found_as_is metas head (Some m) bare = rw (bare m refl).1 refl

resolved_as_is : (metas : Metas) → AreBare metas → (head : ℕ) → resolved metas head ≡ metas head
resolved_as_is metas bare head = found_as_is metas head (metas head) (bare head)

-- and so what recovery makes of it is such too
pub resolved_bare : (metas : Metas) → AreBare metas → AreBare (resolved metas)
resolved_bare metas bare head m is = bare head m (sym (resolved_as_is metas bare head) ∙ is)

-- each SNAP names a head, as there is none
pub bare_are_named : (metas : Metas) → AreBare metas → AreNamed metas
bare_are_named metas bare head m is = rw (bare head m is).1 refl

-- the metadata of a new store is such
pub new_bare : (named : Option StoreName) → AreBare (new_metas named)
new_bare None head m is = absurd (cc is)
new_bare (Some named) zero m is =
    let same : super_meta named ≡ m = cc is in
    subst (λ (n : Meta). (n.map ≡ []) × (n.internal ≡ [])) same (refl, refl)
new_bare (Some named) (suc head) m is = absurd (cc is)
