-- The tests of metadata, and which maps pass them.
use Rattle.std.proofs.Common.{◌≡◌, ℕ, zero, suc, ◌<◌, ◌≤◌, ◌^◌, Bool, true, false, List, [], ◌∷◌, length, Option, Some}
use Rattle.std.proofs.Common.{None, refl, sym, ap, ◌∙◌, inl, inr, arith}
use Rattle.std.specs.Prelude.{find, if◌then◌else◌, is_none, IsSome, nat_le, nat_lt, slice_get, slice_index_or}
use Rattle.std.specs.List.{position, position_or_len}
use Rattle.std.specs.Option.{option_and_then}
use Rattle.std.proofs.lemmas.Bool.{cases_lt, le-leb, lt-ltb}
use Rattle.std.proofs.lemmas.List.Quantifiers.{position-Some}
use Rattle.std.proofs.lemmas.List.Sums.{fails_before_first}
use Rattle.blob_meta.specs.declared.fault.MetaFault.{MetaFault}
use Rattle.blob_meta.specs.declared.meta.Meta.{Meta}
use Rattle.blob_meta.specs.Faults.{bad_mark, cluster_outside, clusters_held, first_some, hole_in_thick, is_outside}
use Rattle.blob_meta.specs.Jobs.{new_meta}
use Rattle.blob_meta.specs.Says.{without_bit_1}
use Rattle.blob_meta.specs.Faults.{map_fault, meta_fault, too_large, unknown_flag}
use Rattle.shown_volumes.proofs.Inside.{none_second}

-- ---- the tests

-- no test of metadata fails
pub all_pass : (a b c d : Option MetaFault) → a ≡ None → b ≡ None → c ≡ None → d ≡ None
    → first_some (a ∷ b ∷ c ∷ d ∷ []) ≡ None
all_pass a b c d an bn cn dn = rw (an, bn, cn, dn) refl

pub few_pass : (slots : ℕ) (map : List (Option ℕ)) → length map ≡ slots → slots ≤ 2 ^ 20 → too_large map ≡ None
few_pass slots map count few = let le : nat_le (length map) (2 ^ 20) ≡ true = le-leb (length map) (2 ^ 20)
    (omega (arith, count, few)) in rw le refl

-- the tests of metadata without fault
pub record Passes (fixed clusters : ℕ) (m : Meta) : Type 0 where
  pub flags : unknown_flag m.flags ≡ None
  pub few : too_large m.map ≡ None
  pub map : cluster_outside fixed clusters m.map ≡ None
  pub full : hole_in_thick m.flags m.map ≡ None
  pub marks : bad_mark m.internal ≡ None

pub passes : (fixed clusters : ℕ) (m : Meta) → meta_fault fixed clusters m ≡ None → Passes fixed clusters m
passes fixed clusters m none =
    let rest = none_first (unknown_flag m.flags) _ none in
    let behind = none_first (map_fault fixed clusters m.map) _ rest.1 in
    let last = none_first (hole_in_thick m.flags m.map) _ behind.1 in
    record {
      flags = rest.0;
      few = (none_first (too_large m.map) _ behind.0).0;
      map = none_second (too_large m.map) (cluster_outside fixed clusters m.map) [] behind.0;
      full = last.0;
      marks = (none_first (bad_mark m.internal) [] last.1).0;
    }
  where
    none_first : (o : Option MetaFault) (os : List (Option MetaFault)) → first_some (o ∷ os) ≡ None
        → (o ≡ None) × (first_some os ≡ None)
    none_first None os none = (refl, none)
    none_first (Some x) os none = absurd (cc none)

-- ---- flags of a new blob

-- its flags are known ones
pub known_flags : (thick : Bool) → unknown_flag (new_meta 0 [] thick 0).flags ≡ None
known_flags true = refl
known_flags false = refl

-- and have no other bit
pub clear_flags : (thick : Bool) → without_bit_1 (if thick then 0 else 1) ≡ (if thick then 0 else 1)
clear_flags true = refl
clear_flags false = refl

-- ---- maps

-- the cluster in a slot of a map
abbrev pub slot_in : List (Option ℕ) → ℕ → Option ℕ
slot_in map i = option_and_then (λ s. s) (slice_get map i)

-- no slot of a map without a hole is empty
pub all_full : (map : List (Option ℕ)) → position is_none map ≡ None → (i : ℕ) → i < length map
    → is_none (slice_index_or map i None) ≡ false
all_full map none i lt = elim (cases_lt (position_or_len is_none map) (length map)) [
  | inl some ↦ absurd (let t : nat_lt (position_or_len is_none map) (length map) ≡ true = lt-ltb _ _ some in
      let bad : Some (position_or_len is_none map) ≡ None = sym (rw t refl) ∙ none in cc bad)
  | inr past ↦ fails_before_first is_none map i None (omega (arith, past, lt))
]

-- no cluster of a map lies outside
pub all_inside : (fixed clusters : ℕ) (map : List (Option ℕ))
    → ((i c : ℕ) → slot_in map i ≡ Some c → is_outside fixed clusters c ≡ false)
    → find (is_outside fixed clusters) (clusters_held map) ≡ None
all_inside fixed clusters [] inside = refl
all_inside fixed clusters (None ∷ map) inside = all_inside fixed clusters map (λ i. inside (suc i))
all_inside fixed clusters (Some c ∷ map) inside =
    rw (inside 0 c refl) (all_inside fixed clusters map (λ i. inside (suc i)))

slot_get : (map : List (Option ℕ)) (i : ℕ) → slot_in map i ≡ slice_index_or map i None
slot_get [] i = refl
slot_get (x ∷ map) zero = refl
slot_get (x ∷ map) (suc i) = slot_get map i

-- a map whose slots are all filled has no hole
pub all_filled : (map : List (Option ℕ)) → ((i : ℕ) → i < length map → IsSome (slot_in map i))
    → position is_none map ≡ None
all_filled map filled = by (position is_none map) refl
  where
    some_not : (o : Option ℕ) → IsSome o → is_none o ≡ true → ⊥
    some_not None some none = cc some
    some_not (Some x) some none = cc none

    by : (o : Option ℕ) → position is_none map ≡ o → position is_none map ≡ None
    by None is = is
    by (Some i) is =
        let some = position-Some is_none map i None is in
        absurd (some_not (slot_in map i) (filled i some.0) (ap is_none (slot_get map i) ∙ some.1))

-- and the other way round
pub slot_filled : (map : List (Option ℕ)) → position is_none map ≡ None → (i : ℕ) → i < length map
    → IsSome (slot_in map i)
slot_filled map none i lt = some_of (slot_in map i) (ap is_none (slot_get map i) ∙ all_full map none i lt)
  where
    some_of : (o : Option ℕ) → is_none o ≡ false → IsSome o
    some_of None is = absurd (cc is)
    some_of (Some x) is = refl
