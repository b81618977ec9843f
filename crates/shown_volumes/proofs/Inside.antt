-- The clusters of a map without fault are clusters of the store behind the fixed ones.
use Rattle.std.proofs.Common.{◌≡◌, ℕ, zero, suc, ◌<◌, ◌≤◌, Bool, false, List, [], ◌∷◌, Option, Some, None, refl, ap}
use Rattle.std.proofs.Common.{subst, arith, inl, inr}
use Rattle.std.specs.Prelude.{find, slice_get, if◌then◌else◌}
use Rattle.std.specs.Option.{option_map, option_and_then}
use Rattle.std.proofs.lemmas.Bool.{cases_Bool}
use Rattle.std.proofs.lemmas.Bool.Decides.{nat_tests}
use Rattle.blob_meta.specs.declared.meta.Meta.{Meta}
use Rattle.blob_meta.specs.declared.fault.MetaFault.TheVariants as faults
use Rattle.blob_meta.specs.Faults.{first_some, unknown_flag, too_large, cluster_outside, map_fault, hole_in_thick}
use Rattle.blob_meta.specs.Faults.{bad_mark, meta_fault, is_outside, clusters_held}
use Rattle.blob_meta.specs.Parents.{slot}

pub record IsInside (fixed clusters cluster : ℕ) : Type 0 where
  pub behind : fixed ≤ cluster
  pub below : cluster < clusters

pub none_second : {X : Type 0} (x y : Option X) (rest : List (Option X)) → first_some (x ∷ y ∷ rest) ≡ None → y ≡ None
none_second None None rest none = refl
none_second None (Some y) rest none = none
none_second (Some x) y rest none = absurd (cc none)

pub none_of_map : {X Y : Type 0} (f : X → Y) (o : Option X) → option_map f o ≡ None → o ≡ None
none_of_map f None none = refl
none_of_map f (Some x) none = absurd (cc none)

module _ (fixed clusters : ℕ) where
  not_outside : (cluster : ℕ) → is_outside fixed clusters cluster ≡ false → IsInside fixed clusters cluster
  not_outside cluster is = record { behind = grind (arith, nat_tests, is); below = grind (arith, nat_tests, is) }

  pub passes : (c : ℕ) (rest : List ℕ) → find (is_outside fixed clusters) (c ∷ rest) ≡ None
      → (is_outside fixed clusters c ≡ false) × (find (is_outside fixed clusters) rest ≡ None)
  passes c rest none = elim (cases_Bool (is_outside fixed clusters c)) [
    | inl out ↦ absurd (let e : Some c ≡ None = subst
        (λ (b : Bool). (if b then Some c else find (is_outside fixed clusters) rest) ≡ None) out none in cc e)
    | inr inside ↦
        (inside, subst (λ (b : Bool). (if b then Some c else find (is_outside fixed clusters) rest) ≡ None) inside none)
  ]

  inside_at : (map : List (Option ℕ)) (i cluster : ℕ) → find (is_outside fixed clusters) (clusters_held map) ≡ None
      → slice_get map i ≡ Some (Some cluster) → is_outside fixed clusters cluster ≡ false
  inside_at [] i cluster none at = absurd (cc at)
  inside_at (None ∷ map) zero cluster none at = absurd (cc at)
  inside_at (None ∷ map) (suc i) cluster none at = inside_at map i cluster none at
  inside_at (Some c ∷ map) zero cluster none at =
      let e : c ≡ cluster = cc at in
      subst (λ k. is_outside fixed clusters k ≡ false) e (passes c (clusters_held map) none).0
  inside_at (Some c ∷ map) (suc i) cluster none at = inside_at map i cluster (passes c (clusters_held map) none).1 at

  pub inside_slot : (m : Meta) (i cluster : ℕ) → meta_fault fixed clusters m ≡ None → slot m i ≡ Some cluster
      → IsInside fixed clusters cluster
  inside_slot m i cluster none at =
      let in_map : map_fault fixed clusters m.map ≡ None = none_second (unknown_flag m.flags)
      (map_fault fixed clusters m.map) (hole_in_thick m.flags m.map ∷ bad_mark m.internal ∷ []) none in
      let out : cluster_outside fixed clusters m.map ≡ None =
      none_second (too_large m.map) (cluster_outside fixed clusters m.map) [] in_map in
      not_outside cluster
      (inside_at m.map i cluster (none_of_map faults.ClusterOutside _ out) (filled (slice_get m.map i) at))
    where
      filled : (o : Option (Option ℕ)) → option_and_then (λ s. s) o ≡ Some cluster → o ≡ Some (Some cluster)
      filled None at = absurd (cc at)
      filled (Some o) at = ap (λ x. Some x) at
