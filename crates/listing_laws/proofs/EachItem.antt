-- What holds of each item of a list.
use Rattle.std.proofs.Common.{◌≡◌, Bool, true, false, List, [], ◌∷◌, ◌++◌, refl}
use Rattle.std.specs.Prelude.{cond}
use Rattle.std.specs.List.{AllByRecursion, filter, flat_map}

module _ {X : Type 0} where
  pub each_weaker : (P Q : X → Type 0) → ((x : X) → P x → Q x) → (xs : List X) → AllByRecursion P xs
      → AllByRecursion Q xs
  each_weaker P Q so [] each = tt
  each_weaker P Q so (x ∷ xs) each = (so x each.0, each_weaker P Q so xs each.1)

  pub each_both : (P Q : X → Type 0) (xs : List X) → AllByRecursion P xs → AllByRecursion Q xs
      → AllByRecursion (λ x. P x × Q x) xs
  each_both P Q [] one two = tt
  each_both P Q (x ∷ xs) one two = ((one.0, two.0), each_both P Q xs one.1 two.1)

  pub each_append : (P : X → Type 0) (xs ys : List X) → AllByRecursion P xs → AllByRecursion P ys
      → AllByRecursion P (xs ++ ys)
  each_append P [] ys one two = two
  each_append P (x ∷ xs) ys one two = (one.0, each_append P xs ys one.1 two)

  -- what a filter leaves passes its test
  pub each_filter : (P : X → Type 0) (test : X → Bool) (xs : List X) → AllByRecursion P xs
      → AllByRecursion (λ x. P x × (test x ≡ true)) (filter test xs)
  each_filter P test [] each = tt
  each_filter P test (x ∷ xs) each =
      (elim (test x) as (λ b. test x ≡ b
      → AllByRecursion (λ y. P y × (test y ≡ true)) (cond b (x ∷ filter test xs) (filter test xs))) [
        | true ↦ λ is. ((each.0, is), each_filter P test xs each.1)
        | false ↦ λ not. each_filter P test xs each.1
      ]) refl

pub each_flat_map : {X Y : Type 0} (P : Y → Type 0) (g : X → List Y) (xs : List X)
    → AllByRecursion (λ x. AllByRecursion P (g x)) xs → AllByRecursion P (flat_map g xs)
each_flat_map P g [] each = tt
each_flat_map P g (x ∷ xs) each = each_append P (g x) (flat_map g xs) each.0 (each_flat_map P g xs each.1)
