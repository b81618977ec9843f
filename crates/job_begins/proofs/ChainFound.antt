-- The chain that is found for a head.
use Rattle.std.proofs.Common.{◌≡◌, ◌≤◌, ◌-◌, ℕ, List, ◌∷◌, length, drop, take, Option, None, Some, IsSome, refl, sym}
use Rattle.std.proofs.Common.{ap, ◌∙◌}
use Rattle.std.proofs.Common.{arith}
use Rattle.std.proofs.lemmas.List.{take_all}

module _ (found : Option (List ℕ)) (head : ℕ) (chain : List ℕ) (is : found ≡ Some chain)
    (has : IsSome found → (behind : List ℕ) × (found ≡ Some (head ∷ behind))) where
  -- it begins with the head
  pub begins : (behind : List ℕ) × (chain ≡ head ∷ behind)
  begins = go found is has
    where
      go : (o : Option (List ℕ)) → o ≡ Some chain
          → (IsSome o → (behind : List ℕ) × (o ≡ Some (head ∷ behind)))
          → (behind : List ℕ) × (chain ≡ head ∷ behind)
      go None e h = absurd (cc e)
      go (Some c) e h =
          let x = h refl in
          let both : Some chain ≡ Some (head ∷ x.0) = sym e ∙ x.1 in
          (x.0, cc both)

  pub is_some : 1 ≤ length chain
  is_some = let long = ap (λ (l : List ℕ). length l) begins.1 in omega (arith, long)

  -- what stands behind its first place is behind the head
  pub rest_behind : (rest : List ℕ) → rest ≡ take (length chain - 1) (drop 1 chain) → found ≡ Some (head ∷ rest)
  rest_behind rest same =
      let whole : rest ≡ begins.0 = same ∙ ap (λ (l : List ℕ). take (length l - 1) (drop 1 l)) begins.1
      ∙ take_all (length (head ∷ begins.0) - 1) begins.0 (omega arith) in
      is ∙ ap (λ (l : List ℕ). Some l) begins.1 ∙ ap (λ (l : List ℕ). Some (head ∷ l)) (sym whole)
