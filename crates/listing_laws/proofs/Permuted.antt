-- Lists that have the same items, in whatever order.
use Rattle.std.proofs.Common.{◌≡◌, List, [], ◌∷◌, ◌++◌, subst}
use Rattle.std.specs.Prelude.{IsPermutation}
use Rattle.std.specs.List.{flat_map}
use Rattle.std.proofs.lemmas.List.Sorted.{IsPermutation-append_comm, IsPermutation-append_left, IsPermutation-cons}
use Rattle.std.proofs.lemmas.List.Sorted.{IsPermutation-refl, IsPermutation-trans}

-- by steps that turn two neighbours round
pub data Permuted {X : Type 0} : List X → List X → Type 0 where
  none : Permuted [] []
  both : (x : X) (xs ys : List X) → Permuted xs ys → Permuted (x ∷ xs) (x ∷ ys)
  turned : (x y : X) (xs : List X) → Permuted (x ∷ y ∷ xs) (y ∷ x ∷ xs)
  chained : (xs ys zs : List X) → Permuted xs ys → Permuted ys zs → Permuted xs zs

module _ {X : Type 0} where
  pub is_permutation : {xs ys : List X} → Permuted xs ys → IsPermutation xs ys
  is_permutation none = IsPermutation-refl []
  is_permutation (both x xs ys p) = IsPermutation-cons x xs ys (is_permutation p)
  is_permutation (turned x y xs) =
      IsPermutation-append_left xs (x ∷ y ∷ []) (y ∷ x ∷ []) (IsPermutation-append_comm (x ∷ []) (y ∷ []))
  is_permutation (chained xs ys zs p q) = IsPermutation-trans xs ys zs (is_permutation p) (is_permutation q)

  pub permuted_same : (xs : List X) → Permuted xs xs
  permuted_same [] = none
  permuted_same (x ∷ xs) = both x xs xs (permuted_same xs)

  pub permuted_equal : (xs ys : List X) → xs ≡ ys → Permuted xs ys
  permuted_equal xs ys e = subst (λ (zs : List X). Permuted xs zs) e (permuted_same xs)

  pub permuted_back : {xs ys : List X} → Permuted xs ys → Permuted ys xs
  permuted_back none = none
  permuted_back (both x xs ys p) = both x ys xs (permuted_back p)
  permuted_back (turned x y xs) = turned y x xs
  permuted_back (chained xs ys zs p q) = chained zs ys xs (permuted_back q) (permuted_back p)

  pub permuted_behind : (zs xs ys : List X) → Permuted xs ys → Permuted (zs ++ xs) (zs ++ ys)
  permuted_behind [] xs ys p = p
  permuted_behind (z ∷ zs) xs ys p = both z (zs ++ xs) (zs ++ ys) (permuted_behind zs xs ys p)

  pub permuted_before : (zs : List X) {xs ys : List X} → Permuted xs ys → Permuted (xs ++ zs) (ys ++ zs)
  permuted_before zs none = permuted_same zs
  permuted_before zs (both x xs ys p) = both x (xs ++ zs) (ys ++ zs) (permuted_before zs p)
  permuted_before zs (turned x y xs) = turned x y (xs ++ zs)
  permuted_before zs (chained xs ys ws p q) =
      chained (xs ++ zs) (ys ++ zs) (ws ++ zs) (permuted_before zs p) (permuted_before zs q)

  -- an item goes to the front
  pub to_front : (xs : List X) (x : X) (ys : List X) → Permuted (xs ++ x ∷ ys) (x ∷ (xs ++ ys))
  to_front [] x ys = permuted_same (x ∷ ys)
  to_front (z ∷ xs) x ys =
      chained (z ∷ (xs ++ x ∷ ys)) (z ∷ x ∷ (xs ++ ys)) (x ∷ z ∷ (xs ++ ys))
      (both z (xs ++ x ∷ ys) (x ∷ (xs ++ ys)) (to_front xs x ys)) (turned z x (xs ++ ys))

  -- two lists before a third change places
  pub change_places : (xs ys zs : List X) → Permuted (xs ++ (ys ++ zs)) (ys ++ (xs ++ zs))
  change_places [] ys zs = permuted_same (ys ++ zs)
  change_places (x ∷ xs) ys zs =
      chained (x ∷ (xs ++ (ys ++ zs))) (x ∷ (ys ++ (xs ++ zs))) (ys ++ x ∷ (xs ++ zs))
      (both x (xs ++ (ys ++ zs)) (ys ++ (xs ++ zs)) (change_places xs ys zs))
      (permuted_back (to_front ys x (xs ++ zs)))

pub permuted_flat_map : {X Y : Type 0} (g : X → List Y) {xs ys : List X} → Permuted xs ys
    → Permuted (flat_map g xs) (flat_map g ys)
permuted_flat_map g none = none
permuted_flat_map g (both x xs ys p) =
    permuted_behind (g x) (flat_map g xs) (flat_map g ys) (permuted_flat_map g p)
permuted_flat_map g (turned x y xs) = change_places (g x) (g y) (flat_map g xs)
permuted_flat_map g (chained xs ys zs p q) =
    chained (flat_map g xs) (flat_map g ys) (flat_map g zs) (permuted_flat_map g p) (permuted_flat_map g q)
