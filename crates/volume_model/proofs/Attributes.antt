-- A list of attributes, walked along.
use Rattle.std.proofs.Common.{◌≡◌, ℕ, suc, ◌+◌, ◌<◌, true, false, [], ◌∷◌, ◌++◌, length, get_or, drop, refl, sym, ap}
use Rattle.std.proofs.Common.{◌∙◌, append_assoc, add-one}
use Rattle.std.proofs.Math.Seq.{drop-cons}
use Rattle.std.specs.Str.{bytes_eq}
use Rattle.volume_model.specs.Xattrs.{Text, Xattrs, with_value}
use Rattle.volume_model.specs.declared.text.Xattr.{Xattr}

module _ (xs : Xattrs) (i : ℕ) (x : Xattr) (within : i < length xs) (is : x ≡ get_or xs i x) where
  ahead : drop i xs ≡ x ∷ drop (i + 1) xs
  ahead = drop-cons xs i x within ∙ ap (λ y. y ∷ drop (suc i) xs) (sym is) ∙ ap (λ n. x ∷ drop n xs) (sym (add-one i))

  module _ (list all : Xattrs) where
    joined : (rest : Xattrs) (y : Xattr) → list ++ y ∷ rest ≡ all → (list ++ y ∷ []) ++ rest ≡ all
    joined rest y e = append_assoc list (y ∷ []) rest ∙ e

    -- for the loops that copy attributes: the one that is copied stands last, and what is left begins behind it
    pub copied : list ++ drop i xs ≡ all → (list ++ x ∷ []) ++ drop (i + 1) xs ≡ all
    copied e = joined (drop (i + 1) xs) x (ap (λ ys. list ++ ys) (sym ahead) ∙ e)

    module _ (key value : Text) where
      abbrev given : Xattr
      given = record { key = key; value = value }

      -- the first attribute of the key gets the value
      pub set_here : x.key ≡ key → bytes_eq x.key key ≡ true → list ++ with_value (drop i xs) key value ≡ all
          → (list ++ given ∷ []) ++ drop (i + 1) xs ≡ all
      set_here same test e =
          let here : with_value (x ∷ drop (i + 1) xs) key value ≡ given ∷ drop (i + 1) xs =
          rw test (ap (λ (k : Text). record { key = k; value = value } ∷ drop (i + 1) xs) same) in
          joined (drop (i + 1) xs) given (ap (λ ys. list ++ ys)
          (sym here ∙ ap (λ ys. with_value ys key value) (sym ahead)) ∙ e)

      -- one of another key is passed
      pub passed : bytes_eq x.key key ≡ false → list ++ with_value (drop i xs) key value ≡ all
          → (list ++ x ∷ []) ++ with_value (drop (i + 1) xs) key value ≡ all
      passed test e =
          let here : with_value (x ∷ drop (i + 1) xs) key value ≡ x ∷ with_value (drop (i + 1) xs) key value =
          rw test refl in
          joined (with_value (drop (i + 1) xs) key value) x
          (ap (λ ys. list ++ ys) (sym here ∙ ap (λ ys. with_value ys key value) (sym ahead)) ∙ e)
