-- A map with one entry given, or gone.
use Rattle.std.proofs.Common.{◌≡◌, ◌≢◌, ◌∙◌, ℕ, Option, Some, refl, sym, subst, inl, inr}
use Rattle.std.proofs.lemmas.Bool.{cases_eq, eq-eqb, ne_eqb}
use Rattle.store_model.specs.Maps.{Map, with_entry, with_option}
pub use Rattle.shown_volumes.proofs.WithEntry.{given_here, given_elsewhere}

module _ {X : Type 0} (m : Map X) (head : ℕ) (x : X) where
  -- what holds of each entry holds of each with the given one too, if it holds of that
  pub given_all : (P : ℕ → X → Type 0) → ((h : ℕ) (y : X) → m h ≡ Some y → P h y) → P head x
      → (h : ℕ) (y : X) → with_entry m head x h ≡ Some y → P h y
  given_all P all one h y is = elim (cases_eq h head) [
    | inl e ↦
        let same : x ≡ y = let both = sym (given_here m head x h e) ∙ is in cc both in
        subst (λ k. P k y) (sym e) (subst (P head) same one)
    | inr ne ↦ all h y (sym (given_elsewhere m head x h ne) ∙ is)
  ]

module _ {X : Type 0} (m : Map X) (head : ℕ) (o : Option X) where
  pub option_here : (h : ℕ) → h ≡ head → with_option m head o h ≡ o
  option_here h e = rw (eq-eqb h head e) refl

  pub option_elsewhere : (h : ℕ) → h ≢ head → with_option m head o h ≡ m h
  option_elsewhere h ne = rw (ne_eqb h head ne) refl

  -- what holds of each entry holds of each behind it, if it holds of the one that is given
  pub option_all : (P : ℕ → X → Type 0) → ((h : ℕ) (y : X) → m h ≡ Some y → P h y) → ((y : X) → o ≡ Some y → P head y)
      → (h : ℕ) (y : X) → with_option m head o h ≡ Some y → P h y
  option_all P all one h y is = elim (cases_eq h head) [
    | inl e ↦ subst (λ k. P k y) (sym e) (one y (sym (option_here h e) ∙ is))
    | inr ne ↦ all h y (sym (option_elsewhere h ne) ∙ is)
  ]
