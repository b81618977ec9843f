-- A map with one entry given, or gone.
use Rattle.std.proofs.Common.{◌≡◌, ◌≢◌, ℕ, Option, Some, None, refl, sym, subst, inl, inr}
use Rattle.std.proofs.lemmas.Bool.{cases_eq, eq-eqb, ne_eqb}
use Rattle.shown_volumes.specs.Maps.{Map, with_entry, without_entry}

module _ {X : Type 0} (m : Map X) (head : ℕ) (x : X) where
  pub given_here : (h : ℕ) → h ≡ head → with_entry m head x h ≡ Some x
  given_here h e = rw (eq-eqb h head e) refl

  pub given_elsewhere : (h : ℕ) → h ≢ head → with_entry m head x h ≡ m h
  given_elsewhere h ne = rw (ne_eqb h head ne) refl

  -- what holds of the entry that is given, and of all others, holds of each
  pub given_cases : (P : ℕ → Option X → Type 0) (h : ℕ) → P head (Some x) → (h ≢ head → P h (m h))
      → P h (with_entry m head x h)
  given_cases P h here others = elim (cases_eq h head) [
    | inl e ↦ subst (λ o. P h o) (sym (given_here h e)) (subst (λ n. P n (Some x)) (sym e) here)
    | inr ne ↦ subst (λ o. P h o) (sym (given_elsewhere h ne)) (others ne)
  ]

module _ {X : Type 0} (m : Map X) (head : ℕ) where
  pub gone_here : (h : ℕ) → h ≡ head → without_entry m head h ≡ None
  gone_here h e = rw (eq-eqb h head e) refl

  pub gone_elsewhere : (h : ℕ) → h ≢ head → without_entry m head h ≡ m h
  gone_elsewhere h ne = rw (ne_eqb h head ne) refl
