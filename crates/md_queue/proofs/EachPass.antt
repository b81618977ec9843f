-- What holds of each pass of a queue with its view, where one view changes or one pass more comes; and functions with
-- another value at one place.
use Rattle.std.proofs.Common.{◌≡◌, ◌≢◌, ◌⊎◌, inl, inr, ⊎_elim, ℕ, zero, suc, ◌==◌, cond, Bool, true, false, List, [], ◌∷◌}
use Rattle.std.proofs.Common.{◌++◌, length, set, refl, sym, ap, subst, arith}
use mathlib.Core.Option.{some, some-injective, some-ne-none}
use lib.ListN.{get_elem?}
use Rattle.crossbeam_queue.proofs.Lists.{at_set}
use Rattle.md_queue.specs.declared.ruled.rule.EndView.{EndView}

-- ---- passes

abbrev pub Each : (ℕ → EndView → Type 0) → List EndView → Type 0
Each Fact views = (pass : ℕ) (view : EndView) → get_elem? views pass ≡ some view → Fact pass view

-- one pass has a new view
pub each_set : (Fact : ℕ → EndView → Type 0) (views : List EndView) (pass : ℕ) (new : EndView) → Fact pass new
    → ((other : ℕ) (view : EndView) → other ≢ pass → get_elem? views other ≡ some view → Fact other view)
    → Each Fact (set views pass new)
each_set Fact views pass new mine others other view at =
    ⊎_elim
    (λ (here : (other ≡ pass) × (new ≡ view)).
    subst (λ (x : ℕ × EndView). Fact x.0 x.1) (λ i. (sym here.0 i, here.1 i)) mine)
    (λ (apart : (other ≢ pass) × (get_elem? views other ≡ some view)). others other view apart.0 apart.1)
    (at_set views pass other new view at)

at_new : (views : List EndView) (new view : EndView) (pass : ℕ) → get_elem? (views ++ new ∷ []) pass ≡ some view
    → (get_elem? views pass ≡ some view) ⊎ ((pass ≡ length views) × (new ≡ view))
at_new [] new view zero at = inr (refl, some-injective new view at)
at_new [] new view (suc pass) at = absurd (some-ne-none view (sym at))
at_new (first ∷ views) new view zero at = inl at
at_new (first ∷ views) new view (suc pass) at =
    ⊎_elim (λ was. inl was) (λ last. inr (ap suc last.0, last.1)) (at_new views new view pass at)

-- there is one pass more
pub each_longer : (Fact : ℕ → EndView → Type 0) (views : List EndView) (new : EndView) → Each Fact views
    → Fact (length views) new → Each Fact (views ++ new ∷ [])
each_longer Fact views new front mine pass view at =
    ⊎_elim (λ was. front pass view was)
    (λ (last : (pass ≡ length views) × (new ≡ view)).
    subst (λ (x : ℕ × EndView). Fact x.0 x.1) (λ i. (sym last.0 i, last.1 i)) mine)
    (at_new views new view pass at)

-- ---- functions

module _ {A : Type 0} (f : ℕ → A) (place : ℕ) (value : A) where
  abbrev pub put_at : ℕ → A
  put_at k = cond (place == k) value (f k)

  pub put_here : put_at place ≡ value
  put_here = by (place == place) refl
    where
      by : (b : Bool) → (place == place) ≡ b → cond b value (f place) ≡ value
      by true is = refl
      by false is = absurd (grind (arith, is))

  pub put_elsewhere : (k : ℕ) → place ≢ k → put_at k ≡ f k
  put_elsewhere k apart = by (place == k) refl
    where
      by : (b : Bool) → (place == k) ≡ b → cond b value (f k) ≡ f k
      by true is = absurd (apart (grind (arith, is)))
      by false is = refl

  -- where the value was there already
  pub put_again : (k : ℕ) → f k ≡ value → put_at k ≡ value
  put_again k was = by (place == k)
    where
      by : (b : Bool) → cond b value (f k) ≡ value
      by true = refl
      by false = was
