-- Metadata of the same blobs: each has its generation and its attributes still.
use Rattle.std.proofs.Common.{◌≡◌, ℕ, Option, Some, None, is_some, refl, sym, ap, ◌∙◌}
use Rattle.blob_meta.specs.declared.meta.Meta.{Meta}
use Rattle.store_model.specs.Guarding.{AreGenerations}
use Rattle.store_model.specs.Maps.{Map, Metas}

module _ (metas later : Metas) (had : (h : ℕ) → is_some (later h) ≡ is_some (metas h)) where
  some_or_none : (a b : Option Meta) → is_some a ≡ is_some b → (m : Meta) → a ≡ Some m
      → (n : Meta) × (b ≡ Some n)
  some_or_none a None same m is = absurd (let bad = sym (ap is_some is) ∙ same in cc bad)
  some_or_none a (Some n) same m is = (n, refl)

  none_or_some : (a b : Option Meta) → is_some a ≡ is_some b → a ≡ None → b ≡ None
  none_or_some a None same is = refl
  none_or_some a (Some n) same is = absurd (let bad = sym (ap is_some is) ∙ same in cc bad)

  -- a blob that is there then was there
  pub had_blob : (h : ℕ) (m : Meta) → later h ≡ Some m → (n : Meta) × (metas h ≡ Some n)
  had_blob h = some_or_none (later h) (metas h) (had h)

  -- and one that isn't wasn't
  pub had_none : (h : ℕ) → later h ≡ None → metas h ≡ None
  had_none h = none_or_some (later h) (metas h) (had h)

  pub same_generations : (generations : Map ℕ) (drawn : ℕ) → AreGenerations metas generations drawn
      → AreGenerations later generations drawn
  same_generations generations drawn g =
      record { each = λ h. g.each h ∙ sym (had h); low = g.low; differ = g.differ }
