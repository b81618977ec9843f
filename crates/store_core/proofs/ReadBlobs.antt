-- What was read of a store: each blob stays, maybe without its marks, or is one that recovery removes.
use Rattle.std.proofs.Common.{◌≡◌, ◌⊎◌, ◌∙◌, ℕ, Bool, true, false, Option, Some, None, ap, inl, inr}
use Rattle.std.specs.Prelude.{if◌then◌else◌, not}
use Rattle.std.specs.Option.{option_map_or}
use Rattle.blob_meta.specs.declared.meta.Meta.{Meta}
use Rattle.blob_meta.specs.Repairs.{is_removed, removed}
use Rattle.blob_meta.specs.Resolving.{resolved, without_marks}
use Rattle.blob_meta.proofs.Fates.{fate, Fate}
use Rattle.store_model.specs.Maps.{Metas}

module _ (read : Metas) (h : ℕ) where
  -- it stays, with the map that it has
  pub record Stays (m : Meta) : Type 0 where
    pub new : Meta
    pub there : resolved read h ≡ Some new
    pub same_map : new.map ≡ m.map

  abbrev is_gone : Option Bool → Bool
  is_gone o = option_map_or not o false

  -- a blob that was read stays, or recovery removes it
  pub stays_or_goes : (m : Meta) → read h ≡ Some m → Stays m ⊎ (removed read h ≡ Some m)
  stays_or_goes m there = by (fate read h)
    where
      by : Fate read h → Stays m ⊎ (removed read h ≡ Some m)
      by (inl x) = let none = x.there in absurd (cc (none, there))
      by (inr (inl x)) =
          let was = x.there in
          let one : x.blob ≡ m = cc (was, there) in
          inl (record { new = x.blob; there = x.gives; same_map = ap (λ (n : Meta). n.map) one })
      by (inr (inr (inl x))) =
          let was = x.there in
          let one : x.blob ≡ m = cc (was, there) in
          inl (record { new = without_marks x.blob; there = x.gives; same_map = ap (λ (n : Meta). n.map) one })
      by (inr (inr (inr x))) =
          let gone : is_removed read h ≡ true = ap is_gone x.keeps_is in
          inr (ap (λ (b : Bool). if b then read h else None) gone ∙ there)

  of_removed : (b : Bool) (m : Meta) → (if b then read h else None) ≡ Some m → read h ≡ Some m
  of_removed true m is = is
  of_removed false m is = absurd (cc is)

  -- a blob that recovery removes was read
  pub removed_read : (m : Meta) → removed read h ≡ Some m → read h ≡ Some m
  removed_read m is = of_removed (is_removed read h) m is
