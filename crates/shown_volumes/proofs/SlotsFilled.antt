-- What is known of a blob of which no slot is left to fill.
use Rattle.std.proofs.Common.{◌≡◌, ℕ, ◌<◌, true, false, Option, Some, None, length, refl, sym, ap, ◌∙◌}
use Rattle.std.specs.Prelude.{◌&&◌, is_some}
use Rattle.std.specs.Option.{option_and_then, option_map_or}
use Rattle.std.proofs.lemmas.Bool.{false≢true, lt-ltb}
use Rattle.blob_meta.specs.declared.meta.Meta.{Meta}
use Rattle.blob_meta.specs.Parents.{parent_of, slot}
use Rattle.inflate_delete.specs.Fills.{is_empty_slot, IsFilled, is_to_fill_over, parent_blob}
use Rattle.inflate_delete.specs.declared.filling.FillKind.{FillKind}
use Rattle.inflate_delete.specs.declared.filling.FillKind.TheVariants.{Inflate, Decouple}
use Rattle.shown_volumes.specs.Maps.{Metas}

module _ (base : Metas) (of : ℕ) (old : Meta) (there : base of ≡ Some old) (at : ℕ) (lt : at < length old.map)
    (empty : slot old at ≡ None) where
  none_left : (kind : FillKind) → IsFilled base of kind → is_to_fill_over kind old (parent_blob base old) at ≡ false
  none_left kind filled =
      sym (ap (λ o. option_map_or (λ m. is_to_fill_over kind m (parent_blob base m) at) o false) there) ∙ filled at

  is_empty : is_empty_slot old at ≡ true
  is_empty = let below = lt-ltb at (length old.map) lt in rw (below, empty) refl

  -- for an inflate it has no empty slot,
  pub none_empty : IsFilled base of Inflate → ⊥
  none_empty filled = false≢true (sym (none_left Inflate filled) ∙ is_empty)

  -- and for a decouple its empty slots are empty in its parent's own map
  pub empty_above : (p : ℕ) (parent : Meta) → parent_of old ≡ Some p → base p ≡ Some parent
      → IsFilled base of Decouple → slot parent at ≡ None
  empty_above p parent child there_too filled = none (slot parent at)
      (ap (λ b. b && is_some (slot parent at)) (sym is_empty)
      ∙ ap (λ o. is_empty_slot old at && option_map_or (λ (m : Meta). is_some (slot m at)) o false)
      (sym there_too ∙ ap (option_and_then base) (sym child))
      ∙ none_left Decouple filled)
    where
      none : (o : Option ℕ) → is_some o ≡ false → o ≡ None
      none None is = refl
      none (Some cluster) is = absurd (false≢true (sym is))
