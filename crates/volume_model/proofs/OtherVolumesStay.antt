-- A step leaves alone every volume that it doesn't speak of.
use Rattle.std.proofs.Common.{◌≡◌, ◌≢◌, inl, inr, ℕ, Option, Some, None, Bool, true, false, if◌then◌else◌, ◌==◌, refl}
use Rattle.std.proofs.Common.{sym, ap, ◌∙◌}
use Rattle.std.proofs.lemmas.Bool.Decides.{eqb_tells}
use Rattle.std.specs.Option.{option_map, option_and_then}
use Rattle.volume_model.specs.Volumes.{Volume, Volumes, Fixed, head_of, is_given_head}
use Rattle.volume_model.specs.Steps.{change, edited, edited_at, deleted_at, added, SpeaksOf}
use Rattle.volume_model.specs.declared.command.Command.{Command}
use Rattle.volume_model.specs.declared.command.Command.TheVariants as c
use Rattle.volume_model.specs.declared.reply.Reply.{Reply}
use Rattle.volume_model.specs.declared.reply.Reply.TheVariants as r

-- another number isn't equal
pub differs : (k h : ℕ) → k ≢ h → (k == h) ≡ false
differs k h other = elim (eqb_tells k h) [ inl same ↦ absurd (other same.1) | inr apart ↦ apart.0 ]

module _ (f : Fixed) (v : Volumes) where
  added_other : (w : Volumes) (h k : ℕ) (x : Option Volume) → k ≢ h → added f v w h x k ≡ w k
  added_other w h k x other = ap (λ (b : Bool). if b then x else w k) (differs k h other)

  edited_other : (o : Option ℕ) (change : Volume → Volume) (k : ℕ) → o ≢ Some k → edited_at f v o change k ≡ v k
  edited_other None change k other = refl
  edited_other (Some h) change k other = ap (λ (b : Bool). if b then option_map change (v k) else v k)
      (differs k h (λ same. other (ap Some (sym same))))

  -- a parent that isn't h stays
  not_head : (h : ℕ) (o : Option ℕ) → o ≢ Some h → is_given_head h o ≡ false
  not_head h None other = refl
  not_head h (Some k) other = differs k h (λ same. other (ap Some same))

  kept : (h : ℕ) (parent : Option ℕ) (o : Option Volume) → option_and_then (λ x. x.parent) o ≢ Some h
      → option_map (λ (x : Volume). record x { parent = if is_given_head h x.parent then parent else x.parent }) o ≡ o
  kept h parent None other = refl
  kept h parent (Some x) other = ap (λ (b : Bool). Some (record x { parent = if b then parent else x.parent }))
      (not_head h x.parent other)

  deleted_other : (o : Option ℕ) (k : ℕ) → o ≢ Some k
      → ((h : ℕ) → o ≡ Some h → option_and_then (λ x. x.parent) (v k) ≢ Some h) → deleted_at f v o k ≡ v k
  deleted_other None k other no_clone = refl
  deleted_other (Some h) k other no_clone =
      let kept_is = kept h (option_and_then (λ y. y.parent) (v h)) (v k) (no_clone h refl) in
      ap (λ (b : Bool). if b then None else option_map
      (λ (x : Volume). record x {
        parent = if is_given_head h x.parent then option_and_then (λ y. y.parent) (v h) else
            x.parent;
      }) (v k))
      (differs k h (λ same. other (ap Some (sym same)))) ∙ kept_is

  made_other : (h k : ℕ) → ¬ (r.Made h ≡ r.Made k) → k ≢ h
  made_other h k other same = other (ap r.Made (sym same))

  -- the law of `others_stay`, verb by verb
  pub others : (command : Command) (reply : Reply) (k : ℕ) → ¬ SpeaksOf f v command reply k
      → change f v command reply k ≡ v k
  others (c.Create name slots thick uuid) (r.Made h) k silent =
      added_other v h k _ (made_other h k (λ is. silent (inr (inl is))))
  others (c.Write volume page word) r.Ok k silent = edited_other (head_of f v volume) _ k (λ is. silent (inl is))
  others (c.SetX volume key value) r.Ok k silent = edited_other (head_of f v volume) _ k (λ is. silent (inl is))
  others (c.DelX volume key) r.Ok k silent = edited_other (head_of f v volume) _ k (λ is. silent (inl is))
  others (c.Put volume key value) r.Ok k silent = edited_other (head_of f v volume) _ k (λ is. silent (inl is))
  others (c.Sync volume) r.Ok k silent = edited_other (head_of f v volume) _ k (λ is. silent (inl is))
  others (c.Resize volume slots) r.Ok k silent = edited_other (head_of f v volume) _ k (λ is. silent (inl is))
  others (c.Snapshot volume name) (r.Made h) k silent =
      added_other (edited f v volume (λ x. record x { thin = true; parent = Some h })) h k _
      (made_other h k (λ is. silent (inr (inl is))))
      ∙ edited_other (head_of f v volume) (λ x. record x { thin = true; parent = Some h }) k (λ is. silent (inl is))
  others (c.Clone volume name) (r.Made h) k silent = added_other v h k _ (made_other h k (λ is. silent (inr (inl is))))
  others (c.Inflate volume) r.Ok k silent = edited_other (head_of f v volume) _ k (λ is. silent (inl is))
  others (c.Decouple volume) r.Ok k silent = edited_other (head_of f v volume) _ k (λ is. silent (inl is))
  others (c.Delete volume) r.Ok k silent = deleted_other (head_of f v volume) k (λ is. silent (inl is))
      (λ h at is. silent (inr (inr (h, at, is))))
  others (c.Rename volume name) r.Ok k silent = edited_other (head_of f v volume) _ k (λ is. silent (inl is))
  others (c.ReadOnly volume) r.Ok k silent = edited_other (head_of f v volume) _ k (λ is. silent (inl is))
  others (c.Create name slots thick uuid) _ k silent = refl
  others (c.Write volume page word) _ k silent = refl
  others (c.Read volume page) _ k silent = refl
  others c.Flush _ k silent = refl
  others (c.SetX volume key value) _ k silent = refl
  others (c.DelX volume key) _ k silent = refl
  others (c.GetX volume key) _ k silent = refl
  others (c.Put volume key value) _ k silent = refl
  others (c.Sync volume) _ k silent = refl
  others (c.Resize volume slots) _ k silent = refl
  others (c.Snapshot volume name) _ k silent = refl
  others (c.Clone volume name) _ k silent = refl
  others (c.Inflate volume) _ k silent = refl
  others (c.Decouple volume) _ k silent = refl
  others (c.Delete volume) _ k silent = refl
  others (c.Rename volume name) _ k silent = refl
  others (c.ReadOnly volume) _ k silent = refl
  others (c.Info volume) _ k silent = refl
  others c.List _ k silent = refl
  others c.Df _ k silent = refl
