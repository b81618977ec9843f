-- The volumes of a step that deletes one.
use Rattle.std.proofs.Common.{◌≡◌, ◌≢◌, ℕ, Option, Some, None, refl, ap, ◌∙◌}
use Rattle.std.specs.Prelude.{if◌then◌else◌}
use Rattle.std.specs.Option.{option_and_then, option_map}
use Rattle.std.proofs.lemmas.Bool.{eq-eqb, ne_eqb}
use Rattle.volume_model.specs.Steps.{change}
use Rattle.volume_model.specs.Volumes.{Fixed, head_of, is_given_head, Volume, Volumes}
use Rattle.volume_model.specs.declared.command.Command.TheVariants as c
use Rattle.volume_model.specs.declared.command.VolumeRef.{VolumeRef}
use Rattle.volume_model.specs.declared.reply.Reply.TheVariants as r
use Rattle.shown_volumes.proofs.Marked.{given_other, given_same}

module _ (f : Fixed) (v : Volumes) (volume : VolumeRef) (of : ℕ) (x : Volume)
    (found : head_of f v volume ≡ Some of) (is : v of ≡ Some x) where
  abbrev w : Volumes
  w = change f v (c.Delete volume) r.Ok

  -- a parent, once the volume is gone
  abbrev pub moved : Option ℕ → Option ℕ
  moved parent = if is_given_head of parent then option_and_then (λ (y : Volume). y.parent) (v of) else parent

  pub deleted_here : w of ≡ None
  deleted_here = rw (found, eq-eqb of of refl) refl

  pub deleted_else : (h : ℕ) → h ≢ of → w h ≡ option_map (λ (y : Volume). record y { parent = moved y.parent }) (v h)
  deleted_else h ne = rw (found, ne_eqb h of ne) refl

  -- another parent stays,
  pub stays : (parent : Option ℕ) → parent ≢ Some of → moved parent ≡ parent
  stays parent ne = ap (λ b. if b then option_and_then (λ (y : Volume). y.parent) (v of) else parent)
      (given_other of parent ne)

  -- and a clone gets the parent of what is deleted
  pub handed_on : moved (Some of) ≡ x.parent
  handed_on = ap (λ b. if b then option_and_then (λ (y : Volume). y.parent) (v of) else Some of) (given_same of)
      ∙ ap (option_and_then (λ (y : Volume). y.parent)) is
