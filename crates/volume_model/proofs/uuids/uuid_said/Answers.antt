use Rattle.std.proofs.Common.{◌≡◌, Option, Some, None, refl, ◌∙◌}
use Rattle.std.proofs.lemmas.Bool.{false≢true}
use Rattle.uuid.specs.Text.{parsed}
use Rattle.volume_model.specs.Uuids.{uuid_said}
use Rattle.volume_model.proofs.uuids.uuid_said.Goals as goal

none_of : {X : Type 0} (o : Option X) → ((x : X) → o ≡ Some x → ⊥) → o ≡ None
none_of None never = refl
none_of (Some x) never = absurd (never x refl)

pub returns-in-Err : goal.returns-in-Err
unfolding uuid_said
returns-in-Err c =
    let unread : parsed c.args.text.now ≡ None = none_of (parsed c.args.text.now)
    (λ u is. false≢true (c.in-Err.ensures.ok.1 (u, is))) in
    rw unread (c.into_bytes-in-Err.ensures ∙ c.nil.ensures)
