use Rattle.std.proofs.Common.{◌≡◌, Option, Some, None, refl, sym}
use Rattle.std.proofs.lemmas.Bool.{false≢true}
use Rattle.uuid.specs.Text.{parsed}
use Rattle.lvol_store.proofs.words.uuid_in.Goals as goal

none_of : {X : Type 0} (o : Option X) → ((x : X) → o ≡ Some x → ⊥) → o ≡ None
none_of None never = refl
none_of (Some x) never = absurd (never x refl)

pub returns-in-Err : goal.returns-in-Err
returns-in-Err c = sym (none_of (parsed c.args.text.now) (λ u is. false≢true (c.in-Err.ensures.ok.1 (u, is))))
