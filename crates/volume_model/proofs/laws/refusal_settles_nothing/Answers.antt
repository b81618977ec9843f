use Rattle.volume_model.proofs.RefusalsSettleNothing.{settled_still, stable_still}
use Rattle.volume_model.proofs.laws.refusal_settles_nothing.Goals as goal

pub returns : goal.returns
returns c = λ e is. record {
  survives = λ f first log rest h. stable_still f first log rest e is h;
  settled = λ f first log rest h p. settled_still f first log rest e h p is;
}
