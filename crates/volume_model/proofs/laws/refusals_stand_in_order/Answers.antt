use Rattle.volume_model.proofs.RefusalExamplesHold.{refusals}
use Rattle.volume_model.proofs.laws.refusals_stand_in_order.Goals as goal

pub returns : goal.returns
returns c = refusals
