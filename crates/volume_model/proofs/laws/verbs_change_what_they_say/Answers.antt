use Rattle.volume_model.proofs.VerbExamplesHold.{verbs}
use Rattle.volume_model.proofs.laws.verbs_change_what_they_say.Goals as goal

pub returns : goal.returns
returns c = verbs
