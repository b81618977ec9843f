use Rattle.std.proofs.Common.{◌∙◌}
use Rattle.volume_model.proofs.OtherVolumesStay.{others}
use Rattle.volume_model.proofs.laws.others_stay.Goals as goal

pub returns : goal.returns
returns c = λ f v command reply w k step silent. step.after k ∙ others f v command reply k silent
