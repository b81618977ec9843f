use Rattle.std.proofs.Common.{◌∙◌}
use Rattle.volume_model.proofs.RefusalsChangeNothing.{refused}
use Rattle.volume_model.proofs.laws.refusal_changes_nothing.Goals as goal

pub returns : goal.returns
returns c = λ f v command reply w is step h. step.after h ∙ refused f v command reply is h
