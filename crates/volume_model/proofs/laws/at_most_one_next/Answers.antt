use Rattle.std.proofs.Common.{sym, ◌∙◌}
use Rattle.volume_model.proofs.laws.at_most_one_next.Goals as goal

pub returns : goal.returns
returns c = λ f v command reply w u one other h. one.after h ∙ sym (other.after h)
