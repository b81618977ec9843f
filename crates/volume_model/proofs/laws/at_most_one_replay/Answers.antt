use Rattle.std.proofs.Common.{sym, ◌∙◌}
use Rattle.volume_model.proofs.laws.at_most_one_replay.Goals as goal

pub returns : goal.returns
returns c = λ f first log w u one other h. one.after h ∙ sym (other.after h)
