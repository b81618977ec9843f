use Rattle.io_freeze.proofs.Numbers.{drawn-above, drawn-rises, had_or_drawn}
use Rattle.io_freeze.proofs.laws.generations_never_repeat.Goals as goal

pub returns : goal.returns
returns c = record {
  rises = drawn-rises;
  above = drawn-above;
  drawn = had_or_drawn;
}
