use Rattle.run_work.proofs.Ending.{follows_lower, round_lowers, rounds_lower}
use Rattle.run_work.proofs.rounds_end.Goals as goal

pub returns : goal.returns
returns c = record { round = round_lowers; rounds = rounds_lower; follows = follows_lower }
