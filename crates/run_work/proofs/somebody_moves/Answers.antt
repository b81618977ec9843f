use Rattle.run_work.proofs.Progress.{can_go, no_actor, some_actor}
use Rattle.run_work.proofs.somebody_moves.Goals as goal

pub returns : goal.returns
returns c = record { channel = can_go; some = some_actor; none = no_actor }
