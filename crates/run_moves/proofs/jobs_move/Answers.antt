use Rattle.run_moves.proofs.JobTurning.{failing_turns, page_turns}
use Rattle.run_moves.proofs.Replacing.{replacing_turns}
use Rattle.run_moves.proofs.jobs_move.Goals as goal

pub returns : goal.returns
returns c = record { page = page_turns; failing = failing_turns; replacing = replacing_turns }
