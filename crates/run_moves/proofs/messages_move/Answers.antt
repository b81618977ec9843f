use Rattle.run_moves.proofs.Answering.{answering_turns}
use Rattle.run_moves.proofs.Beginning.{beginning_turns}
use Rattle.run_moves.proofs.messages_move.Goals as goal

pub returns : goal.returns
returns c = record { answering = answering_turns; beginning = beginning_turns }
