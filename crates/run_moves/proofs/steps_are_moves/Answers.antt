use Rattle.run_moves.proofs.CanMove.{posting_can, turn_can}
use Rattle.run_moves.proofs.FillHeld.{holds_at_turn, step_holds}
use Rattle.run_moves.proofs.DriverMoves.{step_moves}
use Rattle.run_moves.proofs.DriverStarts.{starts_on, starts_with_fill}
use Rattle.run_moves.proofs.steps_are_moves.Goals as goal

pub returns : goal.returns
returns c s first script = record {
  start = starts_on c.moves_keep_facts.ensures s first script;
  start_fill = starts_with_fill;
  turn_can = λ told p q d channel has low t. turn_can p d channel low told q has.guarded t;
  posting_can = λ told p q d channel has low t. posting_can p d channel low told q t;
  turn_fill = holds_at_turn;
  fill = step_holds;
  step = step_moves c.moves_keep_facts.ensures c.what_is_due.ensures s first script;
}
