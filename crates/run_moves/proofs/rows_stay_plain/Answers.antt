use Rattle.run_moves.proofs.PlainRows.{plain_in_run}
use Rattle.run_moves.proofs.rows_stay_plain.Goals as goal

pub returns : goal.returns
returns c = plain_in_run
