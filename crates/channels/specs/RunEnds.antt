-- How a run ends.
use Rattle.std.specs.Prelude.{ℕ, Option, Some, None, []}
use Rattle.store_model.specs.Rows.{Ended, Row}
use Rattle.channels.specs.declared.stepwise.RunEnd.{RunEnd}
use Rattle.channels.specs.declared.stepwise.RunEnd.TheVariants as run_end

-- the row of a channel that has ended
abbrev pub ended_row : Row
ended_row = record { left = []; stage = Ended; claim = None }

-- by where the store stopped, if it did
abbrev pub run_end_of : Option ℕ → RunEnd
run_end_of None = run_end.Ended
run_end_of (Some at) = run_end.Stopped at
