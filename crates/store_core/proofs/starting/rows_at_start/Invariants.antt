use Rattle.store_core.proofs.Starts.{RowsBelow}
use Rattle.store_core.proofs.starting.rows_at_start.Given as goal

-- the rows so far
abbrev pub invariant-loop-channel : goal.invariant-loop-channel
invariant-loop-channel l = RowsBelow l.fn.script l.script l.channels l.rows.items l.channel
