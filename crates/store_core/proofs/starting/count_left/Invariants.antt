use Rattle.std.proofs.Common.{◌≡◌, ◌+◌, drop}
use Rattle.running_store.specs.Running.{left_in}
use Rattle.store_core.proofs.starting.count_left.Given as goal

-- what is counted and what is left are all
abbrev pub invariant-loop-row : goal.invariant-loop-row
invariant-loop-row l = l.count + left_in (drop l.row-index l.rows) ≡ left_in l.rows
