use Rattle.std.specs.Prelude.{◌≤◌, ◌-◌}
use Rattle.store_core.proofs.Starts.{LiveBelow}
use Rattle.store_core.proofs.starting.live_at_start.Given as goal

-- the live attributes so far
abbrev pub invariant-loop-head : goal.invariant-loop-head
invariant-loop-head l = (l.from ≤ l.md_len) × LiveBelow l.metas l.live l.from

abbrev pub decreases-loop-head : goal.decreases-loop-head
decreases-loop-head l = l.md_len - l.from
