use Rattle.std.proofs.Common.{length}
use Rattle.std.specs.FinMap as map
use Rattle.job_begins.proofs.LayingOn.{LaysOn}
use Rattle.job_begins.proofs.steps.lay_all.Given as goal

-- what is laid so far, with whatever is laid of the others, is laid of all
abbrev pub invariant-loop-step : goal.invariant-loop-step
invariant-loop-step l = LaysOn (map.get l.chains) l.fn.steps.items l.taken l.steps.items l.at l.laid.items

abbrev pub decreases-loop-step : goal.decreases-loop-step
decreases-loop-step l = length l.steps.items
