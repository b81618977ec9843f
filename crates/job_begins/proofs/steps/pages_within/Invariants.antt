use Rattle.std.proofs.Common.{◌≡◌, ◌≤◌, take}
use Rattle.job_begins.specs.JobSteps.{needs_together}
use Rattle.job_begins.proofs.steps.pages_within.Given as goal

-- so many are taken by the first of them, and no more than there may be
abbrev pub invariant-loop-step : goal.invariant-loop-step
invariant-loop-step l = (l.count ≡ needs_together (take l.step-index l.steps)) × (l.count ≤ l.most)
