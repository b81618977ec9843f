use Rattle.std.proofs.Common.{◌≡◌, take}
use Rattle.std.specs.FinMap as map
use Rattle.job_begins.specs.JobSteps.{behind, chains_after}
use Rattle.job_begins.proofs.steps.places_behind_all.Given as goal

-- these are the places once the first of them are made
abbrev pub invariant-loop-one : goal.invariant-loop-one
invariant-loop-one l = l.places ≡ behind (chains_after (map.get l.chains) (take l.one-index l.laid)) l.head
