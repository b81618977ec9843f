use Rattle.job_begins.proofs.MissingFound.{Finds}
use Rattle.job_begins.proofs.alone.missing.Given as goal

-- the clusters of the slots so far that the set didn't have
abbrev pub invariant-loop-slot : goal.invariant-loop-slot
invariant-loop-slot l = Finds l.fn.clusters l.slot-items l.slot-index l.clusters l.places.items
