use Rattle.job_begins.proofs.ClustersAlone.{Adds}
use Rattle.job_begins.proofs.alone.add_clusters.Given as goal

-- the clusters of the slots so far are added
abbrev pub invariant-loop-slot : goal.invariant-loop-slot
invariant-loop-slot l = Adds l.fn.clusters l.slot-items l.slot-index l.clusters
