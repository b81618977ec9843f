use Rattle.unclean_load.proofs.Counts.{Filled}
use Rattle.unclean_load.proofs.sharing.Claims.new.Given as goal

-- the clusters so far
abbrev pub invariant-loop-cluster : goal.invariant-loop-cluster
invariant-loop-cluster l = Filled l.clusters l.bits l.cluster
