use Rattle.running_store.proofs.ClaimsCleared.{ClearsClaims}
use Rattle.running_store.proofs.giving_back.clear_claimed.Given as goal

abbrev pub invariant-loop-row : goal.invariant-loop-row
invariant-loop-row l = ClearsClaims l.fn.clusters.bits l.rows l.row-index l.clusters
