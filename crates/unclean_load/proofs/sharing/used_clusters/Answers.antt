use Rattle.std.specs.FinMap as map
use Rattle.unclean_load.proofs.ClaimedClusters.{counted_used}
use Rattle.unclean_load.proofs.sharing.used_clusters.Goals as goal

pub returns-in_default-clause-used : goal.returns-in_default-clause-used
returns-in_default-clause-used c =
    let claims = c.in_ok-claims.claims in
    counted_used c.args.sup.now
    (map.get c.args.metas.now) claims.clusters claims.twice c.requires.below c.in_ok-claims.ensures.count
    c.in_ok-claims.ensures.counted
