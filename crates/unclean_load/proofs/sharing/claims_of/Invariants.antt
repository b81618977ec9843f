use Rattle.std.proofs.Common.{◌≡◌, ◌-◌, ◌≤◌, length}
use Rattle.std.specs.FinMap as map
use Rattle.super_block.specs.Numbers.{clusters_of, fixed_clusters_of}
use Rattle.unclean_load.specs.Sharing.{copies, AreCounted}
use Rattle.unclean_load.proofs.sharing.claims_of.Given as goal

-- the clusters of the heads so far
abbrev pub invariant-loop-head : goal.invariant-loop-head
invariant-loop-head l =
    (l.from ≤ l.sup.md_len) × (length l.claims.clusters ≡ clusters_of l.sup)
    × AreCounted (fixed_clusters_of l.sup) (copies l.from (map.get l.metas)) l.claims.clusters l.claims.twice

abbrev pub decreases-loop-head : goal.decreases-loop-head
decreases-loop-head l = l.sup.md_len - l.from
