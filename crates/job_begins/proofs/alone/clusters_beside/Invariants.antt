use Rattle.std.proofs.Common.{◌≡◌, ◌≤◌, ◌-◌, length}
use Rattle.running_store.specs.StoreView.{base_of}
use Rattle.job_begins.proofs.ClustersAlone.{HasBeside}
use Rattle.job_begins.proofs.alone.clusters_beside.Given as goal

-- the clusters of the blobs so far
abbrev pub invariant-loop-other : goal.invariant-loop-other
invariant-loop-other g l =
    (l.from ≤ l.md_len) × (length l.clusters ≡ length l.running.clusters.bits)
    × HasBeside l.from (base_of l.running.metas l.running.marked) l.head l.clusters

abbrev pub decreases-loop-other : goal.decreases-loop-other
decreases-loop-other g l = l.md_len - l.from
