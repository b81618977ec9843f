use Rattle.std.proofs.Common.{◌≡◌, length}
use Rattle.unclean_load.proofs.Counts.{Adding}
use Rattle.unclean_load.proofs.sharing.Claims.add.Given as goal

-- the clusters of the slots so far are counted
abbrev pub invariant-loop-slot : goal.invariant-loop-slot
invariant-loop-slot l =
    (length l.self.clusters ≡ length l.fn.self.clusters)
    × Adding l.fn.self.clusters l.self.clusters l.fn.self.twice l.self.twice l.slot-items l.slot-index
