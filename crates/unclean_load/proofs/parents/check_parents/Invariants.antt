use Rattle.std.proofs.Common.{◌-◌, ◌≤◌}
use Rattle.std.specs.FinMap as map
use Rattle.unclean_load.proofs.ParentsTested.{Tested}
use Rattle.unclean_load.proofs.parents.check_parents.Given as goal

-- the blobs of the heads so far
abbrev pub invariant-loop-head : goal.invariant-loop-head
invariant-loop-head l =
    (l.from ≤ l.md_len) × Tested (map.get l.metas) l.walks.begun.items l.from l.md_len

abbrev pub decreases-loop-head : goal.decreases-loop-head
decreases-loop-head l = l.md_len - l.from
