use Rattle.std.proofs.Common.{◌-◌, ◌≤◌}
use Rattle.std.specs.FinMap as map
use Rattle.unclean_load.proofs.MarkedRead.{IsMarkedBelow}
use Rattle.unclean_load.proofs.recovering.marked_of.Given as goal

-- the marked blobs of the heads so far
abbrev pub invariant-loop-head : goal.invariant-loop-head
invariant-loop-head l =
    (l.from ≤ l.md_len) × IsMarkedBelow (map.get l.metas) l.marked l.from

abbrev pub decreases-loop-head : goal.decreases-loop-head
decreases-loop-head l = l.md_len - l.from
