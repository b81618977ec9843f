use Rattle.std.proofs.Common.{◌-◌, ◌≤◌}
use Rattle.std.specs.FinMap as map
use Rattle.running_store.specs.Recovered.{chains_of}
use Rattle.unclean_load.proofs.Marks.{Marked}
use Rattle.unclean_load.proofs.masks.used_pages.Given as goal

-- the pages of the heads so far
abbrev pub invariant-loop-head : goal.invariant-loop-head
invariant-loop-head l =
    (l.from ≤ l.md_len) × Marked l.md_len (chains_of (map.get l.metas) (map.get l.chains)) l.bits l.from

abbrev pub decreases-loop-head : goal.decreases-loop-head
decreases-loop-head l = l.md_len - l.from
