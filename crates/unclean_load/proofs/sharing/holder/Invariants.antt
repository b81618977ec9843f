use Rattle.std.proofs.Common.{◌≡◌, ◌-◌, ◌<◌, ◌≤◌}
use Rattle.std.specs.FinMap as map
use Rattle.unclean_load.specs.Sharing.{copies}
use Rattle.unclean_load.proofs.sharing.holder.Given as goal

-- as many as the heads so far have, and not yet n
abbrev pub invariant-loop-head : goal.invariant-loop-head
invariant-loop-head l =
    (l.from ≤ l.md_len) × (l.found ≡ copies l.from (map.get l.metas) l.cluster) × (l.found < l.n)

abbrev pub decreases-loop-head : goal.decreases-loop-head
decreases-loop-head l = l.md_len - l.from
