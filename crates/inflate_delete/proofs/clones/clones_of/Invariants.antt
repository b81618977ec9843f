use Rattle.std.proofs.Common.{◌≡◌, ◌-◌, ◌^◌, ◌<◌, length}
use Rattle.std.specs.FinMap as map
use Rattle.inflate_delete.specs.Clones.{clones_below}
use Rattle.inflate_delete.proofs.clones.clones_of.Given as goal

abbrev pub invariant-loop-next : goal.invariant-loop-next
invariant-loop-next l = (l.clones ≡ clones_below l.from (map.get l.metas) l.head) × (length l.clones < 2 ^ 32)

abbrev pub decreases-loop-next : goal.decreases-loop-next
decreases-loop-next l = 2 ^ 32 - l.from
