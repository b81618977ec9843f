use Rattle.std.proofs.Common.{◌≡◌, ◌-◌, ◌*◌, ◌^◌, ◌≤◌}
use Rattle.std.specs.FinMap as map
use Rattle.blob_meta.specs.Resolving.{slots_together}
use Rattle.blob_meta.proofs.slot_count.all_slots.Given as goal

abbrev pub invariant-loop-head : goal.invariant-loop-head
invariant-loop-head l = (l.all ≡ slots_together l.from (map.get l.metas)) × (l.all ≤ l.from * 2 ^ 32)

abbrev pub decreases-loop-head : goal.decreases-loop-head
decreases-loop-head l = 2 ^ 32 - l.from
