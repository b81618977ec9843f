use Rattle.std.proofs.Common.{◌≡◌, ◌-◌, ◌^◌}
use Rattle.std.specs.FinMap as map
use Rattle.blob_meta.specs.Repairs.{has_kept_mark, is_removed, heads_where}
use Rattle.blob_meta.specs.SlotCounts.{HeadsFit}
use Rattle.blob_meta.proofs.recovery.marked_heads.Given as goal

abbrev pub invariant-loop-head : goal.invariant-loop-head
invariant-loop-head l = HeadsFit l.metas
    → (l.marked.kept ≡ heads_where l.from (has_kept_mark (map.get l.metas)))
    × (l.marked.removed ≡ heads_where l.from (is_removed (map.get l.metas)))

abbrev pub decreases-loop-head : goal.decreases-loop-head
decreases-loop-head l = 2 ^ 32 - l.from
