use Rattle.std.proofs.Common.{◌≡◌, ◌≤◌, ◌-◌, ◌++◌}
use Rattle.std.specs.List.{flat_map, range_with_len}
use Rattle.blob_report.specs.StoreText.{store_line, super_text, volume_text}
use Rattle.blob_report.proofs.store.push_text.Given as goal

abbrev pub invariant-loop-head : goal.invariant-loop-head
invariant-loop-head l = (l.from ≤ l.sup.md_len) × (l.into.items ≡ l.fn.into.items ++
    (store_line l.sup l.masks ++ super_text l.sup l.metas
    ++ flat_map (volume_text l.sup l.metas) (range_with_len 0 l.from)))

abbrev pub decreases-loop-head : goal.decreases-loop-head
decreases-loop-head l = l.sup.md_len - l.from
