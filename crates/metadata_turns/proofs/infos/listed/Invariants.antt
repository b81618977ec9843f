use Rattle.std.specs.Prelude.{◌≡◌, ◌≤◌, ◌-◌}
use Rattle.std.specs.List.{filter_map, range_with_len}
use Rattle.metadata_turns.specs.Infos.{listed_at}
use Rattle.metadata_turns.proofs.infos.listed.Given as goal

abbrev pub invariant-loop-head : goal.invariant-loop-head
invariant-loop-head l = (l.from ≤ l.sup.md_len)
    × (l.infos ≡ filter_map (listed_at l.metas l.live l.sup) (range_with_len 0 l.from))

abbrev pub decreases-loop-head : goal.decreases-loop-head
decreases-loop-head l = l.sup.md_len - l.from
