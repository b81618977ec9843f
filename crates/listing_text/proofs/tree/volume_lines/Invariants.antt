use Rattle.std.proofs.Common.{◌≡◌, ◌≤◌, ◌-◌, map}
use Rattle.listing_text.specs.Drawing.{nodes_of}
use Rattle.listing_text.specs.Tree.{node_by}
use Rattle.listing_text.specs.Listing.{volumes_below}
use Rattle.listing_text.proofs.tree.volume_lines.Given as goal

abbrev pub invariant-loop-head : goal.invariant-loop-head
invariant-loop-head l =
    (l.from ≤ l.sup.md_len) × (nodes_of l.lines.items ≡ map node_by (volumes_below l.sup l.metas l.from))

abbrev pub decreases-loop-head : goal.decreases-loop-head
decreases-loop-head l = l.sup.md_len - l.from
