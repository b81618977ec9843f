use Rattle.std.proofs.Common.{◌≡◌, drop}
use Rattle.std.specs.List.{list_any}
use Rattle.volume_model.specs.Volumes.{is_given_head}
use Rattle.listing_text.specs.Drawing.{nodes_of}
use Rattle.listing_text.proofs.drawing.is_root.Given as goal

-- whether one of those that are left is the parent
abbrev pub invariant-loop-above : goal.invariant-loop-above
invariant-loop-above l =
    list_any (λ above. is_given_head above.head l.line.parent) (nodes_of (drop l.above-index l.lines))
    ≡ list_any (λ above. is_given_head above.head l.line.parent) (nodes_of l.lines)
