use Rattle.std.proofs.Common.{◌≡◌, ◌++◌, ◌-◌, ◌≤◌, drop, length}
use Rattle.listing_text.specs.Drawing.{drawn, is_bare, lines_left, nodes_of}
use Rattle.listing_text.proofs.Steps.{children_from}
use Rattle.listing_text.proofs.drawing.grow.Given as goal

-- the children from a place on are there
abbrev pub invariant-loop-from : goal.invariant-loop-from
invariant-loop-from l =
    let nodes = nodes_of l.lines in
    let children = children_from nodes (l.levels - 1) l.line.head (drop l.from l.lines) in
    record {
      within : l.from ≤ length l.lines;
      last : l.last ≡ is_bare children;
      left : lines_left nodes l.left.items ≡ drawn l.art children ++ lines_left nodes l.fn.left.items;
    }

abbrev pub decreases-loop-from : goal.decreases-loop-from
decreases-loop-from l = l.from
