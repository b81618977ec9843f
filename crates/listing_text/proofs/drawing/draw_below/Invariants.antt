use Rattle.std.proofs.Common.{◌≡◌, ◌++◌, [], length}
use Rattle.listing_text.specs.Forest.{below}
use Rattle.listing_text.specs.Drawing.{drawn, joined, lines_left, node_of, nodes_of}
use Rattle.listing_text.proofs.drawing.draw_below.Given as goal

-- what is drawn and what is left is the whole
abbrev pub invariant-loop-branch : goal.invariant-loop-branch
invariant-loop-branch l =
    let nodes = nodes_of l.lines in
    l.text.items ++ joined (lines_left nodes l.left.items)
    ≡ l.fn.text.items ++ joined (drawn [] (below nodes (length nodes) (node_of l.line)))

abbrev pub decreases-loop-branch : goal.decreases-loop-branch
decreases-loop-branch l = length (lines_left (nodes_of l.lines) l.left.items)
