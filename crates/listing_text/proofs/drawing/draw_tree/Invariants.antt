use Rattle.std.proofs.Common.{◌≡◌, ◌++◌, drop}
use Rattle.listing_text.specs.Drawing.{drawn_roots, joined, nodes_of, tree_text}
use Rattle.listing_text.proofs.Steps.{roots_from}
use Rattle.listing_text.proofs.drawing.draw_tree.Given as goal

-- what is drawn and what is left is the whole
abbrev pub invariant-loop-line : goal.invariant-loop-line
invariant-loop-line l =
    let nodes = nodes_of l.lines in
    l.text.items ++ joined (drawn_roots (roots_from nodes (drop l.line-index l.lines))) ≡ tree_text nodes
