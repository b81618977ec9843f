-- A forest as it is drawn.
use Rattle.std.specs.Prelude.{ℕ, Bool, true, false, if◌then◌else◌, List, [], ◌∷◌, ◌++◌, codes, map}
use Rattle.std.specs.List.{flat_map}
use Rattle.listing_text.specs.Forest.{below, Forest, bare, forest_of, grown, Node}
use Rattle.listing_text.specs.declared.drawing.Branch.{Branch}
use Rattle.listing_text.specs.declared.drawing.VolumeLine.{VolumeLine}

abbrev pub is_bare : Forest → Bool
is_bare bare = true
is_bare (grown n under beside) = false

-- what leads to a volume: the last child's is a corner
abbrev pub fork : Bool → List ℕ
fork last = if last then codes "`-" else codes "|-"

-- what stands under that in the lines below the volume: a line that goes on to its next sibling, if there is one
abbrev pub stem : Bool → List ℕ
stem last = if last then codes "  " else codes "| "

-- the lines of a forest behind the art of those above it: each volume above what is below it
abbrev pub drawn : List ℕ → Forest → List (List ℕ)
drawn art bare = []
drawn art (grown n under beside) =
    (art ++ fork (is_bare beside) ++ n.words)
    ∷ (drawn (art ++ stem (is_bare beside)) under ++ drawn art beside)

-- the lines of the roots, which stand at the margin, each above what is below it
abbrev pub drawn_roots : Forest → List (List ℕ)
drawn_roots bare = []
drawn_roots (grown n under beside) = n.words ∷ (drawn [] under ++ drawn_roots beside)

abbrev pub joined : List (List ℕ) → List ℕ
joined lines = flat_map (λ line. line) lines

-- the whole drawing
abbrev pub tree_text : List Node → List ℕ
tree_text nodes = joined (drawn_roots (forest_of nodes))

-- ---- on the way

abbrev pub node_of : VolumeLine → Node
node_of line = record { head = line.head; parent = line.parent; words = line.words.items }

abbrev pub nodes_of : List VolumeLine → List Node
nodes_of lines = map node_of lines

-- the line of a branch that is still to be drawn, and those below it
abbrev pub branch_line : Branch → List ℕ
branch_line b = b.art.items ++ fork b.last ++ b.line.now.words.items

abbrev pub lines_below : List Node → Branch → List (List ℕ)
lines_below nodes b = drawn (b.art.items ++ stem b.last) (below nodes b.levels (node_of b.line.now))

-- the lines of all that are still to be drawn, the last of them first
abbrev pub lines_left : List Node → List Branch → List (List ℕ)
lines_left nodes [] = []
lines_left nodes (b ∷ bs) = lines_left nodes bs ++ (branch_line b ∷ lines_below nodes b)
