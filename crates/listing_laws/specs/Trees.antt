-- What a tree shows: each volume once, below its parent.
use Rattle.std.specs.Prelude.{◌≡◌, ◌≤◌, ◌+◌, ℕ, List, [], ◌∷◌, ◌++◌, IsPermutation}
use Rattle.listing_text.specs.Forest.{bare, children_of, Forest, grown, Node, roots_of}

-- the volumes in the order in which they are drawn
abbrev pub nodes_in : Forest → List Node
nodes_in bare = []
nodes_in (grown n under beside) = n ∷ (nodes_in under ++ nodes_in beside)

-- those at the top
abbrev pub tops : Forest → List Node
tops bare = []
tops (grown n under beside) = n ∷ tops beside

-- below each volume stand its children and no others, in the order of all
abbrev pub HaveChildrenBelow : List Node → Forest → Type 0
HaveChildrenBelow nodes bare = Unit {0}
HaveChildrenBelow nodes (grown n under beside) =
    (tops under ≡ children_of n.head nodes) × HaveChildrenBelow nodes under × HaveChildrenBelow nodes beside

-- each head is above those before it, and none is below the first number
abbrev pub RiseFrom : ℕ → List Node → Type 0
RiseFrom low [] = Unit {0}
RiseFrom low (n ∷ ns) = (low ≤ n.head) × RiseFrom (n.head + 1) ns

-- Of volumes by ascending head, each stands once in the forest: at its top those without a parent among them, and all
-- others below their parents.
pub record IsForestOf (nodes : List Node) (forest : Forest) : Type 0 where
  pub order : RiseFrom 0 nodes
  pub once : IsPermutation nodes (nodes_in forest)
  pub top : tops forest ≡ roots_of nodes
  pub below : HaveChildrenBelow nodes forest
