-- Volumes as a forest, each below its parent.
use Rattle.std.specs.Prelude.{ℕ, zero, suc, Bool, not, List, [], ◌∷◌, length, Option}
use Rattle.std.specs.List.{filter, list_any}
use Rattle.volume_model.specs.Volumes.{is_given_head}

-- a volume in the forest: its head, its parent's, and the words of its line
pub record Node : Type 0 where
  pub head : ℕ
  pub parent : Option ℕ
  pub words : List ℕ

-- nodes side by side: the first one, with the forest below it and the one beside it
pub data Forest : Type 0 where
  bare : Forest
  grown : Node → Forest → Forest → Forest

-- the volumes whose parent this is, in the order of all
abbrev pub children_of : ℕ → List Node → List Node
children_of head nodes = filter (λ n. is_given_head head n.parent) nodes

-- its parent is none of the volumes
abbrev pub is_root : List Node → Node → Bool
is_root nodes n = not (list_any (λ above. is_given_head above.head n.parent) nodes)

abbrev pub roots_of : List Node → List Node
roots_of nodes = filter (is_root nodes) nodes

-- volumes side by side, each with what stands below it
abbrev pub side_by_side : (Node → Forest) → List Node → Forest
side_by_side below [] = bare
side_by_side below (n ∷ ns) = grown n (below n) (side_by_side below ns)

-- so many levels of what stands below a volume: its children, each with what stands below it
abbrev pub below : List Node → ℕ → Node → Forest
below nodes zero n = bare
below nodes (suc levels) n = side_by_side (below nodes levels) (children_of n.head nodes)

-- No volume has more levels below it than there are volumes.
abbrev pub forest_of : List Node → Forest
forest_of nodes = side_by_side (below nodes (length nodes)) (roots_of nodes)
