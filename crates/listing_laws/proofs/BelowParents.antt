-- Where following parents never comes back, a forest of as many levels as there are volumes has them all.
use Rattle.std.proofs.Common.{◌≡◌, ◌∙◌, ◌⊎◌, inl, inr, ℕ, zero, suc, ◌+◌, ◌<◌, ◌≤◌, Bool, true, false, if◌then◌else◌}
use Rattle.std.proofs.Common.{List, [], ◌∷◌, ◌++◌, length, Some, refl, sym, ap, arith}
use Rattle.std.specs.Prelude.{nat_lt}
use Rattle.std.specs.List.{AllByRecursion}
use Rattle.std.proofs.lemmas.Bool.Decides.{nat_tests}
use Rattle.std.proofs.lemmas.List.{append-nil}
use Rattle.volume_model.specs.Volumes.{is_given_head}
use Rattle.listing_text.specs.Forest.{below, children_of, Forest, forest_of, is_root, Node, roots_of, side_by_side}
use Rattle.listing_laws.specs.Trees.{HaveChildrenBelow, IsForestOf, nodes_in, RiseFrom, tops}
use Rattle.listing_laws.proofs.EachItem.{each_both, each_filter, each_flat_map, each_weaker}
use Rattle.listing_laws.proofs.EachOnce.{given_is, has_levels, level_below, levels, levels_and_below, next_level}
use Rattle.listing_laws.proofs.Permuted.{chained, is_permutation, permuted_back, permuted_equal}

-- ---- how many volumes are of lower rank

abbrev one_for : Bool → ℕ
one_for b = if b then 1 else 0

most_one : (b : Bool) → one_for b ≤ 1
most_one true = omega arith
most_one false = omega arith

abbrev In : Node → List Node → Type 0
In n [] = ⊥
In n (x ∷ xs) = (x ≡ n) ⊎ In n xs

each_in : (xs : List Node) → AllByRecursion (λ n. In n xs) xs
each_in [] = tt
each_in (x ∷ xs) = (inl refl, each_weaker (λ n. In n xs) (λ n. In n (x ∷ xs)) (λ n is. inr is) xs (each_in xs))

module _ (rank : ℕ → ℕ) where
  abbrev lower : List Node → ℕ → ℕ
  lower [] head = 0
  lower (n ∷ ns) head = one_for (nat_lt (rank n.head) (rank head)) + lower ns head

  lower_most : (ns : List Node) (head : ℕ) → lower ns head ≤ length ns
  lower_most [] head = omega arith
  lower_most (n ∷ ns) head =
      let rest = lower_most ns head in
      let one = most_one (nat_lt (rank n.head) (rank head)) in omega (arith, rest, one)

  one_rises : (r p h : ℕ) → rank p < rank h → one_for (nat_lt r (rank p)) ≤ one_for (nat_lt r (rank h))
  one_rises r p h less = grind (arith, nat_tests, less)

  lower_rises : (p h : ℕ) → rank p < rank h → (ns : List Node) → lower ns p ≤ lower ns h
  lower_rises p h less [] = omega arith
  lower_rises p h less (n ∷ ns) =
      let rest = lower_rises p h less ns in
      let one = one_rises (rank n.head) p h less in omega (arith, rest, one)

  not_itself : (p : ℕ) → one_for (nat_lt (rank p) (rank p)) ≡ 0
  not_itself p = grind (arith, nat_tests)

  is_one : (p h : ℕ) → rank p < rank h → one_for (nat_lt (rank p) (rank h)) ≡ 1
  is_one p h less = grind (arith, nat_tests, less)

  -- one more than of its parent, which is among them
  lower_more : (p : Node) (h : ℕ) → rank p.head < rank h → (ns : List Node) → In p ns
      → lower ns p.head + 1 ≤ lower ns h
  lower_more p h less [] among = absurd among
  lower_more p h less (n ∷ ns) (inl same) =
      let rest = lower_rises p.head h less ns in
      let none = ap (λ (m : Node). one_for (nat_lt (rank m.head) (rank p.head))) same ∙ not_itself p.head in
      let one = ap (λ (m : Node). one_for (nat_lt (rank m.head) (rank h))) same ∙ is_one p.head h less in
      omega (arith, rest, none, one)
  lower_more p h less (n ∷ ns) (inr among) =
      let rest = lower_more p h less ns among in
      let one = one_rises (rank n.head) p.head h less in omega (arith, rest, one)

  -- following its parent leads to a lower rank
  abbrev pub Falls : Node → Type 0
  Falls n = (p : ℕ) → n.parent ≡ Some p → rank p < rank n.head

  module _ (nodes : List Node) (falls : AllByRecursion Falls nodes) where
    -- one of the volumes, above which are so many others at least
    abbrev IsDeep : ℕ → Node → Type 0
    IsDeep count n = (In n nodes × Falls n) × (count ≤ lower nodes n.head)

    all_good : AllByRecursion (λ n. In n nodes × Falls n) nodes
    all_good = each_both (λ n. In n nodes) Falls nodes (each_in nodes) falls

    children_deep : (count : ℕ) (n : Node) → IsDeep count n
        → AllByRecursion (IsDeep (count + 1)) (children_of n.head nodes)
    children_deep count n deep =
        each_weaker (λ c. (In c nodes × Falls c) × (is_given_head n.head c.parent ≡ true)) (IsDeep (count + 1))
        (λ c child.
        let less = child.0.1 n.head (given_is n.head c.parent child.1) in
        let more = lower_more n c.head less nodes deep.0.0 in
        let high = deep.1 in (child.0, omega (arith, more, high)))
        (children_of n.head nodes)
        (each_filter (λ c. In c nodes × Falls c) (λ c. is_given_head n.head c.parent) nodes all_good)

    none_deep : (count : ℕ) → length nodes < count → (ns : List Node) → AllByRecursion (IsDeep count) ns → ns ≡ []
    none_deep count many [] deep = refl
    none_deep count many (n ∷ ns) deep =
        let high = deep.0.1 in
        let most = lower_most nodes n.head in absurd (omega (arith, many, high, most))

    -- ---- below each its children

    tops-side_by_side : (f : Node → Forest) (ns : List Node) → tops (side_by_side f ns) ≡ ns
    tops-side_by_side f [] = refl
    tops-side_by_side f (n ∷ ns) = ap (λ rest. n ∷ rest) (tops-side_by_side f ns)

    abbrev IsPlaced : (Node → Forest) → Node → Type 0
    IsPlaced f n = (tops (f n) ≡ children_of n.head nodes) × HaveChildrenBelow nodes (f n)

    all_placed : (f : Node → Forest) (ns : List Node) → AllByRecursion (IsPlaced f) ns
        → HaveChildrenBelow nodes (side_by_side f ns)
    all_placed f [] each = tt
    all_placed f (n ∷ ns) each = (each.0.0, each.0.1, all_placed f ns each.1)

    placed : (left count : ℕ) (n : Node) → IsDeep count n → length nodes ≤ left + count → IsPlaced (below nodes left) n
    placed zero count n deep enough =
        (sym (none_deep (count + 1) (omega (arith, enough)) (children_of n.head nodes) (children_deep count n deep)), tt)
    placed (suc left) count n deep enough =
        let children = children_of n.head nodes in (
          tops-side_by_side (below nodes left) children,
          all_placed (below nodes left) children
              (each_weaker (IsDeep (count + 1)) (IsPlaced (below nodes left))
              (λ c more. placed left (count + 1) c more (omega (arith, enough))) children
              (children_deep count n deep)),
        )

    roots_placed : AllByRecursion (IsPlaced (below nodes (length nodes))) (roots_of nodes)
    roots_placed =
        each_weaker (λ n. (In n nodes × Falls n) × (is_root nodes n ≡ true)) (IsPlaced (below nodes (length nodes)))
        (λ n good. placed (length nodes) 0 n (good.0, omega arith) (omega arith)) (roots_of nodes)
        (each_filter (λ n. In n nodes × Falls n) (is_root nodes) nodes all_good)

    -- ---- each once

    deeper : (k count : ℕ) (ns : List Node) → AllByRecursion (IsDeep count) ns
        → AllByRecursion (IsDeep (count + k)) (level_below nodes k ns)
    deeper zero count ns deep =
        each_weaker (IsDeep count) (IsDeep (count + zero)) (λ n is. let high = is.1 in (is.0, omega (arith, high))) ns deep
    deeper (suc k) count ns deep =
        each_weaker (IsDeep (count + 1 + k)) (IsDeep (count + suc k))
        (λ n is. let high = is.1 in (is.0, omega (arith, high))) (level_below nodes k (next_level nodes ns))
        (deeper k (count + 1) (next_level nodes ns)
        (each_flat_map (IsDeep (count + 1)) (λ n. children_of n.head nodes) ns
        (each_weaker (IsDeep count) (λ n. AllByRecursion (IsDeep (count + 1)) (children_of n.head nodes))
        (λ n is. children_deep count n is) ns deep)))

    nothing_below : level_below nodes (suc (length nodes)) nodes ≡ []
    nothing_below =
        none_deep (0 + suc (length nodes)) (omega arith) (level_below nodes (suc (length nodes)) nodes)
        (deeper (suc (length nodes)) 0 nodes
        (each_weaker (λ n. In n nodes × Falls n) (IsDeep 0) (λ n good. (good, omega arith)) nodes all_good))

    pub is_forest : RiseFrom 0 nodes → IsForestOf nodes (forest_of nodes)
    is_forest rise =
        let many = length nodes in
        let roots = roots_of nodes in
        let all = levels nodes many roots in
        let rest = level_below nodes (suc many) nodes in
        record {
          order = rise;
          once =
              is_permutation
              (chained nodes (all ++ rest) (nodes_in (forest_of nodes)) (levels_and_below nodes rise many)
              (chained (all ++ rest) all (nodes_in (forest_of nodes))
              (permuted_equal (all ++ rest) all (ap (λ more. all ++ more) nothing_below ∙ append-nil all))
              (permuted_back (has_levels nodes many roots))));
          top = tops-side_by_side (below nodes many) roots;
          below = all_placed (below nodes many) roots roots_placed;
        }
