-- Each child has one parent, and is drawn once.
use Rattle.std.proofs.Common.{◌≡◌, ◌∙◌, ◌||◌, ℕ, zero, suc, ◌+◌, ◌<◌, Bool, true, false, not, List, [], ◌∷◌, ◌++◌}
use Rattle.std.proofs.Common.{Option, Some, None, refl, sym, ap, append_assoc, arith}
use Rattle.std.proofs.lemmas.Bool.{eqb-true, false≢true}
use Rattle.std.specs.Prelude.{cond, unwrap_or}
use Rattle.std.specs.List.{AllByRecursion, filter, flat_map, list_any}
use Rattle.volume_model.specs.Volumes.{is_given_head}
use Rattle.listing_text.specs.Forest.{below, children_of, Forest, Node, roots_of, side_by_side}
use Rattle.listing_laws.specs.Trees.{nodes_in, RiseFrom}
use Rattle.listing_laws.proofs.Permuted.{both, chained, change_places, none, permuted_back, permuted_behind}
use Rattle.listing_laws.proofs.Permuted.{permuted_equal, permuted_flat_map, Permuted, to_front}

-- ---- filters

-- what passes one of two tests, of which never both pass
filter_either : (q r : Node → Bool) → ((x : Node) → q x ≡ true → r x ≡ true → ⊥) → (xs : List Node)
    → Permuted (filter (λ x. q x || r x) xs) (filter q xs ++ filter r xs)
filter_either q r apart [] = none
filter_either q r apart (x ∷ xs) =
    let all = filter (λ y. q y || r y) xs in
    let firsts = filter q xs in
    let seconds = filter r xs in
    let rest = filter_either q r apart xs in
    (elim (q x) as (λ b. q x ≡ b → Permuted (cond (b || r x) (x ∷ all) all)
    (cond b (x ∷ firsts) firsts ++ cond (r x) (x ∷ seconds) seconds)) [
      | true ↦ λ is.
          (elim (r x) as (λ d. r x ≡ d
          → Permuted (x ∷ all) (x ∷ (firsts ++ cond d (x ∷ seconds) seconds))) [
            | true ↦ λ too. absurd (apart x is too)
            | false ↦ λ no. both x all (firsts ++ seconds) rest
          ]) refl
      | false ↦ λ no.
          elim (r x) as (λ d. Permuted (cond d (x ∷ all) all) (firsts ++ cond d (x ∷ seconds) seconds)) [
            | true ↦
                chained (x ∷ all) (x ∷ (firsts ++ seconds)) (firsts ++ x ∷ seconds)
                (both x all (firsts ++ seconds) rest) (permuted_back (to_front firsts x seconds))
            | false ↦ rest
          ]
    ]) refl

-- what passes a test, and what doesn't
filter_other : (q : Node → Bool) (xs : List Node) → Permuted xs (filter (λ x. not (q x)) xs ++ filter q xs)
filter_other q [] = none
filter_other q (x ∷ xs) =
    let others = filter (λ y. not (q y)) xs in
    let those = filter q xs in
    let rest = filter_other q xs in
    elim (q x) as (λ b. Permuted (x ∷ xs) (cond (not b) (x ∷ others) others ++ cond b (x ∷ those) those)) [
      | true ↦
          chained (x ∷ xs) (x ∷ (others ++ those)) (others ++ x ∷ those) (both x xs (others ++ those) rest)
          (permuted_back (to_front others x those))
      | false ↦ both x xs (others ++ those) rest
    ]

filter_no : (xs : List Node) → filter (λ x. false) xs ≡ []
filter_no [] = refl
filter_no (x ∷ xs) = filter_no xs

-- ---- parents

-- the head that is given
pub given_is : (head : ℕ) (o : Option ℕ) → is_given_head head o ≡ true → o ≡ Some head
given_is head None is = absurd (false≢true is)
given_is head (Some k) is = ap (λ n. Some n) (eqb-true k head is)

all_above : (head low : ℕ) → head < low → (ns : List Node) → RiseFrom low ns
    → AllByRecursion (λ n. head < n.head) ns
all_above head low less [] rise = tt
all_above head low less (n ∷ ns) rise =
    let at = rise.0 in (omega (arith, less, at), all_above head (n.head + 1) (omega (arith, less, at)) ns rise.1)

no_other : (head : ℕ) (o : Option ℕ) → o ≡ Some head → (ns : List Node) → AllByRecursion (λ n. head < n.head) ns
    → list_any (λ n. is_given_head n.head o) ns ≡ true → ⊥
no_other head o is [] above any = cc any
no_other head o is (n ∷ ns) above any =
    (elim (is_given_head n.head o) as (λ b. is_given_head n.head o ≡ b
    → (b || list_any (λ m. is_given_head m.head o) ns) ≡ true → ⊥) [
      | true ↦ λ given any.
          let same : head ≡ n.head = ap (λ (p : Option ℕ). unwrap_or p head) (sym is ∙ given_is n.head o given) in
          let less = above.0 in absurd (omega (arith, same, less))
      | false ↦ λ other any. no_other head o is ns above.1 any
    ]) refl any

-- the children of each of these are those who have one of them for their parent
children_once : (all : List Node) (low : ℕ) (ns : List Node) → RiseFrom low ns
    → Permuted (filter (λ c. list_any (λ n. is_given_head n.head c.parent) ns) all)
    (flat_map (λ n. children_of n.head all) ns)
children_once all low [] rise = permuted_equal (filter (λ c. false) all) [] (filter_no all)
children_once all low (n ∷ ns) rise =
    let first = λ (c : Node). is_given_head n.head c.parent in
    let others = λ (c : Node). list_any (λ m. is_given_head m.head c.parent) ns in
    let above = all_above n.head (n.head + 1) (omega arith) ns rise.1 in
    chained (filter (λ c. first c || others c) all) (filter first all ++ filter others all)
    (filter first all ++ flat_map (λ m. children_of m.head all) ns)
    (filter_either first others
    (λ c given any. no_other n.head c.parent (given_is n.head c.parent given) ns above any) all)
    (permuted_behind (filter first all) (filter others all) (flat_map (λ m. children_of m.head all) ns)
    (children_once all (n.head + 1) ns rise.1))

-- ---- a forest by its levels

flat_map-both : (g : Node → List Node) (xs ys : List Node) → flat_map g (xs ++ ys) ≡ flat_map g xs ++ flat_map g ys
flat_map-both g [] ys = refl
flat_map-both g (x ∷ xs) ys =
    ap (λ rest. g x ++ rest) (flat_map-both g xs ys) ∙ sym (append_assoc (g x) (flat_map g xs) (flat_map g ys))

nodes_in-both : (f : Node → Forest) (xs ys : List Node)
    → nodes_in (side_by_side f (xs ++ ys)) ≡ nodes_in (side_by_side f xs) ++ nodes_in (side_by_side f ys)
nodes_in-both f [] ys = refl
nodes_in-both f (x ∷ xs) ys =
    ap (λ rest. x ∷ (nodes_in (f x) ++ rest)) (nodes_in-both f xs ys)
    ∙ ap (λ rest. x ∷ rest)
    (sym (append_assoc (nodes_in (f x)) (nodes_in (side_by_side f xs)) (nodes_in (side_by_side f ys))))

nodes_in-flat_map : (f : Node → Forest) (g : Node → List Node) (ns : List Node)
    → flat_map (λ n. nodes_in (side_by_side f (g n))) ns ≡ nodes_in (side_by_side f (flat_map g ns))
nodes_in-flat_map f g [] = refl
nodes_in-flat_map f g (n ∷ ns) =
    ap (λ rest. nodes_in (side_by_side f (g n)) ++ rest) (nodes_in-flat_map f g ns)
    ∙ sym (nodes_in-both f (g n) (flat_map g ns))

-- those side by side, and then what is below them
level_first : (f : Node → Forest) (ns : List Node)
    → Permuted (nodes_in (side_by_side f ns)) (ns ++ flat_map (λ n. nodes_in (f n)) ns)
level_first f [] = none
level_first f (n ∷ ns) =
    let under = nodes_in (f n) in
    let beside = nodes_in (side_by_side f ns) in
    let others = flat_map (λ m. nodes_in (f m)) ns in
    both n (under ++ beside) (ns ++ (under ++ others))
    (chained (under ++ beside) (under ++ (ns ++ others)) (ns ++ (under ++ others))
    (permuted_behind under beside (ns ++ others) (level_first f ns)) (change_places under ns others))

module _ (nodes : List Node) where
  abbrev pub next_level : List Node → List Node
  next_level ns = flat_map (λ n. children_of n.head nodes) ns

  -- so many levels further down
  abbrev pub level_below : ℕ → List Node → List Node
  level_below zero ns = ns
  level_below (suc k) ns = level_below k (next_level ns)

  -- so many levels more
  abbrev pub levels : ℕ → List Node → List Node
  levels zero ns = ns
  levels (suc k) ns = ns ++ levels k (next_level ns)

  level_below-both : (k : ℕ) (xs ys : List Node) → level_below k (xs ++ ys) ≡ level_below k xs ++ level_below k ys
  level_below-both zero xs ys = refl
  level_below-both (suc k) xs ys =
      ap (level_below k) (flat_map-both (λ n. children_of n.head nodes) xs ys)
      ∙ level_below-both k (next_level xs) (next_level ys)

  level_below-permuted : (k : ℕ) (xs ys : List Node) → Permuted xs ys → Permuted (level_below k xs) (level_below k ys)
  level_below-permuted zero xs ys p = p
  level_below-permuted (suc k) xs ys p =
      level_below-permuted k (next_level xs) (next_level ys) (permuted_flat_map (λ n. children_of n.head nodes) p)

  levels-more : (k : ℕ) (ns : List Node) → levels (suc k) ns ≡ levels k ns ++ level_below (suc k) ns
  levels-more zero ns = refl
  levels-more (suc k) ns =
      ap (λ rest. ns ++ rest) (levels-more k (next_level ns))
      ∙ sym (append_assoc ns (levels k (next_level ns)) (level_below (suc k) (next_level ns)))

  bare_below : (ns : List Node) → nodes_in (side_by_side (below nodes zero) ns) ≡ ns
  bare_below [] = refl
  bare_below (n ∷ ns) = ap (λ rest. n ∷ rest) (bare_below ns)

  -- a forest of so many levels has them
  pub has_levels : (k : ℕ) (ns : List Node) → Permuted (nodes_in (side_by_side (below nodes k) ns)) (levels k ns)
  has_levels zero ns = permuted_equal (nodes_in (side_by_side (below nodes zero) ns)) ns (bare_below ns)
  has_levels (suc k) ns =
      let under = flat_map (λ n. nodes_in (below nodes (suc k) n)) ns in
      let next = nodes_in (side_by_side (below nodes k) (next_level ns)) in
      chained (nodes_in (side_by_side (below nodes (suc k)) ns)) (ns ++ under) (ns ++ levels k (next_level ns))
      (level_first (below nodes (suc k)) ns)
      (permuted_behind ns under (levels k (next_level ns))
      (chained under next (levels k (next_level ns))
      (permuted_equal under next (nodes_in-flat_map (below nodes k) (λ n. children_of n.head nodes) ns))
      (has_levels k (next_level ns))))

  module _ (rise : RiseFrom 0 nodes) where
    -- all are roots, or children of one
    roots_and_children : Permuted nodes (roots_of nodes ++ next_level nodes)
    roots_and_children =
        let child = λ (c : Node). list_any (λ n. is_given_head n.head c.parent) nodes in
        chained nodes (roots_of nodes ++ filter child nodes) (roots_of nodes ++ next_level nodes)
        (filter_other child nodes)
        (permuted_behind (roots_of nodes) (filter child nodes) (next_level nodes) (children_once nodes 0 nodes rise))

    -- all are in the first levels, or further down
    pub levels_and_below : (k : ℕ) → Permuted nodes (levels k (roots_of nodes) ++ level_below (suc k) nodes)
    levels_and_below zero = roots_and_children
    levels_and_below (suc k) =
        let roots = roots_of nodes in
        let some = levels k roots in
        let more = level_below (suc k) roots in
        let rest = level_below (suc (suc k)) nodes in
        chained nodes (some ++ level_below (suc k) nodes) (levels (suc k) roots ++ rest) (levels_and_below k)
        (chained (some ++ level_below (suc k) nodes) (some ++ (more ++ rest)) (levels (suc k) roots ++ rest)
        (permuted_behind some (level_below (suc k) nodes) (more ++ rest)
        (chained (level_below (suc k) nodes) (level_below (suc k) (roots ++ next_level nodes)) (more ++ rest)
        (level_below-permuted (suc k) nodes (roots ++ next_level nodes) roots_and_children)
        (permuted_equal (level_below (suc k) (roots ++ next_level nodes)) (more ++ rest)
        (level_below-both (suc k) roots (next_level nodes)))))
        (permuted_equal (some ++ (more ++ rest)) (levels (suc k) roots ++ rest)
        (sym (append_assoc some more rest) ∙ ap (λ front. front ++ rest) (sym (levels-more k roots)))))
