-- A drawing goes on by one volume.
use Rattle.std.proofs.Common.{◌≡◌, ℕ, ◌+◌, ◌<◌, Bool, true, List, [], ◌∷◌, ◌++◌, length, drop, get_or, refl}
use Rattle.std.proofs.Common.{sym, ap, ap₂, ◌∙◌, append_assoc, arith}
use Rattle.std.specs.List.{filter}
use Rattle.std.proofs.lemmas.List.{append-nil, drop_more}
use Rattle.volume_model.specs.Volumes.{is_given_head}
use Rattle.listing_text.specs.Forest.{below, children_of, Forest, grown, is_root, Node, side_by_side}
use Rattle.listing_text.specs.Drawing.{branch_line, drawn, fork, is_bare, joined, lines_below, lines_left, node_of, nodes_of, stem}
use Rattle.listing_text.specs.declared.drawing.Branch.{Branch}
use Rattle.listing_text.specs.declared.drawing.VolumeLine.{VolumeLine}

-- the children of a head among the lines that are left, each with what is below it
abbrev pub children_from : List Node → ℕ → ℕ → List VolumeLine → Forest
children_from nodes levels head lines = side_by_side (below nodes levels) (children_of head (nodes_of lines))

-- the roots among the lines that are left, each with what is below it
abbrev pub roots_from : List Node → List VolumeLine → Forest
roots_from nodes lines = side_by_side (below nodes (length nodes)) (filter (is_root nodes) (nodes_of lines))

-- what is pushed is drawn first
pub left-push : (nodes : List Node) (bs : List Branch) (b : Branch)
    → lines_left nodes (bs ++ b ∷ []) ≡ (branch_line b ∷ lines_below nodes b) ++ lines_left nodes bs
left-push nodes [] b = sym (append-nil (branch_line b ∷ lines_below nodes b))
left-push nodes (x ∷ bs) b =
    ap (λ rows. rows ++ (branch_line x ∷ lines_below nodes x)) (left-push nodes bs b)
    ∙ append_assoc (branch_line b ∷ lines_below nodes b) (lines_left nodes bs) (branch_line x ∷ lines_below nodes x)

-- the lines of both are those of the one and then those of the other
pub joined-append : (xs ys : List (List ℕ)) → joined (xs ++ ys) ≡ joined xs ++ joined ys
joined-append [] ys = refl
joined-append (x ∷ xs) ys = ap (λ rest. x ++ rest) (joined-append xs ys) ∙ sym (append_assoc x (joined xs) (joined ys))

module _ (nodes : List Node) where
  -- one child more, with what is below it
  pub child_more : (levels head : ℕ) (lines : List VolumeLine) (i from : ℕ) (child : VolumeLine) → i + 1 ≡ from
      → i < length lines → child ≡ get_or lines i child → is_given_head head child.parent ≡ true
      → children_from nodes levels head (drop i lines)
      ≡ grown (node_of child) (below nodes levels (node_of child)) (children_from nodes levels head (drop from lines))
  child_more levels head lines i from child next within here is =
      ap (children_from nodes levels head)
      (drop_more lines i child within
      ∙ ap₂ (λ (x : VolumeLine) (k : ℕ). x ∷ drop k lines) (sym here) next)
      ∙ rw is refl

  -- a child that is pushed comes before its siblings that are there
  pub left_more : (art : List ℕ) (beside : Forest) (b : Branch) (bs : List Branch) (others : List (List ℕ))
      → b.art.items ≡ art → b.last ≡ is_bare beside → lines_left nodes bs ≡ drawn art beside ++ others
      → lines_left nodes (bs ++ b ∷ [])
      ≡ drawn art (grown (node_of b.line.now) (below nodes b.levels (node_of b.line.now)) beside) ++ others
  left_more art beside b bs others same last left =
      let under = below nodes b.levels (node_of b.line.now) in
      let words = b.line.now.words.items in
      left-push nodes bs b
      ∙ ap₂
      (λ (a : List ℕ) (l : Bool). (a ++ fork l ++ words) ∷ (drawn (a ++ stem l) under ++ lines_left nodes bs)) same last
      ∙ ap
      (λ rows. (art ++ fork (is_bare beside) ++ words) ∷ (drawn (art ++ stem (is_bare beside)) under ++ rows)) left
      ∙ ap (λ rows. (art ++ fork (is_bare beside) ++ words) ∷ rows)
      (sym (append_assoc (drawn (art ++ stem (is_bare beside)) under) (drawn art beside) others))

  module _ (old rest now : List Branch) (b : Branch) (popped : old ≡ rest ++ b ∷ [])
      (left : lines_left nodes now ≡ lines_below nodes b ++ lines_left nodes rest) where
    one_less : lines_left nodes old ≡ branch_line b ∷ lines_left nodes now
    one_less =
        ap (lines_left nodes) popped ∙ left-push nodes rest b ∙ ap (λ rows. branch_line b ∷ rows) (sym left)

    -- one line is drawn, and all else is left
    pub drawn_one : (text more : List ℕ) → more ≡ text ++ branch_line b
        → more ++ joined (lines_left nodes now) ≡ text ++ joined (lines_left nodes old)
    drawn_one text more is =
        ap (λ (t : List ℕ). t ++ joined (lines_left nodes now)) is
        ∙ append_assoc text (branch_line b) (joined (lines_left nodes now))
        ∙ ap (λ rows. text ++ joined rows) (sym one_less)

    pub fewer_left : length (lines_left nodes now) < length (lines_left nodes old)
    fewer_left = let e = ap (λ (rows : List (List ℕ)). length rows) one_less in omega (arith, e)
