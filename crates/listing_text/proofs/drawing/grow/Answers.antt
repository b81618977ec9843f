use Rattle.std.proofs.Common.{◌∙◌, ◌++◌, ◌-◌, ap, arith, drop, rules, sym}
use Rattle.listing_text.specs.Forest.{Forest}
use Rattle.listing_text.specs.Drawing.{drawn, is_bare, lines_left, nodes_of}
use Rattle.listing_text.proofs.Steps.{child_more, children_from, left_more}
use Rattle.listing_text.proofs.drawing.grow.Goals as goal

pub loop-from-preserved-then-is_child : goal.loop-from-preserved-then-is_child
loop-from-preserved-then-is_child c =
    let nodes = nodes_of c.args.lines.now in
    let head = c.args.line.now.head in
    let from = c.loop-from.from in
    let low = c.loop-from.invariant.within in
    let some = c.loop-from-test.true in
    let whole = child_more nodes (c.args.levels - 1) head c.args.lines.now (from - 1) from c.index-lines-from.result
    (omega (arith, some)) (omega (arith, some, low)) c.index-lines-from.is (search rules) in
    let others = lines_left nodes c.args.left.now.items in
    let beside = children_from nodes (c.args.levels - 1) head (drop from c.args.lines.now) in
    record {
      within = omega (arith, low);
      last = ap is_bare (sym whole);
      left =
          ap (lines_left nodes) c.in_ok-push.ensures.items
          ∙ left_more nodes c.args.art.now beside _ c.loop-from.left.items others (search rules)
          c.loop-from.invariant.last c.loop-from.invariant.left
          ∙ ap (λ (f : Forest). drawn c.args.art.now f ++ others) (sym whole);
    }
