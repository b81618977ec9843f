use Rattle.std.proofs.Common.{◌∙◌}
use Rattle.listing_text.specs.Drawing.{nodes_of}
use Rattle.listing_text.proofs.Steps.{drawn_one, fewer_left}
use Rattle.listing_text.proofs.drawing.draw_below.Goals as goal

pub loop-branch-smaller : goal.loop-branch-smaller
loop-branch-smaller c =
    fewer_left (nodes_of c.args.lines.now) c.loop-branch.left.items c.pop.new.self.items c.draw_branch.new.left.items
    c.in-Some.branch c.in-Some.ensures.items c.in_ok-draw_branch.ensures.left

pub loop-branch-preserved : goal.loop-branch-preserved
loop-branch-preserved c =
    drawn_one (nodes_of c.args.lines.now) c.loop-branch.left.items c.pop.new.self.items c.draw_branch.new.left.items
    c.in-Some.branch c.in-Some.ensures.items c.in_ok-draw_branch.ensures.left c.loop-branch.text.items
    c.draw_branch.new.text.items c.in_ok-draw_branch.ensures.line
    ∙ c.loop-branch.invariant
