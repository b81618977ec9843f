use Rattle.std.proofs.Common.{ℕ, Some, ap, ◌∙◌, arith}
use Rattle.descriptors.proofs.LongestRuns.{filled_one_more}
use Rattle.descriptors.proofs.runs.filled_front.Goals as goal

pub loop-count-preserved : goal.loop-count-preserved
loop-count-preserved c = filled_one_more c.args.slots.now c.args.cluster c.loop-count.count (omega arith)
    c.loop-count.invariant (c.in-Some.is ∙ ap (λ (n : ℕ). Some n) (omega arith))
