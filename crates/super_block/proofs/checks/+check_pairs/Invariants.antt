use Rattle.std.proofs.Common.{length}
use Rattle.super_block.proofs.checks.+check_pairs.Given as goal

abbrev pub decreases-check_pairs : goal.decreases-check_pairs
decreases-check_pairs l = length l.spans.now
