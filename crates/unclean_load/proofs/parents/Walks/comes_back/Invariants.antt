use Rattle.std.proofs.Common.{length}
use Rattle.std.specs.FinMap as map
use Rattle.unclean_load.proofs.WalkSteps.{Walking, all_unwalked}
use Rattle.unclean_load.proofs.parents.Walks.comes_back.Given as goal

-- where the walk is, and the places to which it came
abbrev pub invariant-loop-self : goal.invariant-loop-self
invariant-loop-self l = Walking (map.get l.metas) l.self.begun.items l.head l.at (length l.fn.self.begun.items)

abbrev pub decreases-loop-self : goal.decreases-loop-self
decreases-loop-self l = all_unwalked l.self.begun.items
