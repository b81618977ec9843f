use Rattle.std.proofs.Common.{◌≡◌, ◌-◌, ◌^◌, take}
use Rattle.descriptors.specs.Runs.{at_most, slots_of_all}
use Rattle.descriptors.proofs.runs.count_of.Given as goal

abbrev pub invariant-loop-run : goal.invariant-loop-run
invariant-loop-run l = l.total ≡ at_most (2 ^ 64 - 1) (slots_of_all (take l.run-index l.runs))
