use Rattle.std.proofs.Common.{◌≡◌, take}
use Rattle.descriptors.specs.Runs.{slots_in}
use Rattle.descriptors.proofs.runs.map_of.Given as goal

abbrev pub invariant-loop-run : goal.invariant-loop-run
invariant-loop-run l = l.map ≡ slots_in (take l.run-index l.runs)
