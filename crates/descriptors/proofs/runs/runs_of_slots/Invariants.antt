use Rattle.std.proofs.Common.{◌-◌, length}
use Rattle.descriptors.proofs.LongestRuns.{Turned}
use Rattle.descriptors.proofs.runs.runs_of_slots.Given as goal

abbrev pub invariant-loop-done : goal.invariant-loop-done
invariant-loop-done l = Turned l.runs l.slots l.done

abbrev pub decreases-loop-done : goal.decreases-loop-done
decreases-loop-done l = length l.slots - l.done
