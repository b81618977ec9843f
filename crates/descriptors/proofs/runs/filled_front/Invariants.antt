use Rattle.std.proofs.Common.{◌≡◌, take, Some}
use Rattle.descriptors.specs.Slots.{run_slots}
use Rattle.descriptors.proofs.runs.filled_front.Given as goal

abbrev pub invariant-loop-count : goal.invariant-loop-count
invariant-loop-count l = take l.count l.slots ≡ run_slots (Some l.cluster) l.count
