use Rattle.std.proofs.Common.{◌≡◌, take, None}
use Rattle.descriptors.specs.Slots.{run_slots}
use Rattle.descriptors.proofs.runs.empty_front.Given as goal

abbrev pub invariant-loop-count : goal.invariant-loop-count
invariant-loop-count l = take l.count l.slots ≡ run_slots None l.count
