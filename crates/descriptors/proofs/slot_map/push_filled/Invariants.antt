use Rattle.std.proofs.Common.{◌≡◌, ◌++◌}
use Rattle.descriptors.specs.Slots.{run_slots}
use Rattle.std.specs.Prelude.{Some}
use Rattle.descriptors.proofs.slot_map.push_filled.Given as goal

abbrev pub invariant-loop-i : goal.invariant-loop-i
invariant-loop-i l = l.slots.items ≡ l.fn.slots.items ++ run_slots (Some l.cluster) l.i
