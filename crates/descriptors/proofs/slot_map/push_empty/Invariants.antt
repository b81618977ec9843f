use Rattle.std.proofs.Common.{◌≡◌, ◌++◌}
use Rattle.descriptors.specs.Slots.{run_slots}
use Rattle.std.specs.Prelude.{None}
use Rattle.descriptors.proofs.slot_map.push_empty.Given as goal

abbrev pub invariant-loop : goal.invariant-loop
invariant-loop l = l.slots.items ≡ l.fn.slots.items ++ run_slots None l.counter
