use Rattle.std.proofs.Common.{◌≡◌, ◌≤◌, ◌*◌, ◌^◌}
use Rattle.std.specs.List.{sum_by, range_with_len}
use Rattle.volume_model.specs.Machine.{volumes_in}
use Rattle.volume_model.specs.Volumes.{slots_at}
use Rattle.volume_model.proofs.machine.Volumes.all_slots.Given as goal

abbrev pub invariant-loop-head : goal.invariant-loop-head
invariant-loop-head l = (l.all ≡ sum_by (slots_at l.self.fixed (volumes_in l.self)) (range_with_len 0 l.head))
    × (l.all ≤ l.head * 2 ^ 64)
