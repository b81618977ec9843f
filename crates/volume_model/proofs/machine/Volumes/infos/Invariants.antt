use Rattle.std.proofs.Common.{◌≡◌, None, if◌then◌else◌}
use Rattle.std.specs.List.{filter_map, range_with_len}
use Rattle.volume_model.specs.Machine.{volumes_in}
use Rattle.volume_model.specs.Steps.{info_at}
use Rattle.volume_model.specs.Volumes.{is_super}
use Rattle.volume_model.proofs.machine.Volumes.infos.Given as goal

abbrev pub invariant-loop-head : goal.invariant-loop-head
invariant-loop-head l = l.infos ≡ filter_map (λ h.
    if is_super l.self.fixed h then None else info_at l.self.fixed (volumes_in l.self) h) (range_with_len 0 l.head)
