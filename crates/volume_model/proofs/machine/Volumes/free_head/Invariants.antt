use Rattle.std.proofs.Common.{ℕ, ◌<◌, IsSome}
use Rattle.volume_model.specs.Machine.{volumes_in}
use Rattle.volume_model.proofs.machine.Volumes.free_head.Given as goal

abbrev pub invariant-loop-head : goal.invariant-loop-head
invariant-loop-head l = (k : ℕ) → k < l.head → IsSome (volumes_in l.self k)
