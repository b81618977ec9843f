use Rattle.std.proofs.Common.{◌≡◌, ◌++◌, replicate}
use Rattle.volume_model.specs.Volumes.{zero_page}
use Rattle.volume_model.proofs.machine.pages.push_zeros.Given as goal

abbrev pub invariant-loop-done : goal.invariant-loop-done
invariant-loop-done l = l.pages.items ≡ l.initial.pages.items ++ replicate l.done zero_page
