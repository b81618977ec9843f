use Rattle.std.proofs.Common.{◌≡◌, length}
use Rattle.inflate_delete.specs.DeleteJobs.{first_slots_over}
use Rattle.inflate_delete.proofs.handing.slots_over.Given as goal

abbrev pub invariant-loop-at : goal.invariant-loop-at
invariant-loop-at l = (l.slots ≡ first_slots_over l.meta l.other l.at) × (length l.slots ≡ l.at)
