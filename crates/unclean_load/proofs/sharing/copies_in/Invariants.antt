use Rattle.std.proofs.Common.{◌≡◌, ◌≤◌, take}
use Rattle.unclean_load.specs.Sharing.{copies_in}
use Rattle.unclean_load.proofs.sharing.copies_in.Given as goal

-- as many as the slots so far have
abbrev pub invariant-loop-slot : goal.invariant-loop-slot
invariant-loop-slot l = (l.found ≡ copies_in l.cluster (take l.slot-index l.slot-items)) × (l.found ≤ l.slot-index)
