use Rattle.std.proofs.Common.{◌≡◌, take}
use Rattle.volume_model.proofs.lists.ListOfTryCopy.try_copy.Given as goal

abbrev pub invariant-loop-item : goal.invariant-loop-item
invariant-loop-item g l = l.copy ≡ take l.item-index l.self
