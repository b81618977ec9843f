use Rattle.std.proofs.Common.{◌≡◌, drop}
use Rattle.running_store.specs.Places.{with_numbers, CanNumber}
use Rattle.metadata_turns.proofs.adopting.number_all.Given as goal

abbrev pub invariant-loop-head : goal.invariant-loop-head
invariant-loop-head l =
    (with_numbers l.guards (drop l.head-index l.heads) ≡ with_numbers l.fn.guards l.heads)
    × CanNumber l.guards (drop l.head-index l.heads)
