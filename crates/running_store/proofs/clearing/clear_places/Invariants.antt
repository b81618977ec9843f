use Rattle.running_store.proofs.Cleared.{Clears}
use Rattle.running_store.proofs.clearing.clear_places.Given as goal

abbrev pub invariant-loop-place : goal.invariant-loop-place
invariant-loop-place g l = Clears l.fn.pool.bits l.places l.place-index l.pool
