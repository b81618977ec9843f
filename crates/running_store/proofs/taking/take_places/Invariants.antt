use Rattle.std.proofs.Common.{◌≤◌, vec_capacity}
use Rattle.running_store.proofs.PagesTaken.{Takes}
use Rattle.running_store.proofs.taking.take_places.Given as goal

abbrev pub invariant-loop : goal.invariant-loop
invariant-loop g l = Takes l.fn.pool.bits l.count l.counter l.pool l.places.items × (l.count ≤ vec_capacity l.places)
