use Rattle.store_core.proofs.Starts.{GuardsBelow}
use Rattle.running_store.specs.StoreView.{base_of}
use Rattle.store_core.proofs.starting.guards_at_start.Given as goal

-- the guards so far
abbrev pub invariant-loop-head : goal.invariant-loop-head
invariant-loop-head l = GuardsBelow (base_of l.metas l.marked) l.guards l.md_len l.head
