use Rattle.std.proofs.Common.{◌≡◌, ℕ, ◌<◌}
use Rattle.store_model.specs.Rows.{Ended}
use Rattle.running_store.specs.StoreView.{rows_of}
use Rattle.md_thread.proofs.ending.have_ended.Given as goal

abbrev pub invariant-loop-channel : goal.invariant-loop-channel
invariant-loop-channel g l =
    (other : ℕ) → other < l.channel → (rows_of l.plant.at.rows other).stage ≡ Ended
