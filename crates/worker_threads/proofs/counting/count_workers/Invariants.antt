use Rattle.std.proofs.Common.{◌≡◌, ◌≤◌, ◌<◌, ℕ}
use Rattle.running_store.specs.StoreView.{rows_of}
use Rattle.store_model.specs.Rows.{Ended}
use Rattle.worker_threads.proofs.counting.count_workers.Given as goal

abbrev pub invariant-loop-workers : goal.invariant-loop-workers
invariant-loop-workers g l = record {
  few : l.workers ≤ 16;
  above : (channel : ℕ) → l.workers ≤ channel → channel < 16 → (rows_of l.plant.at.rows channel).stage ≡ Ended;
}

abbrev pub decreases-loop-workers : goal.decreases-loop-workers
decreases-loop-workers g l = l.workers
