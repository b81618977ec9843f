use Rattle.std.proofs.Common.{◌≡◌, ◌<◌, ℕ, drop, get_or}
use Rattle.descriptors.specs.Runs.{slots_in, Reaches}
use Rattle.blob_meta.proofs.ClustersOutside.{first_outside}
use Rattle.blob_meta.proofs.checks.outside_of_runs.Given as goal

-- the runs so far have none
abbrev pub invariant-loop-run : goal.invariant-loop-run
invariant-loop-run l = record {
  none : first_outside l.fixed l.clusters (slots_in l.runs)
      ≡ first_outside l.fixed l.clusters (slots_in (drop l.run-index l.runs));
  reach : (k : ℕ) → k < l.run-index → Reaches (get_or l.runs k (record { cluster = 0; length = 0 }));
}
