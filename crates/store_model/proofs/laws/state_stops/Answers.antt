use Rattle.store_model.proofs.CountedReads.{run_reads}
use Rattle.store_model.proofs.StateStops.{run_counts, run_faults, run_quiet, run_uncounted}
use Rattle.store_model.proofs.laws.state_stops.Goals as goal

pub returns : goal.returns
returns c = record {
  counted = run_counts;
  uncounted = run_uncounted;
  quiet = run_quiet;
  fault = run_faults;
  read = run_reads;
}
