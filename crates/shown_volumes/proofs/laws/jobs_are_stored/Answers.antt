use Rattle.shown_volumes.proofs.StoredJobs.{jobs_stored}
use Rattle.shown_volumes.proofs.PartsStored.{parts_stored, resolved_steady, steady_stored, steady_rest}
use Rattle.shown_volumes.proofs.laws.jobs_are_stored.Goals as goal

pub returns : goal.returns
returns c = record {
  jobs = jobs_stored;
  parts = λ s. record {
    parts = parts_stored s;
    resolved = resolved_steady s;
    steady = steady_stored s;
    rest = steady_rest s;
  };
}
