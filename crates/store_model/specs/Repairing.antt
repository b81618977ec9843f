-- When nothing is left of what recovery has to repair.
use Rattle.std.specs.Prelude.{◌≡◌, ◌≢◌, ℕ, Some}
use Rattle.blob_meta.specs.Repairs.{HasNoMarks}
use Rattle.store_model.specs.StoreState.{ForRepair, JobState, StoreState}

-- No repair is left, the running job serves a command or an insert, or the store has stopped.
pub data IsRepaired (p : StoreState) : Type 0 where
  unmarked : HasNoMarks p.base → IsRepaired p
  at_work : (job : JobState) → p.job ≡ Some job → job.serves ≢ ForRepair → IsRepaired p
  halted : (at : ℕ) → p.stopped ≡ Some at → IsRepaired p
