-- What a command asks for, by the form of its job.
use Rattle.std.specs.Prelude.{◌≡◌}
use Rattle.volume_model.specs.declared.command.Command.{Command}
use Rattle.blob_meta.specs.declared.job.Job.{Job}
use Rattle.inflate_delete.specs.DeleteJobs.{erase_job}
use Rattle.store_model.specs.Asking.{IsJobFor}
use Rattle.store_model.specs.Phases.{Committing}
use Rattle.store_model.specs.StoreState.{StoreState}
use Rattle.job_begins.specs.Begins.{job_with_zeros, AsksToWrite}
use Rattle.job_begins.specs.Deletions.{deletion_changes, AsksToDelete}
use Rattle.job_begins.specs.Snapshots.{snapshot_changes, AsksToSnapshot}
use Rattle.job_begins.specs.declared.asking.Ask.{Ask}
use Rattle.job_begins.specs.declared.asking.Ask.TheVariants as ask

-- the job is of this form
abbrev pub IsAskOf : Job → Ask → Type 0
IsAskOf job (ask.Writes head new zeros) = job ≡ job_with_zeros head new zeros
IsAskOf job (ask.Erases head) = job ≡ erase_job head
IsAskOf job (ask.Deletes x) = job.list ≡ deletion_changes x
IsAskOf job (ask.Snapshots x) = job.list ≡ snapshot_changes x
IsAskOf job ask.Other = Unit {0}

-- the job that the command asks for is this one
pub record IsAskedFor (p : StoreState) (command : Command) (job : Job) : Type 0 where
  pub commit : Committing
  pub asked : IsJobFor p command job commit

-- The command asks for this; for the rest of what its job has to be there is a record of each form.
abbrev pub IsAskedAs : StoreState → Command → Ask → Type 0
IsAskedAs p command (ask.Writes head new zeros) = AsksToWrite p command head new zeros
IsAskedAs p command (ask.Erases head) = IsAskedFor p command (erase_job head)
IsAskedAs p command (ask.Deletes x) = AsksToDelete p command x
IsAskedAs p command (ask.Snapshots x) = AsksToSnapshot p command x
IsAskedAs p command ask.Other = (job : Job) × IsAskedFor p command job
