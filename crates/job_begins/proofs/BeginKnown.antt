-- What is known where a job can begin.
use Rattle.std.proofs.Common.{◌≡◌, ◌∙◌, ℕ, ◌<◌, ◌∷◌, length, None, sym, ap, arith, subst}
use Rattle.std.specs.Option.{option_map}
use Rattle.page_disk.specs.declared.disk.PageDisk.{Ghosts}
use Rattle.volume_model.specs.declared.command.Command.{Command}
use Rattle.running_store.specs.Jobs.{job_seen}
use Rattle.running_store.specs.Running.{view_of}
use Rattle.running_store.specs.Steps.{Asks}
use Rattle.running_store.specs.declared.running.Running.{Running}
use Rattle.job_begins.specs.JobBegins.{CanBegin}

module _ {D : Type 0} {d : Ghosts D} {store : Running D} {channel : ℕ} (can : CanBegin d store channel) where
  -- no job is seen
  pub no_job : (view_of store).job ≡ None
  no_job = ap (λ o. option_map job_seen o) can.no_job

  -- the channel has a row
  pub has_row : channel < length (view_of store).rows
  has_row = let within = can.within in let rows = can.order.seventeen in omega (arith, within, rows)

  -- what holds of the posted command is what is asked for
  pub of_posted : (P : Command → Type 0) → P can.posted.waits.command → Asks (view_of store) channel P
  of_posted P holds command rest left =
      let lists : can.posted.waits.command ∷ can.posted.waits.rest ≡ command ∷ rest =
      sym (ap (λ r. r.left) can.posted.waits.row) ∙ left in
      let same : can.posted.waits.command ≡ command = cc lists in
      subst P same holds
