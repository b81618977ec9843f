-- What is to be done for a message.
use Rattle.std.specs.Prelude.{◌≡◌, ◌≢◌, ℕ, Bool, Option, None, Some, Result, Ok, Err}
use Rattle.volume_model.specs.declared.command.Command.{Command}
use Rattle.volume_model.specs.declared.reply.Msg.{Msg}
use Rattle.volume_model.specs.declared.reply.Reply.{Reply}
use Rattle.blob_meta.specs.declared.job.Job.{Job}
use Rattle.page_disk.specs.declared.disk.PageDisk.{Ghosts}
use Rattle.store_model.specs.Cases.{IsRefusedBy}
use Rattle.store_model.specs.Rows.{Posted}
use Rattle.metadata_turns.specs.Answering.{IsAnswerable}
use Rattle.job_begins.specs.Begins.{IsJobOf}
use Rattle.running_store.specs.Requests.{IsInsertPosted, IsPostedBy}
use Rattle.running_store.specs.StoreView.{rows_of, StoreView, state_of}
use Rattle.running_store.specs.Steps.{Asks}
use Rattle.channel_turns.specs.FillTurns.{IsNextToFill}
use Rattle.lvol_store.specs.declared.filling.FillPlan.{FillPlan}
use Rattle.lvol_store.specs.declared.filling.FillPlan.TheVariants as plan
use Rattle.md_thread.specs.declared.serving.Filling.{Filling}
use Rattle.md_thread.specs.declared.serving.Filling.TheVariants as fill
use Rattle.run_moves.specs.FillTurns.{FillEnd, FillTurn}
use Rattle.store_model.specs.StoreState.{StoreState}
use Rattle.md_thread.specs.declared.serving.Served.{Served}
use Rattle.md_thread.specs.declared.serving.Served.TheVariants as served
use Rattle.run_moves.specs.DriverSteps.{ServingTurn}
use Rattle.store_model.specs.Filling.{IsFilledFor}
use Rattle.md_thread.specs.declared.tasks.Task.{Task}
use Rattle.md_thread.specs.declared.tasks.Task.TheVariants as task

-- What is planned next for an inflate or a decouple of a store that runs: the slot that it fills, or its last job.
abbrev pub IsFillPlanOf : {D : Type 0} → Ghosts D → StoreView D → Command → FillPlan → Type 0
IsFillPlanOf d p command (plan.Slot slot) = IsNextToFill (state_of d p) command slot
IsFillPlanOf d p command (plan.Last job) = IsJobOf (state_of d p) command job

-- What is planned for a command of a store that runs, which no slots are filled for: nothing, if it is answered in
-- memory; else its job, or a refusal for its first cause or for want of memory.
abbrev pub IsPlanOf : {D : Type 0} → Ghosts D → StoreView D → Command → Option (Result Job Reply) → Type 0
IsPlanOf d p command None = IsAnswerable command
IsPlanOf d p command (Some (Ok job)) = IsJobOf (state_of d p) command job
IsPlanOf d p command (Some (Err reply)) = IsRefusedBy (state_of d p) command reply

-- A message that is out of date asks for nothing, one of a row with a claim for its insert. A command in memory is
-- answered; another is refused for a cause, has its job, or a slot is filled for it next. What a stopped store is asked
-- to do doesn't count.
abbrev pub IsTaskOf : {D : Type 0} → Ghosts D → StoreView D → Msg → Task → Type 0
IsTaskOf d p msg task.Nothing = (rows_of p.rows msg.channel).stage ≢ Posted msg.serial
IsTaskOf d p msg task.Insert = IsInsertPosted p.rows msg
IsTaskOf d p msg task.Answer = IsPostedBy p.rows msg × Asks p msg.channel IsAnswerable
IsTaskOf d p msg (task.Refuse reply) = IsPostedBy p.rows msg
    × (p.stopped ≡ None → Asks p msg.channel (λ command. IsRefusedBy (state_of d p) command reply))
IsTaskOf d p msg (task.Begin job) = IsPostedBy p.rows msg
    × (p.stopped ≡ None → Asks p msg.channel (λ command. IsJobOf (state_of d p) command job))
IsTaskOf d p msg (task.Claim slot) = IsPostedBy p.rows msg × (p.stopped ≡ None)
    × Asks p msg.channel (λ command. IsNextToFill (state_of d p) command slot)

-- the fill goes on, or it has ended
abbrev pub FillMoves : Bool → StoreState → StoreState → ℕ → Filling → Type 0
FillMoves told p q channel fill.GoesOn = FillTurn told p q channel
FillMoves told p q channel fill.Ended = FillEnd told p q channel

-- A message was served by one turn; or its command, an inflate or a decouple, has become the fill, which goes on or has
-- ended with its first turn.
abbrev pub ServesMessage : {D : Type 0} → Ghosts D → StoreView D → StoreView D → ℕ → Served → Type 0
ServesMessage d p q channel served.Done = ServingTurn d.tells (state_of d p) (state_of d q) channel
ServesMessage d p q channel (served.Fills filling) = IsFilledFor (rows_of p.rows channel)
    × FillMoves d.tells (state_of d p) (state_of d q) channel filling
