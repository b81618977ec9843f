-- A store may go to another thread where its device may.
-- The parts are proved one by one, each as a field has it: a `search` that goes down through all of them runs out.
use denote.RattleType.{RattleType}
use denote.Param.Send.{IsSend, IsSync, sendable}
use Rattle.std.proofs.Crossing.{crosses}
use Rattle.boxcar.proofs.Sent.{tag_send}
use Rattle.page_disk.specs.declared.disk.PageDisk.{Ghosts}
use Rattle.volume_model.specs.contracts.command.Command as Command
use Rattle.volume_model.specs.contracts.reply.Reply as Reply
use Rattle.volume_model.specs.contracts.reply.Entry as Entry
use Rattle.blob_meta.specs.contracts.meta.Meta as Meta
use Rattle.running_store.specs.contracts.job.RunningJob as RunningJob
use Rattle.running_store.specs.contracts.replacements.Commit as Commit
use Rattle.running_store.specs.contracts.replacements.LaidReplacement as LaidReplacement
use Rattle.running_store.specs.contracts.replacements.Planned as Planned
use Rattle.running_store.specs.contracts.rows.Row as Row
use Rattle.running_store.specs.contracts.running.Running as Running
use Rattle.store_core.specs.contracts.plant.Plant as Plant
use Rattle.worker_threads.specs.contracts.locked_store.LockedStore as LockedStore
use Rattle.worker_threads.specs.contracts.shared_store.SharedStore as SharedStore
use Rattle.worker_threads.specs.declared.locked_store.GivenStore as given

ruleset parts = (crosses, tag_send, sendable)

command_send : IsSend (Command.the_field).row
command_send = search parts depth 80 fits 6000

reply_send : IsSend (Reply.the_field).row
reply_send = search parts depth 80 fits 6000

entry_send : IsSend (Entry.the_field).row
entry_send = search (command_send, reply_send, parts) depth 80 fits 6000

row_send : IsSend (Row.the_field).row
row_send = search (command_send, parts) depth 80 fits 6000

meta_send : IsSend (Meta.the_field).row
meta_send = search parts depth 80 fits 6000

commit_send : IsSend (Commit.the_field).row
commit_send = search (meta_send, parts) depth 80 fits 6000

planned_send : IsSend (Planned.the_field).row
planned_send = search (commit_send, meta_send, parts) depth 80 fits 6000

laid_send : IsSend (LaidReplacement.the_field).row
laid_send = search (planned_send, commit_send, parts) depth 80 fits 6000

job_send : IsSend (RunningJob.the_field).row
job_send = search (laid_send, planned_send, commit_send, parts) depth 80 fits 6000

pub running_send : (D : RattleType) → IsSend D → IsSend (Running.the_field D).row
running_send D s = search (entry_send, row_send, meta_send, job_send, parts) depth 80 fits 6000

pub plant_send : (D : RattleType) (d : Ghosts D.Denot) → IsSend D → IsSend (Plant.the_row D d)
plant_send D d s = let r = running_send D s in search (crosses, sendable) depth 20

module _ (D O : RattleType) (d : Ghosts D.Denot) (o : given.Ghosts O.Denot D.Denot) where
  pub locked_send : IsSend D → IsSend O → IsSend (LockedStore.the_row D O d o)
  locked_send s t = let p = plant_send D d s in search (crosses, sendable) depth 20

  pub shared_sync : IsSend D → IsSend O → IsSync (SharedStore.the_row D O d o)
  shared_sync s t = let l = locked_send s t in search (crosses, sendable) depth 20
