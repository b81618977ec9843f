use Rattle.std.proofs.Common.{subst}
use Rattle.std.specs.Option.{option_copied}
use Rattle.std.specs.Prelude.{IfOk}
use Rattle.volume_model.specs.declared.command.Command.{Command}
use Rattle.volume_model.specs.declared.command.Command.TheVariants as command
use Rattle.lvol_store.specs.CopyPlans.{ClonesAsAsked, SnapshotsAsAsked}
use Rattle.snapshots.specs.SnapshotJobs.{clone_job, snapshot_job}
use Rattle.md_thread.proofs.Planned.{answerable, is_running}
use Rattle.md_thread.proofs.PlannedAttributes.{live_given, put_plan, read_only_plan, sync_plan}
use Rattle.md_thread.proofs.PlannedSlots.{copy_plan, create_plan, delete_plan, rename_plan, resize_plan}
use Rattle.md_thread.proofs.tasks.planned.Goals as goal

pub plan_put-requires-clause-live : goal.plan_put-requires-clause-live
plan_put-requires-clause-live g c =
    let d = g.D.PageDisk in
    let p = c.args.plant.now.at in
    let running = is_running d c.args.plant.now c.keeps.ensures in
    live_given d c.plans.ensures p running c.requires.runs c.resolves.ensures c.requires.unmarked
    c.metas-metas.result.now c.sup-sup.result.now
    (option_copied c.live_of-live.result) c.metas-metas.ensures c.sup-sup.ensures c.args.command.now
    c.live_of-live.ensures.0 c.live_of-live.ensures.1

pub plan_sync-requires-clause-live : goal.plan_sync-requires-clause-live
plan_sync-requires-clause-live g c =
    let d = g.D.PageDisk in
    let p = c.args.plant.now.at in
    let running = is_running d c.args.plant.now c.keeps.ensures in
    live_given d c.plans.ensures p running c.requires.runs c.resolves.ensures c.requires.unmarked
    c.metas-metas.result.now c.sup-sup.result.now
    (option_copied c.live_of-live-in-Sync.result) c.metas-metas.ensures c.sup-sup.ensures c.args.command.now
    c.live_of-live-in-Sync.ensures.0 c.live_of-live-in-Sync.ensures.1

pub plan_readonly-requires-clause-live : goal.plan_readonly-requires-clause-live
plan_readonly-requires-clause-live g c =
    let d = g.D.PageDisk in
    let p = c.args.plant.now.at in
    let running = is_running d c.args.plant.now c.keeps.ensures in
    live_given d c.plans.ensures p running c.requires.runs c.resolves.ensures c.requires.unmarked
    c.metas-metas.result.now c.sup-sup.result.now
    (option_copied c.live_of-live-in-ReadOnly.result) c.metas-metas.ensures c.sup-sup.ensures c.args.command.now
    c.live_of-live-in-ReadOnly.ensures.0 c.live_of-live-in-ReadOnly.ensures.1

pub returns-in-Put : goal.returns-in-Put
returns-in-Put g c =
    let d = g.D.PageDisk in
    let p = c.args.plant.now.at in
    let running = is_running d c.args.plant.now c.keeps.ensures in
    put_plan d c.plans.ensures p running c.requires.runs c.resolves.ensures c.requires.unmarked c.metas-metas.result.now
    c.sup-sup.result.now
    (option_copied c.live_of-live.result) c.metas-metas.ensures c.sup-sup.ensures c.args.command.now c.in-Put.volume
    c.in-Put.key c.in-Put.value c.in-Put.is c.live_of-live.ensures.0 c.live_of-live.ensures.1 c.plan_put.result
    c.plan_put.ensures.job c.plan_put.ensures.unrefused c.plan_put.ensures.refused

pub returns-in-Sync : goal.returns-in-Sync
returns-in-Sync g c =
    let d = g.D.PageDisk in
    let p = c.args.plant.now.at in
    let running = is_running d c.args.plant.now c.keeps.ensures in
    sync_plan d c.plans.ensures p running c.requires.runs c.resolves.ensures c.requires.unmarked
    c.metas-metas.result.now c.sup-sup.result.now
    (option_copied c.live_of-live-in-Sync.result) c.metas-metas.ensures c.sup-sup.ensures c.args.command.now
    c.in-Sync.volume c.in-Sync.is c.live_of-live-in-Sync.ensures.0 c.live_of-live-in-Sync.ensures.1 c.plan_sync.result
    c.plan_sync.ensures.job c.plan_sync.ensures.unrefused c.plan_sync.ensures.refused

pub returns-in-ReadOnly : goal.returns-in-ReadOnly
returns-in-ReadOnly g c =
    let d = g.D.PageDisk in
    let p = c.args.plant.now.at in
    let running = is_running d c.args.plant.now c.keeps.ensures in
    read_only_plan d c.plans.ensures p running c.requires.runs c.resolves.ensures c.requires.unmarked
    c.metas-metas.result.now c.sup-sup.result.now
    (option_copied c.live_of-live-in-ReadOnly.result) c.metas-metas.ensures c.sup-sup.ensures c.args.command.now
    c.in-ReadOnly.volume c.in-ReadOnly.is c.live_of-live-in-ReadOnly.ensures.0 c.live_of-live-in-ReadOnly.ensures.1
    c.plan_readonly.result
    c.plan_readonly.ensures.job c.plan_readonly.ensures.unrefused c.plan_readonly.ensures.refused

pub returns-in-Create : goal.returns-in-Create
returns-in-Create g c =
    let d = g.D.PageDisk in
    let p = c.args.plant.now.at in
    let running = is_running d c.args.plant.now c.keeps.ensures in
    create_plan d p c.metas-metas.result.now c.sup-sup.result.now c.metas-metas.ensures c.sup-sup.ensures
    (c.plans.ensures.shows_all p running c.requires.runs c.resolves.ensures)
    (λ name slots thick uuid head xattrs. c.plans.ensures.create p name slots thick uuid head xattrs running
    c.requires.runs c.resolves.ensures)
    c.next_head-new.result c.next_head-new.ensures
    c.args.command.now c.in-Create.name c.in-Create.slots c.in-Create.thick c.in-Create.uuid c.in-Create.is
    c.plan_create.result c.plan_create.ensures.job c.plan_create.ensures.unrefused c.plan_create.ensures.refused

pub returns-in-Resize : goal.returns-in-Resize
returns-in-Resize g c =
    let d = g.D.PageDisk in
    let p = c.args.plant.now.at in
    let running = is_running d c.args.plant.now c.keeps.ensures in
    resize_plan d p c.metas-metas.result.now c.sup-sup.result.now c.metas-metas.ensures c.sup-sup.ensures
    (c.plans.ensures.shows_all p running c.requires.runs c.resolves.ensures) c.least_heads_are_meant.ensures
    (λ volume slots head old job. c.plans.ensures.resize p volume slots head old job running c.requires.runs
    c.resolves.ensures
    c.requires.unmarked)
    c.args.command.now c.in-Resize.volume c.in-Resize.slots c.in-Resize.is
    c.plan_resize.result c.plan_resize.ensures.job c.plan_resize.ensures.unrefused c.plan_resize.ensures.refused

pub returns-in-Clone : goal.returns-in-Clone
returns-in-Clone g c =
    let d = g.D.PageDisk in
    let p = c.args.plant.now.at in
    let running = is_running d c.args.plant.now c.keeps.ensures in
    copy_plan d p c.metas-metas.result.now c.sup-sup.result.now c.metas-metas.ensures c.sup-sup.ensures
    (c.plans.ensures.shows_all p running c.requires.runs c.resolves.ensures) command.Clone clone_job
    (λ volume name of old head xattrs. c.plans.ensures.clone p volume name of old head xattrs running
    c.requires.runs c.resolves.ensures c.requires.unmarked)
    c.next_head-new.result c.next_head-new.ensures c.args.command.now c.in-Clone.volume c.in-Clone.name c.in-Clone.is tt
    c.plan_clone.result
    (subst (λ (k : Command). IfOk c.plan_clone.result (ClonesAsAsked c.metas-metas.result.now c.sup-sup.result.now
    c.next_head-new.result k)) c.in-Clone.is c.plan_clone.ensures.job)
    c.plan_clone.ensures.unrefused c.plan_clone.ensures.refused

pub returns-in-Snapshot : goal.returns-in-Snapshot
returns-in-Snapshot g c =
    let d = g.D.PageDisk in
    let p = c.args.plant.now.at in
    let running = is_running d c.args.plant.now c.keeps.ensures in
    copy_plan d p c.metas-metas.result.now c.sup-sup.result.now c.metas-metas.ensures c.sup-sup.ensures
    (c.plans.ensures.shows_all p running c.requires.runs c.resolves.ensures) command.Snapshot snapshot_job
    (λ volume name of old head xattrs. c.plans.ensures.snapshot p volume name of old head xattrs running
    c.requires.runs c.resolves.ensures c.requires.unmarked)
    c.next_head-new.result c.next_head-new.ensures c.args.command.now c.in-Snapshot.volume c.in-Snapshot.name
    c.in-Snapshot.is tt c.plan_snapshot.result
    (subst (λ (k : Command). IfOk c.plan_snapshot.result (SnapshotsAsAsked c.metas-metas.result.now
    c.sup-sup.result.now c.next_head-new.result k)) c.in-Snapshot.is c.plan_snapshot.ensures.job)
    c.plan_snapshot.ensures.unrefused c.plan_snapshot.ensures.refused

pub returns-in-Delete : goal.returns-in-Delete
returns-in-Delete g c =
    let d = g.D.PageDisk in
    let p = c.args.plant.now.at in
    let running = is_running d c.args.plant.now c.keeps.ensures in
    delete_plan d p c.metas-metas.result.now c.sup-sup.result.now c.metas-metas.ensures c.sup-sup.ensures
    (c.plans.ensures.shows_all p running c.requires.runs c.resolves.ensures)
    (λ volume of job. c.plans.ensures.delete p volume of job running c.requires.runs c.resolves.ensures
    c.requires.unmarked)
    c.args.command.now c.in-Delete.volume c.in-Delete.is c.plan_delete.result c.plan_delete.ensures.job
    c.plan_delete.ensures.unrefused c.plan_delete.ensures.refused

pub returns-in-Rename : goal.returns-in-Rename
returns-in-Rename g c =
    let d = g.D.PageDisk in
    let p = c.args.plant.now.at in
    let running = is_running d c.args.plant.now c.keeps.ensures in
    rename_plan d p c.metas-metas.result.now c.sup-sup.result.now c.metas-metas.ensures c.sup-sup.ensures
    (c.plans.ensures.shows_all p running c.requires.runs c.resolves.ensures)
    (λ volume name head old job. c.plans.ensures.rename p volume name head old job running c.requires.runs
    c.resolves.ensures c.requires.unmarked)
    c.args.command.now c.in-Rename.volume c.in-Rename.name c.in-Rename.is
    c.plan_rename.result c.plan_rename.ensures.job c.plan_rename.ensures.unrefused c.plan_rename.ensures.refused

pub returns-in_default : goal.returns-in_default
returns-in_default g c =
    answerable c.args.command.now c.requires.for_metadata c.requires.unfilled c.in_default.not-Create
    c.in_default.not-Put c.in_default.not-Sync
    c.in_default.not-ReadOnly c.in_default.not-Resize c.in_default.not-Clone c.in_default.not-Rename
    c.in_default.not-Snapshot c.in_default.not-Delete
