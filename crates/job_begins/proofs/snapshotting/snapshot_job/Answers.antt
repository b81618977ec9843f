use Rattle.std.proofs.Common.{◌<◌, List, length, sym, arith, subst}
use Rattle.std.proofs.Common.{Some}
use Rattle.std.specs.Prelude.{slice_set}
use Rattle.volume_model.specs.declared.reply.Reply.{Reply}
use Rattle.volume_model.specs.declared.reply.Reply.TheVariants as r
use Rattle.io_freeze.specs.Guards.{GuardsState}
use Rattle.store_model.specs.StoreState.{marked}
use Rattle.store_model.specs.Cases.{Begins, IsRefusedAtBegin}
use Rattle.store_model.specs.Rows.{InJob}
use Rattle.running_store.specs.Blobs.{blobs_of, CanAllBeKept}
use Rattle.running_store.specs.Jobs.{job_seen, to_come}
use Rattle.running_store.specs.Running.{view_of}
use Rattle.running_store.specs.Steps.{Asks}
use Rattle.running_store.specs.StoreView.{rows_of, state_of}
use Rattle.job_begins.specs.declared.steps.Step.{Step}
use Rattle.job_begins.proofs.BeginKnown.{of_posted}
use Rattle.job_begins.proofs.JobPlanned.{both_fit}
use Rattle.job_begins.proofs.PassedOn.{passed_on}
use Rattle.job_begins.proofs.SnapshotBegins.{snapshot_begins_so, snapshot_kept_so}
use Rattle.job_begins.proofs.SnapshotKnown.{known, numbered, snapshot_memory}
use Rattle.job_begins.proofs.SnapshotSteps.{for_command, short}
use Rattle.job_begins.proofs.snapshotting.snapshot_job.Goals as goal

pub steps_of-requires-clause-begun : goal.steps_of-requires-clause-begun
steps_of-requires-clause-begun g c =
    both_fit c.args.ask.begun (known c.requires.can c.requires.asks).begun_can

pub steps_of-requires-clause-filled : goal.steps_of-requires-clause-filled
steps_of-requires-clause-filled g c =
    both_fit c.args.ask.filled (known c.requires.can c.requires.asks).filled_can

pub steps_of-requires-clause-emptied : goal.steps_of-requires-clause-emptied
steps_of-requires-clause-emptied g c =
    both_fit c.args.ask.emptied (known c.requires.can c.requires.asks).emptied_can

pub steps_of-requires-clause-made : goal.steps_of-requires-clause-made
steps_of-requires-clause-made g c =
    both_fit c.args.ask.made (known c.requires.can c.requires.asks).made_can

pub returns-in_err-steps-clause-lack : goal.returns-in_err-steps-clause-lack
returns-in_err-steps-clause-lack g c =
    let s = state_of g.D.PageDisk (view_of c.args.running.now) in
    let refused = λ (reply : Reply). Asks (view_of c.args.running.now) c.args.channel
    (λ command. IsRefusedAtBegin s command reply) in
    passed_on c.from_residual.result c.from_residual.ensures.1 refused
    (of_posted c.requires.can (λ command. IsRefusedAtBegin s command r.Memory)
    (snapshot_memory c.requires.can c.requires.asks))

pub job_on_pages-requires-clause-some : goal.job_on_pages-requires-clause-some
job_on_pages-requires-clause-some g c =
    subst (λ (l : List Step). 0 < length l) (sym c.in_ok-steps.ensures.drafts.steps_are) (omega arith)

pub job_on_pages-requires-clause-steps : goal.job_on_pages-requires-clause-steps
job_on_pages-requires-clause-steps g c =
    for_command c.requires.can c.requires.asks c.in_ok-steps.steps.items c.in_ok-steps.ensures

pub freeze-requires : goal.freeze-requires
freeze-requires g c =
    numbered c.requires.can c.requires.asks

pub returns-clause-begins : goal.returns-clause-begins
returns-clause-begins g c =
    let d = g.D.PageDisk in
    let q = view_of c.args.running.now in
    subst (λ (y : GuardsState). Begins (state_of d q) (state_of d (record q {
      rows = slice_set q.rows c.args.channel (record (rows_of q.rows c.args.channel) { stage = InJob });
      job = Some (marked q.clean (job_seen c.in_ok-job.job));
      guards = y;
      pages = c.job_on_pages.new.pages.bits;
    }))) (sym c.freeze.ensures)
    (snapshot_begins_so c.requires.can c.requires.asks c.in_ok-steps.steps.items c.in_ok-steps.ensures
    c.job_on_pages.new.pages.bits c.in_ok-job.job c.in_ok-job.ensures.job)

pub returns-clause-kept : goal.returns-clause-kept
returns-clause-kept g c =
    subst (λ (y : GuardsState). CanAllBeKept (record (blobs_of c.args.running.now) { guards = y })
    (to_come c.in_ok-job.job)) (sym c.freeze.ensures)
    (snapshot_kept_so c.requires.can c.requires.asks c.in_ok-steps.steps.items c.in_ok-steps.ensures
    c.job_on_pages.new.pages.bits c.in_ok-job.job c.in_ok-job.ensures.job)

pub returns-in_err-job-clause-lack : goal.returns-in_err-job-clause-lack
returns-in_err-job-clause-lack g c =
    let s = state_of g.D.PageDisk (view_of c.args.running.now) in
    let refused = λ (reply : Reply). Asks (view_of c.args.running.now) c.args.channel
    (λ command. IsRefusedAtBegin s command reply) in
    passed_on c.from_residual-in_err-job.result c.from_residual-in_err-job.ensures.1 refused
    (of_posted c.requires.can (λ command. IsRefusedAtBegin s command c.in_err-job.field-0.0)
    (short c.requires.can c.requires.asks c.in_ok-steps.steps.items c.in_ok-steps.ensures c.in_err-job.field-0.0
    c.in_err-job.ensures.lack))
