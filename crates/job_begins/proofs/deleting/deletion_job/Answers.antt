use Rattle.std.proofs.Common.{◌<◌, List, length, sym, arith, subst}
use Rattle.std.proofs.lemmas.Result.{IfErr-weaker, IfOk-weaker}
use Rattle.volume_model.specs.declared.reply.Reply.{Reply}
use Rattle.volume_model.specs.declared.reply.Reply.TheVariants.{Memory}
use Rattle.store_model.specs.Cases.{IsRefusedAtBegin}
use Rattle.running_store.specs.Running.{view_of}
use Rattle.running_store.specs.Steps.{Asks}
use Rattle.running_store.specs.StoreView.{state_of}
use Rattle.job_begins.specs.declared.steps.Step.{Step}
use Rattle.job_begins.proofs.BeginKnown.{of_posted}
use Rattle.job_begins.proofs.DeletionAsked.{going_low, going_stored, taking_low, taking_stored}
use Rattle.job_begins.proofs.DeletionBegins.{begins_deletion, keeps_deletion}
use Rattle.job_begins.proofs.DeletionSteps.{for_command, it, lacks_memory, short}
use Rattle.job_begins.proofs.JobPlanned.{both_fit}
use Rattle.job_begins.proofs.RepairBegins.{chained, room}
use Rattle.job_begins.proofs.PassedOn.{passed_on}
use Rattle.job_begins.proofs.deleting.deletion_job.Goals as goal

pub steps_of-requires-clause-room : goal.steps_of-requires-clause-room
steps_of-requires-clause-room g c =
    room g.D.PageDisk (view_of c.args.running.now) c.requires.can.running c.requires.can.runs

pub steps_of-requires-clause-chained : goal.steps_of-requires-clause-chained
steps_of-requires-clause-chained g c =
    chained g.D.PageDisk (view_of c.args.running.now) c.requires.can.running c.requires.can.runs

pub steps_of-requires-clause-taking_low : goal.steps_of-requires-clause-taking_low
steps_of-requires-clause-taking_low g c =
    taking_low c.requires.can.running c.requires.can.unmarked c.requires.can.runs (it c.requires.can c.requires.asks)

pub steps_of-requires-clause-going_low : goal.steps_of-requires-clause-going_low
steps_of-requires-clause-going_low g c =
    going_low c.requires.can.running c.requires.can.unmarked c.requires.can.runs (it c.requires.can c.requires.asks)

pub steps_of-requires-clause-going : goal.steps_of-requires-clause-going
steps_of-requires-clause-going g c =
    let stored = going_stored c.requires.can.running c.requires.can.unmarked c.requires.can.runs
    (it c.requires.can c.requires.asks) in
    both_fit c.args.ask.going (stored.xattrs, stored.internal)

pub steps_of-requires-clause-taking : goal.steps_of-requires-clause-taking
steps_of-requires-clause-taking g c =
    let stored = taking_stored c.requires.can.running c.requires.can.unmarked c.requires.can.runs
    (it c.requires.can c.requires.asks) in
    both_fit c.args.ask.taking (stored.xattrs, stored.internal)

pub job_on_pages-requires-clause-some : goal.job_on_pages-requires-clause-some
job_on_pages-requires-clause-some g c =
    subst (λ (l : List Step). 0 < length l) (sym c.in_ok-steps.ensures.drafts.steps_are) (omega arith)

pub job_on_pages-requires-clause-steps : goal.job_on_pages-requires-clause-steps
job_on_pages-requires-clause-steps g c =
    for_command c.requires.can c.requires.asks c.in_ok-steps.steps.items c.in_ok-steps.ensures

-- ---- what it lacks

pub returns-in_err-steps-clause-lack : goal.returns-in_err-steps-clause-lack
returns-in_err-steps-clause-lack g c =
    let s = state_of g.D.PageDisk (view_of c.args.running.now) in
    passed_on c.from_residual.result c.from_residual.ensures.1
    (λ (reply : Reply). Asks (view_of c.args.running.now) c.args.channel (λ command. IsRefusedAtBegin s command reply))
    (of_posted c.requires.can (λ command. IsRefusedAtBegin s command Memory)
    (lacks_memory c.requires.can c.requires.asks))

pub returns-clause-lack : goal.returns-clause-lack
returns-clause-lack g c =
    let s = state_of g.D.PageDisk (view_of c.args.running.now) in
    IfErr-weaker c.job_on_pages.result _ _ (λ reply is.
    of_posted c.requires.can (λ command. IsRefusedAtBegin s command reply)
    (short c.requires.can c.requires.asks c.in_ok-steps.steps.items c.in_ok-steps.ensures reply is))
    c.job_on_pages.ensures.lack

-- ---- it begins

pub returns-clause-begins : goal.returns-clause-begins
returns-clause-begins g c =
    IfOk-weaker c.job_on_pages.result _ _ (λ job on. begins_deletion c.requires.can c.requires.asks
    c.in_ok-steps.steps.items c.in_ok-steps.ensures c.job_on_pages.new.pages.bits job on) c.job_on_pages.ensures.job

pub returns-clause-kept : goal.returns-clause-kept
returns-clause-kept g c =
    IfOk-weaker c.job_on_pages.result _ _ (λ job on. keeps_deletion c.requires.can c.requires.asks
    c.in_ok-steps.steps.items c.in_ok-steps.ensures c.job_on_pages.new.pages.bits job on) c.job_on_pages.ensures.job
