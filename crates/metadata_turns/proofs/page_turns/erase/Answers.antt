use Rattle.std.proofs.Common.{◌+◌, false, sym, ◌∙◌, subst, arith, Some}
use Rattle.running_store.specs.Jobs.{erasing_for, phases_in}
use Rattle.running_store.specs.Running.{view_of}
use Rattle.running_store.proofs.PlainFacts.{on_err, on_ok, zeros}
use Rattle.running_store.specs.declared.job.RunningJob.{RunningJob}
use Rattle.running_store.specs.declared.job.Work.TheVariants.{Erasing}
use Rattle.metadata_turns.specs.JobTurns.{with_job, TurnsJob}
use Rattle.metadata_turns.proofs.JobErased.{erased_one, erase_failed, page_inside}
use Rattle.metadata_turns.proofs.JobFailed.{waiting_row}
use Rattle.metadata_turns.proofs.page_turns.erase.Goals as goal

pub write_one-requires : goal.write_one-requires
write_one-requires g c =
    page_inside g.D.PageDisk (view_of c.args.running.now) c.args.beside.serves c.args.beside.old c.args.erased
    (phases_in c.args.beside.later.items) c.requires.at_work (omega (arith, c.requires.left)) c.as_slice.ensures
    c.page_at-page.result c.page_at-page.ensures (g.D.PageDisk.pages c.args.running.now.disk)
    c.requires.order.inside

pub fail_job-requires-clause-row : goal.fail_job-requires-clause-row
fail_job-requires-clause-row g c =
    waiting_row g.D.PageDisk (view_of c.args.running.now)
    (erasing_for c.args.beside.serves c.args.beside.old c.args.erased (phases_in c.args.beside.later.items))
    c.requires.at_work c.requires.order.seventeen c.requires.waits

pub returns-then-is_err-clause-case : goal.returns-then-is_err-clause-case
returns-then-is_err-clause-case g c =
    erase_failed g.D.PageDisk (view_of c.args.running.now) c.args.beside.serves c.args.beside.old c.args.erased
    (phases_in c.args.beside.later.items) c.requires.at_work (omega (arith, c.requires.left)) c.as_slice.ensures
    c.page_at-page.result c.page_at-page.ensures c.write_one.new.disk zeros
    c.write_one.ensures.any_moment c.write_one.ensures.pages c.requires.order.seventeen
    (on_err c.write_one.result _ (sym c.is_err.ensures.value ∙ c.if-is_err.true) c.write_one.ensures.fails)
    (view_of c.fail_job.new.running) c.requires.waits c.fail_job.ensures.failed

pub returns-clause-case : goal.returns-clause-case
returns-clause-case g c =
    let d = g.D.PageDisk in
    let p = view_of c.args.running.now in
    let now = erasing_for c.args.beside.serves c.args.beside.old c.args.erased (phases_in c.args.beside.later.items) in
    subst (λ (j : RunningJob). TurnsJob d (with_job p now)
    (view_of (record c.args.running.now { disk = c.write_one.new.disk; job = Some j })))
    {x = record {
      serves = c.args.beside.serves;
      marks = false;
      work = Erasing (c.args.erased + 1);
      old = c.args.beside.old;
      later = c.args.beside.later;
    }} (sym c.at.ensures)
    (erased_one g.D.PageDisk (view_of c.args.running.now) c.args.beside.serves c.args.beside.old c.args.erased
    (phases_in c.args.beside.later.items) c.requires.at_work (omega (arith, c.requires.left)) c.as_slice.ensures
    c.page_at-page.result c.page_at-page.ensures c.write_one.new.disk zeros
    c.write_one.ensures.any_moment c.write_one.ensures.pages c.requires.left
    (on_ok c.write_one.result _ (sym c.is_err.ensures.value ∙ c.if-is_err.false) c.write_one.ensures.moves))
