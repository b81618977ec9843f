use Rattle.std.proofs.Common.{◌+◌, false, sym, ◌∙◌, subst, Some}
use Rattle.running_store.specs.Jobs.{phases_in, writing_for}
use Rattle.running_store.specs.Running.{view_of}
use Rattle.running_store.proofs.PlainFacts.{on_err, on_ok}
use Rattle.running_store.specs.declared.job.RunningJob.{RunningJob}
use Rattle.running_store.specs.declared.job.Work.TheVariants.{Writing}
use Rattle.metadata_turns.specs.JobTurns.{with_job, TurnsJob}
use Rattle.metadata_turns.proofs.FreshWritten.{fresh_failed, fresh_inside, wrote_fresh}
use Rattle.metadata_turns.proofs.JobFailed.{waiting_row}
use Rattle.metadata_turns.proofs.page_turns.write_fresh.Goals as goal

pub write_one-requires : goal.write_one-requires
write_one-requires g c =
    fresh_inside g.D.PageDisk (view_of c.args.running.now) c.args.beside.serves c.args.planned c.args.beside.old
    c.args.written (phases_in c.args.beside.later.items) c.requires.at_work c.as_slice.ensures c.requires.left
    c.page_at-page.result c.page_at-page.ensures (g.D.PageDisk.pages c.args.running.now.disk)
    c.requires.order.inside

pub fail_job-requires-clause-row : goal.fail_job-requires-clause-row
fail_job-requires-clause-row g c =
    waiting_row g.D.PageDisk (view_of c.args.running.now) (writing_for c.args.beside.serves c.args.planned
    c.args.beside.old c.args.written (phases_in c.args.beside.later.items)) c.requires.at_work
    c.requires.order.seventeen c.requires.waits

pub returns-then-is_err-clause-case : goal.returns-then-is_err-clause-case
returns-then-is_err-clause-case g c =
    fresh_failed g.D.PageDisk (view_of c.args.running.now) c.args.beside.serves c.args.planned c.args.beside.old
    c.args.written (phases_in c.args.beside.later.items) c.requires.at_work c.as_slice.ensures c.requires.left
    c.page_at-page.result c.page_at-page.ensures c.write_one.new.disk
    c.write_one.ensures.any_moment c.write_one.ensures.pages c.requires.order.seventeen
    (on_err c.write_one.result _ (sym c.is_err.ensures.value ∙ c.if-is_err.true) c.write_one.ensures.fails)
    (view_of c.fail_job.new.running) c.requires.waits c.fail_job.ensures.failed

pub returns-clause-case : goal.returns-clause-case
returns-clause-case g c =
    let d = g.D.PageDisk in
    let p = view_of c.args.running.now in
    let now = writing_for c.args.beside.serves c.args.planned c.args.beside.old c.args.written
    (phases_in c.args.beside.later.items) in
    subst (λ (j : RunningJob). TurnsJob d (with_job p now)
    (view_of (record c.args.running.now { disk = c.write_one.new.disk; job = Some j })))
    {x = record {
      serves = c.args.beside.serves;
      marks = false;
      work = Writing c.args.planned (c.args.written + 1);
      old = c.args.beside.old;
      later = c.args.beside.later;
    }} (sym c.at.ensures)
    (wrote_fresh d p c.args.beside.serves c.args.planned c.args.beside.old c.args.written
    (phases_in c.args.beside.later.items) c.requires.at_work c.as_slice.ensures c.requires.left c.page_at-page.result
    c.page_at-page.ensures c.write_one.new.disk c.write_one.ensures.any_moment c.write_one.ensures.pages
    (on_ok c.write_one.result _ (sym c.is_err.ensures.value ∙ c.if-is_err.false) c.write_one.ensures.moves))
