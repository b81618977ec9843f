use Rattle.std.proofs.Common.{false, Some, sym, ap, ◌∙◌, subst}
use Rattle.super_block.specs.declared.page.Super.{Super}
use Rattle.running_store.specs.Blobs.{blobs_of, WillBeKept}
use Rattle.running_store.specs.DeviceCalls.{mark_page}
use Rattle.running_store.specs.Jobs.{freeze_of, job_seen, IsHeaded}
use Rattle.running_store.specs.Running.{view_of}
use Rattle.running_store.specs.declared.job.RunningJob.{RunningJob}
use Rattle.metadata_turns.specs.JobTurns.{with_job, TurnsJob}
use Rattle.running_store.proofs.OrderKept.{job_on, order_kept, regions, room_still}
use Rattle.running_store.proofs.PlainFacts.{on_err, on_ok}
use Rattle.metadata_turns.specs.Telling.{HasFailed}
use Rattle.metadata_turns.proofs.JobFailed.{failed_marking, waiting_row}
use Rattle.metadata_turns.proofs.Marked.{behind_mark, mark_first, marked_store, seen_freeze}
use Rattle.metadata_turns.proofs.marking.mark.Goals as goal

pub fail_job-requires-clause-row : goal.fail_job-requires-clause-row
fail_job-requires-clause-row g c =
    waiting_row g.D.PageDisk (view_of c.args.running.now) (job_seen c.args.job) c.requires.at_work
    c.requires.order.seventeen c.requires.waits

pub returns-then-is_err-clause-case : goal.returns-then-is_err-clause-case
returns-then-is_err-clause-case g c =
    let p = view_of c.args.running.now in
    failed_marking g.D.PageDisk p (job_seen c.args.job) c.requires.at_work c.requires.order.seventeen
    c.mark_in_use.new.disk
    (view_of c.fail_job.new.running)
    c.requires.waits (subst (λ o. HasFailed o c.args.waiting
    (view_of (record c.args.running.now { disk = c.mark_in_use.new.disk })) (view_of c.fail_job.new.running)
    (g.D.PageDisk.clock c.fail_job.new.running.disk)) (sym (seen_freeze c.args.job))
    (subst (λ (s : Super). HasFailed (freeze_of c.args.job.serves) c.args.waiting
    (view_of (record c.args.running.now { disk = c.mark_in_use.new.disk; sup = s })) (view_of c.fail_job.new.running)
    (g.D.PageDisk.clock c.fail_job.new.running.disk)) c.mark_in_use.ensures.kept
    c.fail_job.ensures.failed))
    (behind_mark c.args.job).todo (mark_first c.args.job c.requires.marks)
    (mark_page c.args.running.now.sup) c.mark_in_use.ensures.says c.mark_in_use.ensures.any_moment
    c.mark_in_use.ensures.pages
    (on_err c.mark_in_use.result _ (sym c.is_err.ensures.value ∙ c.if-is_err.true) c.mark_in_use.ensures.fails)

pub returns-clause-case : goal.returns-clause-case
returns-clause-case g c =
    let p = view_of c.args.running.now in
    subst (λ (s : Super). TurnsJob g.D.PageDisk (with_job p (job_seen c.args.job)) (record p {
      disk = c.mark_in_use.new.disk;
      super = s;
      clean = false;
      job = Some (job_seen c.with_mark.result);
    })) (sym c.mark_in_use.ensures.kept)
    (subst (λ (j : RunningJob). TurnsJob g.D.PageDisk (with_job p (job_seen c.args.job)) (record p {
      disk = c.mark_in_use.new.disk;
      clean = false;
      job = Some (job_seen j);
    })) (sym c.with_mark.ensures)
    (marked_store g.D.PageDisk p c.args.job c.requires.at_work c.requires.marks c.mark_in_use.new.disk
    (mark_page c.args.running.now.sup) c.mark_in_use.ensures.says c.mark_in_use.ensures.any_moment
    c.mark_in_use.ensures.pages (λ told. on_ok c.mark_in_use.result _ (sym c.is_err.ensures.value ∙ c.if-is_err.false)
    (c.mark_in_use.ensures.durable told))
    (on_ok c.mark_in_use.result _ (sym c.is_err.ensures.value ∙ c.if-is_err.false) c.mark_in_use.ensures.moves)))

pub returns-clause-order : goal.returns-clause-order
returns-clause-order g c =
    let order = c.requires.order in
    let now = c.args.running.now in
    order_kept g.D.PageDisk now order c.mark_in_use.ensures.pages (ap regions c.mark_in_use.ensures.kept)
    (room_still g.D.PageDisk now order) order.no_page order.no_cluster
    (job_on g.D.PageDisk now order (subst IsHeaded (sym c.with_mark.ensures) c.requires.headed)
    (subst (WillBeKept (blobs_of now)) (sym c.with_mark.ensures) c.requires.kept))
