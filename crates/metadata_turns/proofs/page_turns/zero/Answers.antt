use Rattle.std.proofs.Common.{◌∙◌, refl, sym, subst, arith}
use Rattle.running_store.specs.Blobs.{blobs_of, CanAllBeKept}
use Rattle.running_store.specs.Jobs.{phases_in, zeroing_for}
use Rattle.running_store.specs.Running.{view_of}
use Rattle.running_store.proofs.OrderKept.{job_on, order_kept, room_still}
use Rattle.running_store.proofs.PlainFacts.{on_err, on_ok, zeros}
use Rattle.metadata_turns.proofs.JobFailed.{waiting_row}
use Rattle.metadata_turns.proofs.ZeroTurned.{failed_zeroing, page_low, zeroed_one}
use Rattle.metadata_turns.proofs.page_turns.zero.Goals as goal

pub write_one-requires : goal.write_one-requires
write_one-requires g c =
    let at = c.next_page-page.ensures in
    let below = page_low g.D.PageDisk (view_of c.args.running.now) c.args.beside.serves c.args.planned
    c.args.beside.old c.args.zeroed (phases_in c.args.beside.later.items) c.requires.at_work c.requires.zeroed in
    let device = c.requires.order.device in
    omega (arith, at, below, device)

pub fail_job-requires-clause-row : goal.fail_job-requires-clause-row
fail_job-requires-clause-row g c =
    waiting_row g.D.PageDisk (view_of c.args.running.now) (zeroing_for c.args.beside.serves c.args.planned
    c.args.beside.old c.args.zeroed (phases_in c.args.beside.later.items)) c.requires.at_work
    c.requires.order.seventeen c.requires.waits

pub returns-then-is_err-clause-case : goal.returns-then-is_err-clause-case
returns-then-is_err-clause-case g c =
    failed_zeroing g.D.PageDisk (view_of c.args.running.now) c.args.beside.serves c.args.planned
    c.args.beside.old c.args.zeroed (phases_in c.args.beside.later.items) c.requires.at_work c.requires.zeroed
    c.write_one.new.disk
    c.next_page-page.result c.next_page-page.ensures zeros c.write_one.ensures.any_moment c.write_one.ensures.pages
    (on_err c.write_one.result _ (sym c.is_err.ensures.value ∙ c.if-is_err.true) c.write_one.ensures.fails)
    (view_of c.fail_job.new.running)
    c.requires.waits c.fail_job.ensures.failed

pub returns-clause-case : goal.returns-clause-case
returns-clause-case g c =
    zeroed_one g.D.PageDisk (view_of c.args.running.now) c.args.beside.serves c.args.planned
    c.args.beside.old c.args.zeroed (phases_in c.args.beside.later.items) c.requires.at_work c.requires.zeroed
    c.write_one.new.disk
    c.next_page-page.result c.next_page-page.ensures zeros c.write_one.ensures.any_moment c.write_one.ensures.pages
    (on_ok c.write_one.result _ (sym c.is_err.ensures.value ∙ c.if-is_err.false) c.write_one.ensures.moves)
    _ c.behind_zeros.ensures.seen

pub returns-clause-order : goal.returns-clause-order
returns-clause-order g c =
    let order = c.requires.order in
    let now = c.args.running.now in
    order_kept g.D.PageDisk now order c.write_one.ensures.pages refl (room_still g.D.PageDisk now order) order.no_page
    order.no_cluster (job_on g.D.PageDisk now order c.behind_zeros.ensures.headed
    (subst (CanAllBeKept (blobs_of now)) (sym c.behind_zeros.ensures.coming) c.requires.kept))
