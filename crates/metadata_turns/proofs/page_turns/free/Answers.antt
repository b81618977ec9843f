use Rattle.std.proofs.Common.{refl, sym, ◌∙◌, ap, subst, arith}
use Rattle.std.specs.Option.{option_map}
use Rattle.io_freeze.specs.Guards.{GuardsState}
use Rattle.running_store.specs.Blobs.{blobs_of}
use Rattle.running_store.specs.Jobs.{erasing_for, job_seen, phases_in}
use Rattle.running_store.specs.Running.{view_of, InOrder}
use Rattle.running_store.specs.StoreView.{StoreView}
use Rattle.running_store.proofs.OrderKept.{order_kept, room_still}
use Rattle.running_store.proofs.PlainFacts.{on_err, on_ok, zeros}
use Rattle.metadata_turns.specs.Telling.{IsWon}
use Rattle.metadata_turns.proofs.Behind.{guards_seen}
use Rattle.metadata_turns.proofs.HeadReplaced.{comes_alone, kept_left}
use Rattle.metadata_turns.proofs.JobErased.{freed_all, insert_row, old_differ, old_used, erase_failed, page_inside}
use Rattle.metadata_turns.proofs.JobFailed.{waiting_row}
use Rattle.metadata_turns.proofs.page_turns.free.Goals as goal

pub write_last-requires : goal.write_last-requires
write_last-requires g c =
    page_inside g.D.PageDisk (view_of c.args.running.now) c.args.beside.serves c.args.beside.old c.args.erased
    (phases_in c.args.beside.later.items) c.requires.at_work (omega (arith, c.requires.last)) c.as_slice.ensures
    c.page_at-page.result c.page_at-page.ensures (g.D.PageDisk.pages c.args.running.now.disk)
    c.requires.order.inside

pub fail_job-requires-clause-row : goal.fail_job-requires-clause-row
fail_job-requires-clause-row g c =
    waiting_row g.D.PageDisk (view_of c.args.running.now)
    (erasing_for c.args.beside.serves c.args.beside.old c.args.erased (phases_in c.args.beside.later.items))
    c.requires.at_work c.requires.order.seventeen c.requires.waits

pub returns-then-is_err-clause-case : goal.returns-then-is_err-clause-case
returns-then-is_err-clause-case g c =
    erase_failed g.D.PageDisk (view_of c.args.running.now) c.args.beside.serves c.args.beside.old c.args.erased
    (phases_in c.args.beside.later.items) c.requires.at_work (omega (arith, c.requires.last)) c.as_slice.ensures
    c.page_at-page.result c.page_at-page.ensures c.write_last.new.disk zeros
    c.write_last.ensures.any_moment c.write_last.ensures.pages c.requires.order.seventeen
    (on_err c.write_last.result _ (sym c.is_err.ensures.value ∙ c.if-is_err.true) c.write_last.ensures.fails)
    (view_of c.fail_job.new.running) c.requires.waits c.fail_job.ensures.failed

pub clear_places-requires-clause-distinct : goal.clear_places-requires-clause-distinct
clear_places-requires-clause-distinct g c =
    old_differ g.D.PageDisk (view_of c.args.running.now) c.args.beside.serves c.args.beside.old c.args.erased
    (phases_in c.args.beside.later.items) c.requires.at_work (omega (arith, c.requires.last))

pub clear_places-requires-clause-in_use : goal.clear_places-requires-clause-in_use
clear_places-requires-clause-in_use g c =
    old_used g.D.PageDisk (view_of c.args.running.now) c.args.beside.serves c.args.beside.old c.args.erased
    (phases_in c.args.beside.later.items) c.requires.at_work (omega (arith, c.requires.last))

pub win-requires-clause-row : goal.win-requires-clause-row
win-requires-clause-row g c =
    insert_row g.D.PageDisk (view_of c.args.running.now) c.args.beside.serves c.args.beside.old c.args.erased
    (phases_in c.args.beside.later.items) c.requires.at_work c.requires.order.seventeen

pub returns-clause-case : goal.returns-clause-case
returns-clause-case g c =
    let done = sym c.is_err.ensures.value ∙ c.if-is_err.false in
    freed_all g.D.PageDisk (view_of c.args.running.now) c.args.beside.serves c.args.beside.old c.args.erased
    (phases_in c.args.beside.later.items) c.requires.at_work (omega (arith, c.requires.last)) c.as_slice.ensures
    c.page_at-page.result c.page_at-page.ensures c.write_last.new.disk zeros
    c.write_last.ensures.any_moment c.write_last.ensures.pages c.requires.last
    (on_ok c.write_last.result _ done c.write_last.ensures.moves)
    (λ tells. on_ok c.write_last.result _ done (c.write_last.ensures.durable tells)) c.clear_places.new.pool.bits
    c.clear_places.ensures.bits _ c.next.ensures.seen
    (comes_alone c.args.beside.serves c.args.beside.later.items c.requires.follows) (view_of c.win.new.running)
    (subst (λ (v : StoreView g.row.D.Denot). IsWon c.args.beside.serves v (view_of c.win.new.running))
    (ap view_of c.go_on.ensures
    ∙ ap (λ (guards : GuardsState). record (view_of c.args.running.now) {
      disk = c.write_last.new.disk;
      pages = c.clear_places.new.pool.bits;
      job = option_map job_seen c.next.result;
      guards = guards;
    }) (guards_seen c.args.running.now.guards c.args.beside.serves c.next.result)) c.win.ensures.won)

pub win-requires-clause-order : goal.win-requires-clause-order
win-requires-clause-order g c =
    let old = c.args.running.now in
    let order = c.requires.order in
    subst (InOrder g.D.PageDisk) (sym c.go_on.ensures) (order_kept g.D.PageDisk old order c.write_last.ensures.pages
    refl (room_still g.D.PageDisk old order) c.clear_places.ensures.unclaimed order.no_cluster (record {
      headed = c.next.ensures.headed;
      heads = order.heads;
      resolves = order.resolves;
      kept = kept_left c.next.result c.args.beside.later.items c.next.ensures.coming (blobs_of old)
          c.args.beside.serves c.requires.kept;
    }))
