use Rattle.std.proofs.Common.{sym, ◌∙◌, ap, refl, subst, arith}
use Rattle.std.specs.Prelude.{false, slice_set}
use Rattle.store_model.specs.Maps.{Metas}
use Rattle.running_store.specs.Blobs.{blobs_behind, blobs_of}
use Rattle.running_store.specs.Jobs.{erasure_of, phases_in, removing_for}
use Rattle.running_store.specs.Running.{view_of, AreHeadPlaces, InOrder}
use Rattle.running_store.specs.Stages.{stage_seen}
use Rattle.running_store.specs.StoreView.{base_of}
use Rattle.running_store.specs.declared.replacements.Change.TheVariants as change
use Rattle.running_store.specs.declared.running.Running.{Running}
use Rattle.running_store.proofs.BaseBehind.{base_behind}
use Rattle.running_store.proofs.OrderKept.{order_kept, room_still}
use Rattle.running_store.proofs.PlainFacts.{on_err, on_ok, zeros}
use Rattle.running_store.proofs.Without.{heads_gone}
use Rattle.metadata_turns.specs.Telling.{job_gone_on}
use Rattle.metadata_turns.proofs.Behind.{left_seen}
use Rattle.metadata_turns.proofs.AtHead.{fails_head, moves_head, row_told, touches_head}
use Rattle.metadata_turns.proofs.HeadFailed.{head_failed}
use Rattle.metadata_turns.proofs.HeadMade.{head_made}
use Rattle.metadata_turns.proofs.HeadReplaced.{comes_alone, kept_left}
use Rattle.metadata_turns.proofs.JobFailed.{waiting_row}
use Rattle.metadata_turns.proofs.JobRemoved.{at_head, freed_in_use, head_below, once, page_used, unfrozen}
use Rattle.metadata_turns.proofs.JobRemoved.{zeros_planned}
use Rattle.metadata_turns.proofs.head_turns.remove_head.Goals as goal

pub replace-requires : goal.replace-requires
replace-requires g c =
    let at = c.page_at-page.ensures in
    let below = head_below g.D.PageDisk (view_of c.args.running.now) c.args.beside.serves c.args.erasure
    c.args.beside.old (phases_in c.args.beside.later.items) c.requires.at_work in
    let inside = c.requires.order.inside in
    omega (arith, at, below, inside)

pub fail_job-requires-clause-row : goal.fail_job-requires-clause-row
fail_job-requires-clause-row g c =
    waiting_row g.D.PageDisk (view_of c.args.running.now) (removing_for c.args.beside.serves c.args.erasure
    c.args.beside.old (phases_in c.args.beside.later.items)) c.requires.at_work c.requires.order.seventeen
    c.requires.waits

pub returns-then-is_err-clause-case : goal.returns-then-is_err-clause-case
returns-then-is_err-clause-case g c =
    let d = g.D.PageDisk in
    let p = view_of c.args.running.now in
    let disk = c.replace.new.disk in
    let old = c.args.beside.old in
    let more = phases_in c.args.beside.later.items in
    let serves = c.args.beside.serves in
    let job = removing_for serves c.args.erasure old more in
    let blank = zeros ∙ sym (zeros_planned d p serves c.args.erasure old more c.requires.at_work) in
    head_failed d p (change.Erases c.args.erasure) old more job disk
    (touches_head d p (erasure_of c.args.erasure old) disk c.page_at-page.ensures blank c.replace.ensures.any_moment
    c.replace.ensures.pages) serves (at_head d p serves c.args.erasure old more c.requires.at_work c.requires.removed)
    c.requires.order.seventeen
    (fails_head d p (erasure_of c.args.erasure old) disk c.page_at-page.ensures blank
    (on_err c.replace.result _ (sym c.is_err.ensures.value ∙ c.if-is_err.true) c.replace.ensures.fails))
    (view_of c.fail_job.new.running)
    c.requires.waits c.fail_job.ensures.failed

pub forget-requires-clause-places : goal.forget-requires-clause-places
forget-requires-clause-places g c = c.requires.kept.0.places

pub forget-requires-clause-page : goal.forget-requires-clause-page
forget-requires-clause-page g c =
    page_used g.D.PageDisk (view_of c.args.running.now) c.args.beside.serves c.args.erasure c.args.beside.old
    (phases_in c.args.beside.later.items) c.requires.at_work

pub forget-requires-clause-head : goal.forget-requires-clause-head
forget-requires-clause-head g c =
    let below = head_below g.D.PageDisk (view_of c.args.running.now) c.args.beside.serves c.args.erasure
    c.args.beside.old (phases_in c.args.beside.later.items) c.requires.at_work in
    let count = c.requires.order.heads.count in
    omega (arith, below, count)

pub forget-requires-clause-once : goal.forget-requires-clause-once
forget-requires-clause-once g c = once c.args.beside.serves c.args.erasure c.requires.removed

pub forget-requires-clause-in_use : goal.forget-requires-clause-in_use
forget-requires-clause-in_use g c =
    freed_in_use g.D.PageDisk (view_of c.args.running.now) c.args.beside.serves c.args.erasure c.args.beside.old
    (phases_in c.args.beside.later.items) c.requires.at_work

pub tell-requires-clause-row : goal.tell-requires-clause-row
tell-requires-clause-row g c =
    let d = g.D.PageDisk in
    let p = view_of c.args.running.now in
    let old = c.args.beside.old in
    let more = phases_in c.args.beside.later.items in
    let serves = c.args.beside.serves in
    row_told d p (change.Erases c.args.erasure) old more (removing_for serves c.args.erasure old more) serves
    (at_head d p serves c.args.erasure old more c.requires.at_work c.requires.removed) c.requires.order.seventeen
    (ap (λ (r : Running g.row.D.Denot). (view_of r).rows) c.go_on.ensures
    ∙ ap (λ (r : Running g.row.D.Denot). (view_of r).rows) c.forget.ensures) c.reply-reply.ensures

pub tell-requires-clause-order : goal.tell-requires-clause-order
tell-requires-clause-order g c =
    let old = c.args.running.now in
    let order = c.requires.order in
    let e = c.args.erasure in
    let serves = c.args.beside.serves in
    let later = c.args.beside.later.items in
    let below = head_below g.D.PageDisk (view_of old) serves e c.args.beside.old (phases_in later)
    c.requires.at_work in
    let behind = blobs_behind (blobs_of old) (change.Erases e) in
    subst (InOrder g.D.PageDisk) (sym c.go_on.ensures)
    (subst (λ (r : Running g.row.D.Denot). InOrder g.D.PageDisk (job_gone_on r serves c.behind.result))
    (sym c.forget.ensures) (order_kept g.D.PageDisk old order c.replace.ensures.pages refl
    (room_still g.D.PageDisk old order) order.no_page refl (record {
      headed = c.behind.ensures.headed;
      heads = subst (λ (m : Metas). AreHeadPlaces old.sup.md_len m (slice_set old.heads e.head false))
          (sym (base_behind (blobs_of old) (change.Erases e) c.requires.kept.0))
          (heads_gone old.sup.md_len (base_of old.metas old.marked) e.head old.heads below order.heads);
      resolves = c.requires.kept.0.resolved;
      kept = kept_left c.behind.result later c.behind.ensures.coming behind serves c.requires.kept.1;
    })))

pub returns-clause-case : goal.returns-clause-case
returns-clause-case g c =
    let d = g.D.PageDisk in
    let p = view_of c.args.running.now in
    let disk = c.replace.new.disk in
    let later = c.args.beside.later.items in
    let old = c.args.beside.old in
    let more = phases_in later in
    let serves = c.args.beside.serves in
    let e = c.args.erasure in
    let w = c.requires.at_work in
    let blank = zeros ∙ sym (zeros_planned d p serves e old more w) in
    head_made d p (change.Erases e) old more (removing_for serves e old more) disk
    (touches_head d p (erasure_of e old) disk c.page_at-page.ensures blank c.replace.ensures.any_moment
    c.replace.ensures.pages)
    c.requires.kept.0 (unfrozen d p serves e old more w c.requires.removed) (view_of c.tell.new.running) serves
    (at_head d p serves e old more w c.requires.removed) (record {
      left = _;
      left_is = c.behind.ensures.seen;
      alone = comes_alone serves later c.requires.follows;
      next = stage_seen c.stage_behind-next.result;
      next_is = c.stage_behind-next.ensures;
      after = _;
      after_is = ap view_of c.go_on.ensures
          ∙ ap (λ (r : Running g.row.D.Denot). view_of (job_gone_on r serves c.behind.result)) c.forget.ensures
          ∙ left_seen p (change.Erases e) serves disk c.behind.result;
      reply = c.reply-reply.result;
      reply_is = c.reply-reply.ensures;
      told = c.tell.ensures.told;
      moves = moves_head d p (erasure_of e old) disk c.page_at-page.ensures blank
          (on_ok c.replace.result _ (sym c.is_err.ensures.value ∙ c.if-is_err.false) c.replace.ensures.moves);
      durable = λ tells. on_ok c.replace.result _ (sym c.is_err.ensures.value ∙ c.if-is_err.false)
          (c.replace.ensures.durable tells);
    })
