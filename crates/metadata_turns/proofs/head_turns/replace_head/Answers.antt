use Rattle.std.proofs.Common.{◌≡◌, ℕ, [], List, length, get_or, drop, sym, ◌∙◌, ap, refl, subst, arith}
use Rattle.std.specs.Prelude.{if◌then◌else◌, is_some, slice_set, true}
use Rattle.page_disk.specs.declared.disk.PageDisk.{Ghosts}
use Rattle.md_chain.specs.declared.plan.PlannedPage.{PlannedPage}
use Rattle.store_model.specs.Maps.{Metas}
use Rattle.store_model.specs.Phases.{page_in, Phase}
use Rattle.running_store.specs.Blobs.{blobs_behind, blobs_of}
use Rattle.running_store.specs.Jobs.{phases_in, replacing_of}
use Rattle.running_store.specs.Running.{view_of, AreHeadPlaces, InOrder}
use Rattle.running_store.specs.Stages.{stage_seen}
use Rattle.running_store.specs.StoreView.{base_of, StoreView}
use Rattle.running_store.specs.declared.job.Serves.{Serves}
use Rattle.running_store.specs.declared.replacements.Change.TheVariants as change
use Rattle.running_store.specs.declared.replacements.Planned.{Planned}
use Rattle.running_store.specs.declared.running.Running.{Running}
use Rattle.running_store.proofs.BaseBehind.{base_behind}
use Rattle.running_store.proofs.Maps.{heads_adopted}
use Rattle.running_store.proofs.OrderKept.{order_kept, room_still}
use Rattle.running_store.proofs.PlainFacts.{got, on_err, on_ok}
use Rattle.metadata_turns.specs.JobTurns.{IsAtWork}
use Rattle.metadata_turns.specs.Telling.{job_gone_on}
use Rattle.metadata_turns.proofs.Behind.{left_seen}
use Rattle.metadata_turns.proofs.AtHead.{fails_head, moves_head, row_told, touches_head}
use Rattle.metadata_turns.proofs.HeadFailed.{head_failed}
use Rattle.metadata_turns.proofs.HeadMade.{head_made}
use Rattle.metadata_turns.proofs.HeadReplaced.{at_head, base_there, comes_alone, freed_in_use, head_below, kept_left}
use Rattle.metadata_turns.proofs.HeadReplaced.{matched, now, planned_is}
use Rattle.metadata_turns.proofs.JobFailed.{waiting_row}
use Rattle.metadata_turns.proofs.FreshWritten.{planned_some}
use Rattle.metadata_turns.proofs.head_turns.replace_head.Goals as goal

-- the head's page of the plan
abbrev first : List PlannedPage → PlannedPage
first plan = get_or plan 0 (record { place = 0; page = [] })

pub bounds-as_slice-0 : goal.bounds-as_slice-0
bounds-as_slice-0 g c =
    let some = planned_some g.D.PageDisk (view_of c.args.running.now) c.args.beside.serves c.args.planned
    c.args.beside.old (length (drop 1 c.args.planned.chain)) (phases_in c.args.beside.later.items)
    c.requires.at_work in
    let same = ap (λ (l : List PlannedPage). length l) c.as_slice.ensures in
    omega (arith, some, same)

pub replace-requires : goal.replace-requires
replace-requires g c =
    let at = c.page_at-page.ensures in
    let below = head_below g.D.PageDisk (view_of c.args.running.now) c.args.beside.serves c.args.planned
    c.args.beside.old (phases_in c.args.beside.later.items) c.requires.at_work in
    let inside = c.requires.order.inside in
    omega (arith, at, below, inside)

pub fail_job-requires-clause-row : goal.fail_job-requires-clause-row
fail_job-requires-clause-row g c =
    waiting_row g.D.PageDisk (view_of c.args.running.now) (now c.args.beside.serves c.args.planned
    c.args.beside.old (phases_in c.args.beside.later.items)) c.requires.at_work c.requires.order.seventeen
    c.requires.waits

-- it is what is planned for the head
first_planned : {D : Type 0} (d : Ghosts D) (p : StoreView D) (serves : Serves) (planned : Planned) (old : List ℕ)
    (more : List Phase) → IsAtWork d p (now serves planned old more) → {plan : List PlannedPage}
    → plan ≡ planned.pages → (first plan).page ≡ page_in planned.pages planned.head
first_planned d p serves planned old more w same =
    ap (λ (l : List PlannedPage). (first l).page) same
    ∙ sym (planned_is d p serves planned old more w (first planned.pages)
    (got planned.pages 0 _ (planned_some d p serves planned old (length (drop 1 planned.chain)) more w)))

pub returns-then-is_err-clause-case : goal.returns-then-is_err-clause-case
returns-then-is_err-clause-case g c =
    let d = g.D.PageDisk in
    let p = view_of c.args.running.now in
    let disk = c.replace.new.disk in
    let old = c.args.beside.old in
    let more = phases_in c.args.beside.later.items in
    let job = now c.args.beside.serves c.args.planned old more in
    let page = first_planned d p c.args.beside.serves c.args.planned old more c.requires.at_work c.as_slice.ensures in
    head_failed d p (change.Writes c.args.planned) old more job disk
    (touches_head d p (replacing_of c.args.planned old) disk c.page_at-page.ensures page c.replace.ensures.any_moment
    c.replace.ensures.pages) c.args.beside.serves
    (at_head d p c.args.beside.serves c.args.planned old more c.requires.at_work c.requires.matched)
    c.requires.order.seventeen
    (fails_head d p (replacing_of c.args.planned old) disk c.page_at-page.ensures page
    (on_err c.replace.result _ (sym c.is_err.ensures.value ∙ c.if-is_err.true) c.replace.ensures.fails))
    (view_of c.fail_job.new.running)
    c.requires.waits c.fail_job.ensures.failed

pub adopt-requires-clause-places : goal.adopt-requires-clause-places
adopt-requires-clause-places g c = c.requires.kept.0.places

pub adopt-requires-clause-once : goal.adopt-requires-clause-once
adopt-requires-clause-once g c = (matched c.args.beside.serves c.args.planned c.requires.matched).once

pub adopt-requires-clause-in_use : goal.adopt-requires-clause-in_use
adopt-requires-clause-in_use g c =
    freed_in_use g.D.PageDisk (view_of c.args.running.now) c.args.beside.serves c.args.planned c.args.beside.old
    (phases_in c.args.beside.later.items) c.requires.at_work

pub adopt-requires-clause-head : goal.adopt-requires-clause-head
adopt-requires-clause-head g c =
    let below = head_below g.D.PageDisk (view_of c.args.running.now) c.args.beside.serves c.args.planned
    c.args.beside.old (phases_in c.args.beside.later.items) c.requires.at_work in
    let count = c.requires.order.heads.count in
    omega (arith, below, count)

pub tell-requires-clause-order : goal.tell-requires-clause-order
tell-requires-clause-order g c =
    let order = c.requires.order in
    let old = c.args.running.now in
    let later = c.args.beside.later.items in
    let serves = c.args.beside.serves in
    let planned = c.args.planned in
    let below = head_below g.D.PageDisk (view_of old) serves planned c.args.beside.old (phases_in later)
    c.requires.at_work in
    let there = base_there g.D.PageDisk (view_of old) serves planned c.args.beside.old (phases_in later)
    c.requires.at_work in
    let behind = blobs_behind (blobs_of old) (change.Writes planned) in
    subst (InOrder g.D.PageDisk) (sym c.go_on.ensures)
    (subst (λ (r : Running g.row.D.Denot). InOrder g.D.PageDisk (job_gone_on r serves c.behind.result))
    (sym c.adopt.ensures) (order_kept g.D.PageDisk old order c.replace.ensures.pages refl
    (room_still g.D.PageDisk old order) order.no_page refl (record {
      headed = c.behind.ensures.headed;
      heads = subst (λ (m : Metas). AreHeadPlaces old.sup.md_len m
          (if is_some planned.effects.rooms.chain then slice_set old.heads planned.head true else old.heads))
          (sym (base_behind (blobs_of old) (change.Writes planned) c.requires.kept.0))
          (heads_adopted (is_some planned.effects.rooms.chain) old.sup.md_len (base_of old.metas old.marked)
          planned.head planned.new old.heads there below order.heads);
      resolves = c.requires.kept.0.resolved;
      kept = kept_left c.behind.result later c.behind.ensures.coming behind serves c.requires.kept.1;
    })))

pub tell-requires-clause-row : goal.tell-requires-clause-row
tell-requires-clause-row g c =
    let d = g.D.PageDisk in
    let p = view_of c.args.running.now in
    let old = c.args.beside.old in
    let more = phases_in c.args.beside.later.items in
    let serves = c.args.beside.serves in
    row_told d p (change.Writes c.args.planned) old more (now serves c.args.planned old more) serves
    (at_head d p serves c.args.planned old more c.requires.at_work c.requires.matched) c.requires.order.seventeen
    (ap (λ (r : Running g.row.D.Denot). (view_of r).rows) c.go_on.ensures
    ∙ ap (λ (r : Running g.row.D.Denot). (view_of r).rows) c.adopt.ensures) c.reply-reply.ensures

pub returns-clause-case : goal.returns-clause-case
returns-clause-case g c =
    let d = g.D.PageDisk in
    let p = view_of c.args.running.now in
    let disk = c.replace.new.disk in
    let later = c.args.beside.later.items in
    let old = c.args.beside.old in
    let more = phases_in later in
    let serves = c.args.beside.serves in
    let page = first_planned d p serves c.args.planned old more c.requires.at_work c.as_slice.ensures in
    head_made d p (change.Writes c.args.planned) old more (now serves c.args.planned old more) disk
    (touches_head d p (replacing_of c.args.planned old) disk c.page_at-page.ensures page c.replace.ensures.any_moment
    c.replace.ensures.pages)
    c.requires.kept.0
    (matched serves c.args.planned c.requires.matched).headed (view_of c.tell.new.running) serves
    (at_head d p serves c.args.planned old more c.requires.at_work c.requires.matched) (record {
      left = _;
      left_is = c.behind.ensures.seen;
      alone = comes_alone serves later c.requires.follows;
      next = stage_seen c.stage_behind-next.result;
      next_is = c.stage_behind-next.ensures;
      after = _;
      after_is = ap view_of c.go_on.ensures
          ∙ ap (λ (r : Running g.row.D.Denot). view_of (job_gone_on r serves c.behind.result)) c.adopt.ensures
          ∙ left_seen p (change.Writes c.args.planned) serves disk c.behind.result;
      reply = c.reply-reply.result;
      reply_is = c.reply-reply.ensures;
      told = c.tell.ensures.told;
      moves = moves_head d p (replacing_of c.args.planned old) disk c.page_at-page.ensures page
          (on_ok c.replace.result _ (sym c.is_err.ensures.value ∙ c.if-is_err.false) c.replace.ensures.moves);
      durable = λ tells. on_ok c.replace.result _ (sym c.is_err.ensures.value ∙ c.if-is_err.false)
          (c.replace.ensures.durable tells);
    })
