use Rattle.std.proofs.Common.{◌∙◌, sym, subst}
use Rattle.volume_model.specs.declared.reply.Reply.TheVariants as r
use Rattle.store_model.specs.Rows.{Idle}
use Rattle.running_store.specs.GivingBack.{HasWork, IsGivenUp}
use Rattle.running_store.specs.Running.{view_of}
use Rattle.running_store.specs.StoreView.{StoreView}
use Rattle.running_store.proofs.PlainFacts.{on_err, on_ok}
use Rattle.running_store.proofs.WorkLogged.{has_work}
use Rattle.channel_turns.proofs.Sent.{send_failed, sent}
use Rattle.channel_turns.proofs.Thawed.{thawed}
use Rattle.channel_turns.proofs.sending.send.Goals as goal

pub returns-then-is_err-clause-logged : goal.returns-then-is_err-clause-logged
returns-then-is_err-clause-logged g c said =
    let d = g.D.PageDisk in
    let old = view_of c.args.running.now in
    let q = view_of c.give_up.new.running in
    send_failed d old c.args.row c.requires.order.seventeen c.requires.fill c.requires.runs c.requires.holds
    c.flush_once.new.disk c.flush_once.ensures.any_moment c.flush_once.ensures.pages q
    (thawed d old c.requires.running.facts.guarded)
    (on_err c.flush_once.result _ (sym c.is_err.ensures.value ∙ c.if-is_err.true) c.flush_once.ensures.fails)
    (subst (λ (v : StoreView g.row.D.Denot). IsGivenUp v q c.args.row Idle r.Fault (d.clock q.disk))
    c.stop_here.ensures.stopped c.give_up.ensures.logged)

pub returns-clause-sent : goal.returns-clause-sent
returns-clause-sent g c msg said =
    let d = g.D.PageDisk in
    let old = view_of c.args.running.now in
    let done = sym c.is_err.ensures.value ∙ c.if-is_err.false in
    sent d old c.args.row c.requires.order.seventeen c.requires.fill c.requires.runs c.requires.holds
    c.flush_once.new.disk c.flush_once.ensures.any_moment c.flush_once.ensures.pages (view_of c.post_row.new.running)
    (on_ok c.flush_once.result _ done c.flush_once.ensures.flushed)
    (λ tells. on_ok c.flush_once.result _ done (c.flush_once.ensures.durable tells)) c.post_row.ensures.posted

pub give_up-requires-clause-works : goal.give_up-requires-clause-works
give_up-requires-clause-works g c =
    subst (λ (v : StoreView g.row.D.Denot). HasWork v.filling v.rows c.args.row) (sym c.stop_here.ensures.stopped)
    (has_work g.D.PageDisk (view_of c.args.running.now) c.requires.order.seventeen c.requires.fill c.args.row
    c.requires.holds.works)
