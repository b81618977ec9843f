use Rattle.std.proofs.Common.{◌<◌, length, ◌∙◌, sym, arith, subst}
use Rattle.volume_model.specs.declared.reply.Reply.TheVariants as r
use Rattle.store_model.specs.Rows.{Idle}
use Rattle.running_store.specs.Running.{view_of}
use Rattle.running_store.specs.StoreView.{StoreView}
use Rattle.channel_turns.proofs.Flushed.{flush_failed, flush_made}
use Rattle.running_store.proofs.PlainFacts.{on_err, on_ok}
use Rattle.channel_turns.proofs.Thawed.{thawed}
use Rattle.channel_turns.proofs.FirstCommand.{IsLogged}
use Rattle.channel_turns.proofs.flushing.flush.Goals as goal

pub returns-then-is_err-clause-case : goal.returns-then-is_err-clause-case
returns-then-is_err-clause-case g c =
    let d = g.D.PageDisk in
    let old = view_of c.args.running.now in
    let q = view_of c.log_here.new.running in
    let low : c.args.channel < length c.args.running.now.rows.items =
    omega (arith, c.requires.channel, c.requires.order.seventeen) in
    flush_failed d old c.args.channel low c.requires.runs c.requires.waits c.flush_once.new.disk
    c.flush_once.ensures.any_moment c.flush_once.ensures.pages q
    (thawed d old c.requires.running.facts.guarded)
    (on_err c.flush_once.result _ (sym c.is_err.ensures.value ∙ c.if-is_err.true) c.flush_once.ensures.fails)
    (subst (λ (v : StoreView g.row.D.Denot). IsLogged Idle d v c.args.channel r.Fault q) c.stop_here.ensures.stopped
    c.log_here.ensures.logged)

pub returns-else-is_err-clause-case : goal.returns-else-is_err-clause-case
returns-else-is_err-clause-case g c =
    let d = g.D.PageDisk in
    let old = view_of c.args.running.now in
    let q = view_of c.log_here-else-is_err.new.running in
    let low : c.args.channel < length c.args.running.now.rows.items =
    omega (arith, c.requires.channel, c.requires.order.seventeen) in
    let done = sym c.is_err.ensures.value ∙ c.if-is_err.false in
    flush_made d old c.args.channel low c.requires.runs c.requires.waits c.flush_once.new.disk
    c.flush_once.ensures.any_moment c.flush_once.ensures.pages q
    (on_ok c.flush_once.result _ done c.flush_once.ensures.flushed)
    (λ tells. on_ok c.flush_once.result _ done (c.flush_once.ensures.durable tells))
    c.log_here-else-is_err.ensures.logged
