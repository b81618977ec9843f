use Rattle.std.proofs.Common.{◌<◌, length, ◌∙◌, sym, arith, subst}
use Rattle.volume_model.specs.declared.reply.Reply.TheVariants as r
use Rattle.store_model.specs.Rows.{Idle}
use Rattle.running_store.specs.Running.{view_of}
use Rattle.running_store.specs.StoreView.{StoreView}
use Rattle.channel_turns.proofs.Written.{write_failed, written_made}
use Rattle.running_store.proofs.PlainFacts.{on_err, on_ok}
use Rattle.channel_turns.proofs.Thawed.{thawed}
use Rattle.channel_turns.proofs.FirstCommand.{IsLogged}
use Rattle.channel_turns.proofs.page_writing.put_page.Goals as goal

pub returns-then-is_err-clause-case : goal.returns-then-is_err-clause-case
returns-then-is_err-clause-case g c =
    let d = g.D.PageDisk in
    let old = view_of c.args.running.now in
    let q = view_of c.log_here.new.running in
    let low : c.args.channel < length c.args.running.now.rows.items =
    omega (arith, c.requires.channel, c.requires.order.seventeen) in
    write_failed d old c.args.channel c.args.place c.args.content.now c.requires.writes low c.write_one.new.disk
    c.write_one.ensures.any_moment c.write_one.ensures.pages q
    (thawed d old c.requires.running.facts.guarded)
    (on_err c.write_one.result _ (sym c.is_err.ensures.value ∙ c.if-is_err.true) c.write_one.ensures.fails)
    (subst (λ (v : StoreView g.row.D.Denot). IsLogged Idle d v c.args.channel r.Fault q) c.stop_here.ensures.stopped
    c.log_here.ensures.logged)

pub returns-else-is_err-clause-case : goal.returns-else-is_err-clause-case
returns-else-is_err-clause-case g c =
    let d = g.D.PageDisk in
    let old = view_of c.args.running.now in
    let q = view_of c.log_here-else-is_err.new.running in
    let low : c.args.channel < length c.args.running.now.rows.items =
    omega (arith, c.requires.channel, c.requires.order.seventeen) in
    let done = sym c.is_err.ensures.value ∙ c.if-is_err.false in
    written_made d old c.args.channel c.args.place c.args.content.now c.requires.writes low c.write_one.new.disk
    c.write_one.ensures.any_moment c.write_one.ensures.pages q
    (on_ok c.write_one.result _ done c.write_one.ensures.moves)
    c.log_here-else-is_err.ensures.logged
