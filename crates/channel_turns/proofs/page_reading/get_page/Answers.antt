use Rattle.std.proofs.Common.{◌<◌, length, ◌∙◌, sym, arith}
use Rattle.running_store.specs.Running.{view_of}
use Rattle.running_store.specs.StoreView.{device_of}
use Rattle.running_store.proofs.PlainFacts.{on_ok, zeros}
use Rattle.channel_turns.proofs.ReadAsked.{failed_so, read_failed, read_made, read_so}
use Rattle.channel_turns.proofs.page_reading.get_page.Goals as goal

pub read_at-requires-clause-zeros : goal.read_at-requires-clause-zeros
read_at-requires-clause-zeros g c = zeros

pub returns-then-is_err-clause-case : goal.returns-then-is_err-clause-case
returns-then-is_err-clause-case g c =
    let d = g.D.PageDisk in
    let old = view_of c.args.running.now in
    let disk = c.read_at.new.disk in
    let low : c.args.channel < length c.args.running.now.rows.items =
    omega (arith, c.requires.channel, c.requires.order.seventeen) in
    read_failed d old c.args.channel c.args.place c.requires.reads low disk
    c.read_at.ensures.any_moment c.read_at.ensures.pages
    (view_of c.log_here.new.running)
    (failed_so (device_of d old.disk) (device_of d disk) c.read_at.result
    (sym c.is_err.ensures.value ∙ c.if-is_err.true) c.read_at.ensures.seen)
    c.log_here.ensures.logged

pub returns-else-is_err-clause-case : goal.returns-else-is_err-clause-case
returns-else-is_err-clause-case g c =
    let d = g.D.PageDisk in
    let old = view_of c.args.running.now in
    let disk = c.read_at.new.disk in
    let low : c.args.channel < length c.args.running.now.rows.items =
    omega (arith, c.requires.channel, c.requires.order.seventeen) in
    let done = sym c.is_err.ensures.value ∙ c.if-is_err.false in
    let x = c.log_content.ensures.logged in
    read_made d old c.args.channel c.args.place c.requires.reads low disk
    c.read_at.ensures.any_moment c.read_at.ensures.pages
    (view_of c.log_content.new.running) c.read_at.new.into
    (λ tells. on_ok c.read_at.result _ done (c.read_at.ensures.content tells))
    (read_so (device_of d old.disk) (device_of d disk) c.read_at.result done c.read_at.ensures.seen)
    x.0 x.1 x.2
