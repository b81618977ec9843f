use Rattle.std.proofs.Common.{◌<◌, length, ◌∙◌, ap, sym, subst, arith}
use Rattle.volume_model.specs.declared.reply.Reply.TheVariants as r
use Rattle.store_model.specs.Rows.{Idle, Row, Stage}
use Rattle.running_store.specs.GivingBack.{HasWork, IsGivenUp}
use Rattle.running_store.specs.Running.{view_of}
use Rattle.running_store.specs.Stages.{stage_seen}
use Rattle.running_store.specs.StoreView.{device_of, rows_of, StoreView}
use Rattle.running_store.proofs.PlainFacts.{on_err, on_ok, zeros}
use Rattle.channel_turns.proofs.PagesCopied.{copy_failed, copy_made, copy_not_read}
use Rattle.channel_turns.proofs.ReadAsked.{failed_so, read_so}
use Rattle.running_store.proofs.Rowing.{row_read}
use Rattle.running_store.proofs.WorkLogged.{has_work}
use Rattle.channel_turns.proofs.Thawed.{thawed}
use Rattle.channel_turns.proofs.copying.copy_to.Goals as goal

pub read_at-requires-clause-zeros : goal.read_at-requires-clause-zeros
read_at-requires-clause-zeros g c = zeros

pub returns-then-is_err-clause-logged : goal.returns-then-is_err-clause-logged
returns-then-is_err-clause-logged g c said =
    let d = g.D.PageDisk in
    let old = view_of c.args.running.now in
    copy_not_read d old c.args.row c.args.from c.args.to c.args.left c.requires.copies c.requires.fill
    c.requires.order.seventeen c.read_at.new.disk
    c.read_at.ensures.any_moment c.read_at.ensures.pages
    (failed_so (device_of d old.disk) (device_of d c.read_at.new.disk) c.read_at.result
    (sym c.is_err.ensures.value ∙ c.if-is_err.true) c.read_at.ensures.seen)
    (view_of c.give_up.new.running) c.give_up.ensures.logged

pub returns-clause-copied : goal.returns-clause-copied
returns-clause-copied g c count said =
    let d = g.D.PageDisk in
    let old = view_of c.args.running.now in
    let low : c.args.row < length old.rows = omega (arith, c.requires.row, c.requires.order.seventeen) in
    let done = sym c.is_err.ensures.value ∙ c.if-is_err.false in
    let wrote = sym c.is_err-2.ensures.value ∙ c.if-is_err-2.false in
    copy_made d old c.args.row c.args.from c.args.to c.args.left c.requires.copies c.requires.fill
    c.requires.order.seventeen (λ tells. g.met.D.PageDisk.telling tells) c.read_at.new.disk
    c.read_at.ensures.any_moment c.read_at.ensures.pages
    (read_so (device_of d old.disk) (device_of d c.read_at.new.disk) c.read_at.result done c.read_at.ensures.seen r.Ok
    (λ e. cc e)) c.read_at.new.into c.write_one.new.disk c.write_one.ensures.any_moment c.write_one.ensures.pages
    (λ tells. on_ok c.read_at.result _ done (c.read_at.ensures.content tells))
    (on_ok c.write_one.result _ wrote c.write_one.ensures.moves) c.go_to.new.self
    (c.go_to.ensures ∙ ap (λ (x : Row). record x { stage = stage_seen c.stage_with.result })
    (row_read old.rows c.args.row c.index_mut.result.now low c.index_mut.ensures.value)
    ∙ ap (λ (s : Stage). record (rows_of old.rows c.args.row) { stage = s }) c.stage_with.ensures)

pub returns-then-is_err-2-clause-logged : goal.returns-then-is_err-2-clause-logged
returns-then-is_err-2-clause-logged g c said =
    let d = g.D.PageDisk in
    let old = view_of c.args.running.now in
    let q = view_of c.give_up-then-is_err-2.new.running in
    let done = sym c.is_err.ensures.value ∙ c.if-is_err.false in
    let failed = sym c.is_err-2.ensures.value ∙ c.if-is_err-2.true in
    copy_failed d old c.args.row c.args.from c.args.to c.args.left c.requires.copies c.requires.fill
    c.requires.order.seventeen (λ tells. g.met.D.PageDisk.telling tells) c.read_at.new.disk
    c.read_at.ensures.any_moment c.read_at.ensures.pages
    (read_so (device_of d old.disk) (device_of d c.read_at.new.disk) c.read_at.result done c.read_at.ensures.seen r.Ok
    (λ e. cc e)) c.read_at.new.into c.write_one.new.disk c.write_one.ensures.any_moment c.write_one.ensures.pages
    (thawed d old c.requires.running.facts.guarded)
    (on_err c.write_one.result _ failed c.write_one.ensures.fails) q
    (subst (λ (v : StoreView g.row.D.Denot). IsGivenUp v q c.args.row Idle r.Fault (d.clock q.disk))
    c.stop_here.ensures.stopped c.give_up-then-is_err-2.ensures.logged)

pub give_up-requires-clause-works : goal.give_up-requires-clause-works
give_up-requires-clause-works g c =
    has_work g.D.PageDisk (view_of c.args.running.now) c.requires.order.seventeen c.requires.fill c.args.row
    c.requires.copies.holds.works

pub give_up-requires-then-is_err-2-clause-works : goal.give_up-requires-then-is_err-2-clause-works
give_up-requires-then-is_err-2-clause-works g c =
    subst (λ (v : StoreView g.row.D.Denot). HasWork v.filling v.rows c.args.row) (sym c.stop_here.ensures.stopped)
    (has_work g.D.PageDisk (view_of c.args.running.now) c.requires.order.seventeen c.requires.fill c.args.row
    c.requires.copies.holds.works)
