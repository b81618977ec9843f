use Rattle.std.proofs.Common.{sym, ◌∙◌, arith}
use Rattle.page_disk.proofs.Moments.{started}
use Rattle.running_store.specs.Running.{view_of}
use Rattle.running_store.specs.StoreView.{state_of}
use Rattle.channel_turns.proofs.PagesShown.{heads_fit}
use Rattle.channel_turns.proofs.ReadAsked.{frozen_so, read_inside, read_refused, reads_now, seen_read}
use Rattle.channel_turns.proofs.WriteMeant.{found_there}
use Rattle.channel_turns.proofs.page_reading.read_page.Goals as goal

pub returns-in-Some-clause-logged : goal.returns-in-Some-clause-logged
returns-in-Some-clause-logged g c said =
    let d = g.D.PageDisk in
    let p = view_of c.args.running.now in
    let w = seen_read p c.args.channel c.requires.waits c.deref.ensures.value c.first_of.ensures c.in-Read.is in
    read_refused d p c.args.channel c.requires.running c.requires.runs c.requires.order.resolves w c.find-head.result
    c.find-head.ensures.meant (sym c.is_frozen.ensures ∙ c.if-is_frozen.false) c.in-Some.reply c.in-Some.ensures.caused
    (c.in-Some.ensures.first c.in-Read.volume c.find-head.ensures.meant)
    (omega (arith, c.requires.channel, c.requires.order.seventeen)) (view_of c.log_here.new.running)
    c.log_here.ensures.logged
    (λ tells. started d p.disk (d.images p.disk) ((g.met.D.PageDisk.telling tells).since_now p.disk))

pub get_page-requires-clause-reads : goal.get_page-requires-clause-reads
get_page-requires-clause-reads g c =
    let d = g.D.PageDisk in
    let p = view_of c.args.running.now in
    let w = seen_read p c.args.channel c.requires.waits c.deref.ensures.value c.first_of.ensures c.in-Read.is in
    reads_now d p c.args.channel c.requires.running c.requires.runs c.requires.order.resolves w c.find-head.result
    c.find-head.ensures.meant (sym c.is_frozen.ensures ∙ c.if-is_frozen.false)
    c.refusal_of_read.result
    (c.refusal_of_read.ensures.first c.in-Read.volume c.find-head.ensures.meant) c.in_default-refusal_of_read.is
    (found_there p.metas p.super c.in-Read.volume c.find-head.result c.find-head.ensures.some)
    c.place_for-place.result
    (c.place_for-place.ensures (heads_fit (state_of d p) c.requires.running c.requires.runs p.metas
    c.requires.order.resolves.resolves))

pub get_page-requires-clause-inside : goal.get_page-requires-clause-inside
get_page-requires-clause-inside g c =
    let d = g.D.PageDisk in
    let p = view_of c.args.running.now in
    let w = seen_read p c.args.channel c.requires.waits c.deref.ensures.value c.first_of.ensures c.in-Read.is in
    read_inside d p c.args.channel c.requires.running c.requires.runs c.requires.order.resolves w c.find-head.result
    c.find-head.ensures.meant (sym c.is_frozen.ensures ∙ c.if-is_frozen.false)
    c.refusal_of_read.result
    (c.refusal_of_read.ensures.first c.in-Read.volume c.find-head.ensures.meant) c.in_default-refusal_of_read.is
    (d.pages p.disk) c.requires.order.device c.place_for-place.result
    (c.place_for-place.ensures (heads_fit (state_of d p) c.requires.running c.requires.runs p.metas
    c.requires.order.resolves.resolves))

pub returns-then-is_frozen-clause-frozen : goal.returns-then-is_frozen-clause-frozen
returns-then-is_frozen-clause-frozen g c said =
    let d = g.D.PageDisk in
    let p = view_of c.args.running.now in
    let w = seen_read p c.args.channel c.requires.waits c.deref.ensures.value c.first_of.ensures c.in-Read.is in
    frozen_so d p c.args.channel c.requires.running c.requires.runs c.requires.order.resolves w c.find-head.result
    c.find-head.ensures.meant (sym c.is_frozen.ensures ∙ c.if-is_frozen.true)
