use Rattle.std.proofs.Common.{◌<◌, length, sym, ◌∙◌, ap, subst, arith}
use Rattle.store_model.specs.Rows.{Claiming, Idle, Row}
use Rattle.channel_turns.specs.ChannelTurns.{WritesNow}
use Rattle.running_store.specs.Running.{view_of}
use Rattle.running_store.proofs.Rowing.{row_read}
use Rattle.channel_turns.proofs.WriteAsked.{found_empty, place_low, refused, writes_now}
use Rattle.channel_turns.proofs.WriteMeant.{found_there, frozen_so, seen_write}
use Rattle.channel_turns.proofs.page_writing.write_page.Goals as goal

pub refusal_of_write-requires-clause-there : goal.refusal_of_write-requires-clause-there
refusal_of_write-requires-clause-there g c =
    found_there c.args.running.now.metas c.args.running.now.sup c.in-Write.volume c.find-head.result
    c.find-head.ensures.some

pub returns-in-Some-clause-logged : goal.returns-in-Some-clause-logged
returns-in-Some-clause-logged g c said =
    let p = view_of c.args.running.now in
    let w = seen_write p c.args.channel Idle c.requires.waits c.deref.ensures.value c.first_of.ensures c.in-Write.is in
    refused g.D.PageDisk p c.args.channel c.requires.running c.requires.runs c.requires.order.resolves w
    c.find-head.result
    c.find-head.ensures.meant (sym c.is_frozen.ensures ∙ c.if-is_frozen.false) c.in-Some.reply c.in-Some.ensures.caused
    (c.in-Some.ensures.first c.in-Write.volume c.in-Write.word c.find-head.ensures.meant)
    (omega (arith, c.requires.channel, c.requires.order.seventeen)) (view_of c.log_here.new.running)
    c.log_here.ensures.logged

pub returns-in_default-place_in-clause-empty : goal.returns-in_default-place_in-clause-empty
returns-in_default-place_in-clause-empty g c said =
    let p = view_of c.args.running.now in
    let low : c.args.channel < length p.rows = omega (arith, c.requires.channel, c.requires.order.seventeen) in
    let w = seen_write p c.args.channel Idle c.requires.waits c.deref.ensures.value c.first_of.ensures c.in-Write.is in
    found_empty g.D.PageDisk p c.args.channel c.requires.running c.requires.runs c.requires.order.resolves w
    c.find-head.result
    c.find-head.ensures.meant (sym c.is_frozen.ensures ∙ c.if-is_frozen.false)
    c.refusal_of_write.result
    (c.refusal_of_write.ensures.first c.in-Write.volume c.in-Write.word c.find-head.ensures.meant)
    c.in_default-refusal_of_write.is
    (sym c.place_in.ensures ∙ c.in_default-place_in.is)
    (found_there p.metas p.super c.in-Write.volume c.find-head.result c.find-head.ensures.some)
    low c.go_to.new.self
    (c.go_to.ensures ∙ ap (λ (r : Row). record r { stage = Claiming })
    (row_read p.rows c.args.channel c.index_mut.result.now low c.index_mut.ensures.value))

pub put_page-requires-clause-writes : goal.put_page-requires-clause-writes
put_page-requires-clause-writes g c =
    let p = view_of c.args.running.now in
    let w = seen_write p c.args.channel Idle c.requires.waits c.deref.ensures.value c.first_of.ensures c.in-Write.is in
    subst (λ content. WritesNow g.D.PageDisk p c.args.channel c.in-Some-place_in.place content)
    (sym c.page_of-content.ensures)
    (writes_now g.D.PageDisk p c.args.channel c.requires.running c.requires.runs c.requires.order.resolves w
    c.find-head.result
    c.find-head.ensures.meant (sym c.is_frozen.ensures ∙ c.if-is_frozen.false)
    c.refusal_of_write.result
    (c.refusal_of_write.ensures.first c.in-Write.volume c.in-Write.word c.find-head.ensures.meant)
    c.in_default-refusal_of_write.is
    c.in-Some-place_in.place (sym c.place_in.ensures ∙ c.in-Some-place_in.is))

pub put_page-requires-clause-inside : goal.put_page-requires-clause-inside
put_page-requires-clause-inside g c =
    let p = view_of c.args.running.now in
    let w = seen_write p c.args.channel Idle c.requires.waits c.deref.ensures.value c.first_of.ensures c.in-Write.is in
    let low = place_low g.D.PageDisk p c.args.channel c.requires.running c.requires.runs c.requires.order.resolves w
    c.find-head.result
    c.find-head.ensures.meant (sym c.is_frozen.ensures ∙ c.if-is_frozen.false)
    c.refusal_of_write.result
    (c.refusal_of_write.ensures.first c.in-Write.volume c.in-Write.word c.find-head.ensures.meant)
    c.in_default-refusal_of_write.is
    c.in-Some-place_in.place (sym c.place_in.ensures ∙ c.in-Some-place_in.is) in
    let device = c.requires.order.device in
    omega (arith, low, device)

pub returns-then-is_frozen-clause-frozen : goal.returns-then-is_frozen-clause-frozen
returns-then-is_frozen-clause-frozen g c said =
    let d = g.D.PageDisk in
    let p = view_of c.args.running.now in
    let w = seen_write p c.args.channel Idle c.requires.waits c.deref.ensures.value c.first_of.ensures c.in-Write.is in
    frozen_so d p c.args.channel Idle c.requires.running c.requires.runs c.requires.order.resolves w
    c.find-head.result c.find-head.ensures.meant (sym c.is_frozen.ensures ∙ c.if-is_frozen.true)
