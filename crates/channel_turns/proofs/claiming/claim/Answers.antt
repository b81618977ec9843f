use Rattle.std.proofs.Common.{◌<◌, length, sym, ◌∙◌, ap, arith}
use Rattle.store_model.specs.Rows.{Claiming, Idle, Row}
use Rattle.running_store.specs.Running.{view_of}
use Rattle.channel_turns.proofs.ClaimAsked.{claim_refused, claims_now, found_filled, slot_fits}
use Rattle.running_store.proofs.Rowing.{row_read}
use Rattle.channel_turns.proofs.WriteMeant.{found_there, frozen_so, refused_so, seen_write, some_meant}
use Rattle.channel_turns.proofs.claiming.claim.Goals as goal

pub returns-in-Some-clause-filled : goal.returns-in-Some-clause-filled
returns-in-Some-clause-filled g c said =
    let d = g.D.PageDisk in
    let p = view_of c.args.running.now in
    let w = seen_write p c.args.channel Claiming c.requires.waits c.deref.ensures.value c.first_of.ensures
    c.in-Write.is in
    let low : c.args.channel < length p.rows = omega (arith, c.requires.channel, c.requires.order.seventeen) in
    found_filled d p c.args.channel c.requires.running c.requires.runs c.requires.order.resolves w c.find-head.result
    c.find-head.ensures.meant (sym c.is_frozen.ensures ∙ c.if-is_frozen.false)
    c.in-Some.field-0 (sym c.place_in.ensures ∙ c.in-Some.is) low c.go_to.new.self
    (c.go_to.ensures ∙ ap (λ (r : Row). record r { stage = Idle })
    (row_read p.rows c.args.channel c.index_mut.result.now low c.index_mut.ensures.value))

pub returns-in-Some-refusal_of_write-clause-logged : goal.returns-in-Some-refusal_of_write-clause-logged
returns-in-Some-refusal_of_write-clause-logged g c said =
    let d = g.D.PageDisk in
    let p = view_of c.args.running.now in
    let w = seen_write p c.args.channel Claiming c.requires.waits c.deref.ensures.value c.first_of.ensures
    c.in-Write.is in
    let none = sym c.place_in.ensures ∙ c.in_default-place_in.is in
    let low : c.args.channel < length p.rows = omega (arith, c.requires.channel, c.requires.order.seventeen) in
    claim_refused d p c.args.channel c.requires.running c.requires.runs c.requires.order.resolves w c.find-head.result
    c.find-head.ensures.meant (sym c.is_frozen.ensures ∙ c.if-is_frozen.false)
    none c.in-Some-refusal_of_write.reply c.in-Some-refusal_of_write.ensures.caused
    (c.in-Some-refusal_of_write.ensures.first c.in-Write.volume c.in-Write.word c.find-head.ensures.meant) low
    (view_of c.log_here.new.running) c.log_here.ensures.logged

pub unreachable-requires-in_default-head : goal.unreachable-requires-in_default-head
unreachable-requires-in_default-head g c =
    let d = g.D.PageDisk in
    let p = view_of c.args.running.now in
    let w = seen_write p c.args.channel Claiming c.requires.waits c.deref.ensures.value c.first_of.ensures
    c.in-Write.is in
    let asked = refused_so d p c.args.channel Claiming c.requires.running c.requires.runs c.requires.order.resolves w
    c.find-head.result c.find-head.ensures.meant _
    (c.refusal_of_write.ensures.first c.in-Write.volume c.in-Write.word c.find-head.ensures.meant)
    ∙ c.in_default-refusal_of_write.is in
    some_meant d p c.args.channel Claiming c.requires.running c.requires.runs c.requires.order.resolves w
    c.find-head.result
    c.find-head.ensures.meant asked c.in_default-head.is

pub slot_of-slot-requires-clause-low : goal.slot_of-slot-requires-clause-low
slot_of-slot-requires-clause-low g c =
    let d = g.D.PageDisk in
    let p = view_of c.args.running.now in
    let w = seen_write p c.args.channel Claiming c.requires.waits c.deref.ensures.value c.first_of.ensures
    c.in-Write.is in
    let none = sym c.place_in.ensures ∙ c.in_default-place_in.is in
    slot_fits d p c.args.channel c.requires.running c.requires.runs c.requires.order.resolves w c.find-head.result
    c.find-head.ensures.meant (sym c.is_frozen.ensures ∙ c.if-is_frozen.false)
    none c.refusal_of_write.result
    (c.refusal_of_write.ensures.first c.in-Write.volume c.in-Write.word c.find-head.ensures.meant)
    c.in_default-refusal_of_write.is c.in-Some-head.head c.in-Some-head.is
    (found_there p.metas p.super c.in-Write.volume c.find-head.result c.find-head.ensures.some)

pub claim_least-requires-clause-claims : goal.claim_least-requires-clause-claims
claim_least-requires-clause-claims g c =
    let d = g.D.PageDisk in
    let p = view_of c.args.running.now in
    let w = seen_write p c.args.channel Claiming c.requires.waits c.deref.ensures.value c.first_of.ensures
    c.in-Write.is in
    let none = sym c.place_in.ensures ∙ c.in_default-place_in.is in
    claims_now d p c.args.channel c.requires.running c.requires.runs c.requires.order.resolves w c.find-head.result
    c.find-head.ensures.meant (sym c.is_frozen.ensures ∙ c.if-is_frozen.false)
    none c.refusal_of_write.result
    (c.refusal_of_write.ensures.first c.in-Write.volume c.in-Write.word c.find-head.ensures.meant)
    c.in_default-refusal_of_write.is c.in-Some-head.head c.in-Some-head.is
    (found_there p.metas p.super c.in-Write.volume c.find-head.result c.find-head.ensures.some) c.slot_of-slot.result
    c.slot_of-slot.ensures

pub returns-then-is_frozen-clause-frozen : goal.returns-then-is_frozen-clause-frozen
returns-then-is_frozen-clause-frozen g c said =
    let d = g.D.PageDisk in
    let p = view_of c.args.running.now in
    let w = seen_write p c.args.channel Claiming c.requires.waits c.deref.ensures.value c.first_of.ensures
    c.in-Write.is in
    frozen_so d p c.args.channel Claiming c.requires.running c.requires.runs c.requires.order.resolves w
    c.find-head.result c.find-head.ensures.meant (sym c.is_frozen.ensures ∙ c.if-is_frozen.true)
