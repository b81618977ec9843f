use Rattle.std.proofs.Common.{sym, ap, ◌∙◌, ◌+◌, arith}
use Rattle.blob_meta.proofs.SlotSums.{together_all, together_through}
use Rattle.blob_meta.proofs.slot_count.all_slots.Goals as goal

pub returns-then-head : goal.returns-then-head
returns-then-head c =
    let through = together_through c.args.metas.now c.loop-head.from c.in-Some.head c.from-all.result
    c.in-Some.ensures.some (c.from-all.ensures ∙ c.slots_at.ensures) in
    together_all c.args.metas.now (c.in-Some.head + 1) _
    (ap (λ n. n + c.from-all.result) c.loop-head.invariant.0 ∙ sym through)
    (λ h low high. absurd (let last = c.if-head.true in omega arith))

pub loop-head-preserved : goal.loop-head-preserved
loop-head-preserved c =
    let through = together_through c.args.metas.now c.loop-head.from c.in-Some.head c.from-all.result
    c.in-Some.ensures.some (c.from-all.ensures ∙ c.slots_at.ensures) in (
      ap (λ n. n + c.from-all.result) c.loop-head.invariant.0 ∙ sym through,
      let above = c.in-Some.ensures.some.above in omega arith,
    )

pub returns : goal.returns
returns c = together_all c.args.metas.now c.loop-head.from c.loop-head.all c.loop-head.invariant.0
    (λ h low high. c.in_default.ensures.none h low)
