use Rattle.std.proofs.Common.{◌+◌}
use Rattle.inflate_delete.proofs.SlotsOver.{slots_counted, slots_more}
use Rattle.inflate_delete.proofs.handing.slots_over.Goals as goal

pub loop-at-preserved : goal.loop-at-preserved
loop-at-preserved c =
    let m = c.args.meta.now in
    let other = c.args.other.now in
    let more = slots_more m other c.loop-at.at c.loop-at.slots c.loop-at.invariant.0 c.cluster_over.result
    c.push_slot.new.map c.cluster_over.ensures.slot c.in_ok-push_slot.ensures in
    (more, slots_counted m other (c.loop-at.at + 1) c.push_slot.new.map more)
