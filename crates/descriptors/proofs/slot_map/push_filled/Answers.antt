use Rattle.descriptors.proofs.FilledSlots.{filled_push, few_filled, all_filled}
use Rattle.std.proofs.Common.{arith, rules}
use Rattle.descriptors.proofs.slot_map.push_filled.Goals as goal

pub loop-i-preserved : goal.loop-i-preserved
loop-i-preserved c = filled_push c.args.slots.now.items c.loop-i.slots.items _ c.args.cluster c.loop-i.i
    c.loop-i.invariant (search rules)

pub returns-clause-few : goal.returns-clause-few
returns-clause-few c = omega (
  arith,
  few_filled c.args.slots.now.items c.loop-i.slots.items c.args.cluster c.loop-i.i
      c.loop-i.invariant,
)

pub returns-clause-filled : goal.returns-clause-filled
returns-clause-filled c = λ h. all_filled c.args.slots.now.items c.loop-i.slots.items c.args.cluster c.loop-i.i
    c.requires.some c.loop-i.invariant h
