use Rattle.std.proofs.Common.{◌+◌, arith}
use Rattle.inflate_delete.proofs.Cloned.{clones_ended, clones_full, clones_more, clones_there}
use Rattle.inflate_delete.proofs.clones.clones_of.Goals as goal

pub returns-then-next-clause-clones : goal.returns-then-next-clause-clones
returns-then-next-clause-clones c =
    let more = clones_more c.args.metas.now c.args.head c.loop-next.from c.in-Some.next c.loop-next.clones
    c.add_clone.new.clones c.in-Some.ensures.some c.loop-next.invariant.0 c.in_ok-add_clone.ensures.added in
    clones_full c.args.metas.now c.args.head c.in-Some.next c.add_clone.new.clones more
    (let last = c.if-next.true in omega arith)

pub returns-then-next-clause-there : goal.returns-then-next-clause-there
returns-then-next-clause-there c =
    clones_there c.args.metas.now c.args.head (c.in-Some.next + 1) c.add_clone.new.clones
    (clones_more c.args.metas.now c.args.head c.loop-next.from c.in-Some.next c.loop-next.clones
    c.add_clone.new.clones c.in-Some.ensures.some c.loop-next.invariant.0 c.in_ok-add_clone.ensures.added)

pub loop-next-preserved : goal.loop-next-preserved
loop-next-preserved c = (
  clones_more c.args.metas.now c.args.head c.loop-next.from c.in-Some.next c.loop-next.clones
      c.add_clone.new.clones c.in-Some.ensures.some c.loop-next.invariant.0 c.in_ok-add_clone.ensures.added,
  c.in_ok-add_clone.ensures.few,
)

pub returns-clause-clones : goal.returns-clause-clones
returns-clause-clones c = clones_ended c.args.metas.now c.args.head c.loop-next.from c.loop-next.clones
    c.loop-next.invariant.0 c.in_default.ensures.none

pub returns-clause-there : goal.returns-clause-there
returns-clause-there c = clones_there c.args.metas.now c.args.head c.loop-next.from c.loop-next.clones
    c.loop-next.invariant.0
