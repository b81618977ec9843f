use Rattle.std.proofs.Common.{arith}
use Rattle.nbd_reader.proofs.TakenBytes.{filled}
use Rattle.nbd_reader.proofs.taking.fill.Goals as goal

pub loop-at-preserved : goal.loop-at-preserved
loop-at-preserved g c =
    filled g.S.Source.tells _ (g.S.Source.left c.loop-at.source) (g.S.Source.left c.read.new.self) c.loop-at.into
    c.read.new.into c.loop-at.at _ _ (g.S.Source.faults c.loop-at.source) (g.S.Source.faults c.read.new.self)
    c.in_ok-count.count c.loop-at.invariant (omega arith) (omega arith) (omega (arith, c.in_ok-count.ensures.within))
    (omega arith) c.in_ok-count.ensures.moved c.in_ok-count.ensures.faults.later
