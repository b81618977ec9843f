use Rattle.std.proofs.Common.{length, ◌-◌}
use Rattle.nbd_reader.proofs.TakenBytes.{IsFilling}
use Rattle.nbd_reader.proofs.taking.fill.Given as goal

abbrev pub invariant-loop-at : goal.invariant-loop-at
invariant-loop-at g l =
    IsFilling g.S.Source.tells (g.S.Source.left l.fn.source) (g.S.Source.left l.source) l.into l.at
    (g.S.Source.faults l.fn.source) (g.S.Source.faults l.source)

abbrev pub decreases-loop-at : goal.decreases-loop-at
decreases-loop-at g l = length l.into - l.at
