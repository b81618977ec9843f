use Rattle.nbd_reader.proofs.TakenBytes.{IsSkipping}
use Rattle.nbd_reader.proofs.taking.skip.Given as goal

abbrev pub invariant-loop-rest : goal.invariant-loop-rest
invariant-loop-rest g l =
    IsSkipping g.S.Source.tells (g.S.Source.left l.fn.source) (g.S.Source.left l.source) l.fn.count l.rest
    (g.S.Source.faults l.fn.source) (g.S.Source.faults l.source)

abbrev pub decreases-loop-rest : goal.decreases-loop-rest
decreases-loop-rest g l = l.rest
