use Rattle.whole_copy.specs.Meant.{pages_shown}
use Rattle.whole_copy.proofs.CopySteps.{Copying}
use Rattle.whole_copy.proofs.copying.copy_volume.Given as goal

-- the pages so far, and no other
abbrev pub invariant-loop-page : goal.invariant-loop-page
invariant-loop-page g l =
    Copying g.D.PageDisk g.E.PageDisk (λ image. pages_shown l.sup l.metas image l.volume.head) l.fn.disk l.disk
    l.fn.target l.target l.page
