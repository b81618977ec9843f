use Rattle.page_runs.proofs.Filling.{Filling}
use Rattle.page_runs.proofs.writing.write_pages.Given as goal

-- the pages so far, and no other
abbrev pub invariant-loop-index : goal.invariant-loop-index
invariant-loop-index g l = Filling g.D.PageDisk l.content l.start l.count l.fn.disk l.disk l.index
