use Rattle.unclean_load.proofs.Marks.{Marking}
use Rattle.unclean_load.proofs.masks.mark_pages.Given as goal

-- the places so far are added, and none was there before
abbrev pub invariant-loop-page : goal.invariant-loop-page
invariant-loop-page l = Marking l.fn.bits l.page-items l.bits l.page-index
