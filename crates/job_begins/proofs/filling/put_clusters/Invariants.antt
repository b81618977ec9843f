use Rattle.job_begins.proofs.SlotsFilled.{Fills}
use Rattle.job_begins.proofs.filling.put_clusters.Given as goal

abbrev pub invariant-loop-at : goal.invariant-loop-at
invariant-loop-at l = Fills l.fn.new l.slots l.clusters l.at l.new
