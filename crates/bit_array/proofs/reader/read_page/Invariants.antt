use Rattle.bit_array.proofs.Masks.{TakesPage}
use Rattle.bit_array.proofs.reader.read_page.Given as goal

abbrev pub invariant-loop-at : goal.invariant-loop-at
invariant-loop-at l = TakesPage l.initial.bits l.bits l.page l.first l.at
