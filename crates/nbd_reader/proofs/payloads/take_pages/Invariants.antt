use Rattle.nbd_reader.specs.Reading.{pages_bytes}
use Rattle.nbd_reader.proofs.TakenBytes.{IsHolding}
use Rattle.nbd_reader.proofs.payloads.take_pages.Given as goal

abbrev pub invariant-loop-done : goal.invariant-loop-done
invariant-loop-done g l =
    IsHolding g.S.Source.tells (g.S.Source.left l.fn.source) (g.S.Source.left l.source) (pages_bytes l.pages.items)
    l.done (g.S.Source.faults l.fn.source) (g.S.Source.faults l.source)
