use Rattle.streams.proofs.Offering.{taken}
use Rattle.streams.proofs.printing.offer.Goals as goal

pub loop-rest-preserved : goal.loop-rest-preserved
loop-rest-preserved g c =
    taken _ _ c.loop-rest.rest.now _ _ _ _ _ _ c.in_ok-count.count c.loop-rest.invariant c.in_ok-count.ensures.within
    c.in_ok-count.ensures.written c.in_ok-count.ensures.faults.later
