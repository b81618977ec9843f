use Rattle.running_store.specs.Running.{view_of, with_opening}
use Rattle.store_core.proofs.FirstCommand.{decided_so}
use Rattle.store_core.proofs.JobStays.{by_settle, LeavesJob}
use Rattle.store_core.proofs.Posting.{turned_or_not}
use Rattle.store_core.proofs.plant.Plant.settle.Goals as goal

pub settle_or_wait-requires-clause-decided : goal.settle_or_wait-requires-clause-decided
settle_or_wait-requires-clause-decided g c outcome is =
    decided_so g.D.PageDisk
    (with_opening c.self.inside.running c.self.inside.opening.value c.self.inside.right.value.name)
    c.self.invariant.0 c.args.channel outcome is c.self.invariant.1.seventeen

pub invariant_of-self : goal.invariant_of-self
invariant_of-self g c =
    let p = with_opening c.self.inside.running c.self.inside.opening.value c.self.inside.right.value.name in
    let q = view_of c.settle_or_wait.new.running in
    let e = c.settle_or_wait.ensures in (
      turned_or_not g.D.PageDisk p q LeavesJob c.self.invariant.0
          (λ k made. c.goes_on.ensures p q k c.self.invariant.0 made)
          (by_settle g.D.PageDisk p.at q c.settle_or_wait.result (λ waits. (e.waiting waits).0) e.settled),
      e.order,
    )
