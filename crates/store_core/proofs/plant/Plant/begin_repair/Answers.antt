use Rattle.std.proofs.Common.{subst}
use Rattle.job_begins.specs.Repairs.{RepairsOrNot}
use Rattle.running_store.specs.Running.{view_of, with_opening}
use Rattle.running_store.specs.StoreView.{WithOpening}
use Rattle.store_core.proofs.RepairsKept.{repairing_or_not}
use Rattle.store_core.proofs.plant.Plant.begin_repair.Goals as goal

pub invariant_of-self : goal.invariant_of-self
invariant_of-self g c =
    let p = (with_opening c.self.inside.running c.self.inside.opening.value c.self.inside.right.value.name) in
    let q = view_of c.begin_repair.new.running in (
      repairing_or_not g.D.PageDisk p q c.self.invariant.0 c.begin_repair.result
          (λ k made. c.goes_on.ensures p q k c.self.invariant.0 made) c.begin_repair.ensures.case,
      c.begin_repair.ensures.order,
    )

pub returns-clause-case : goal.returns-clause-case
returns-clause-case g c =
    subst (λ (b : WithOpening g.row.D.Denot). RepairsOrNot g.D.PageDisk b.at (view_of c.begin_repair.new.running)
    c.begin_repair.result) c.self.view_is c.begin_repair.ensures.case
