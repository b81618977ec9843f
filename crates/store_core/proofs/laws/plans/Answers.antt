use Rattle.store_core.proofs.Planning.{plan_laws}
use Rattle.store_core.proofs.laws.plans.Goals as goal

pub returns : goal.returns
returns g c = plan_laws g.D.PageDisk
