use Rattle.std.proofs.Common.{subst, sym}
use Rattle.running_store.specs.Running.{with_opening}
use Rattle.running_store.specs.Requests.{HavePosted}
use Rattle.store_core.proofs.Posting.{have_posted}
use Rattle.store_core.proofs.plant.Plant.request.Goals as goal

pub asked_in-requires : goal.asked_in-requires
asked_in-requires g c =
    subst HavePosted (sym c.as_slice.ensures.value)
    (have_posted g.D.PageDisk
    (with_opening c.self.inside.running c.self.inside.opening.value c.self.inside.right.value.name)
    c.self.invariant.0)
