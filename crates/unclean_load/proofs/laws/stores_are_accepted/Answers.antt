use Rattle.unclean_load.proofs.Accepting.{accepted, accepted_in_use}
use Rattle.unclean_load.proofs.laws.stores_are_accepted.Goals as goal

pub returns-clause-stores : goal.returns-clause-stores
returns-clause-stores c s image metas chains can heads are fine none =
    accepted c.regions_are_placed.ensures s image metas chains can heads are fine none

pub returns-clause-in_use : goal.returns-clause-in_use
returns-clause-in_use c s image metas chains can dirty =
    accepted_in_use c.regions_are_placed.ensures s image metas chains can dirty
