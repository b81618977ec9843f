use Rattle.pools.proofs.Backed.{given_back-claimed}
use Rattle.pools.proofs.laws.given_back_at_once.Goals as goal

pub returns : goal.returns
returns c = given_back-claimed
