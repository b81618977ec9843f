use Rattle.pools.proofs.Backed.{clear_in-rest}
use Rattle.pools.proofs.pool.Pool.clear_count.Goals as goal

pub returns : goal.returns
returns g c = rw (c.len.ensures, c.count.ensures, ← c.self.view_is) (clear_in-rest c.self.inside.bits)
