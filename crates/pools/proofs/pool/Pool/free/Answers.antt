use Rattle.pools.specs.Pool.{PoolState}
use Rattle.pools.proofs.Backed.{freed-IsBacked}
use Rattle.pools.proofs.pool.Pool.free.Goals as goal

pub invariant_of-self : goal.invariant_of-self
invariant_of-self g c =
    let p : PoolState = record { bits = c.self.inside.bits; claims = c.self.inside.claims.numbers } in
    rw c.clear.ensures (freed-IsBacked p c.args.at (rw (← c.self.view_is) at c.requires.unclaimed) c.self.invariant)
