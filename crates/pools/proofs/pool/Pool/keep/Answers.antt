use Rattle.pools.specs.Pool.{PoolState}
use Rattle.pools.proofs.Backed.{kept-IsBacked}
use Rattle.pools.proofs.pool.Pool.keep.Goals as goal

pub invariant_of-self : goal.invariant_of-self
invariant_of-self g c =
    let p : PoolState = record { bits = c.self.inside.bits; claims = c.self.inside.claims.numbers } in
    rw c.claims_without.ensures (kept-IsBacked p c.claim.inside.at c.self.invariant)
