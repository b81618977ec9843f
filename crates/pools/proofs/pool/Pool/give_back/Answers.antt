use Rattle.pools.specs.Pool.{PoolState}
use Rattle.pools.proofs.Backed.{given_back-IsBacked}
use Rattle.pools.proofs.pool.Pool.give_back.Goals as goal

pub invariant_of-self : goal.invariant_of-self
invariant_of-self g c =
    let p : PoolState = record { bits = c.self.inside.bits; claims = c.self.inside.claims.numbers } in
    rw (c.clear.ensures, c.claims_without.ensures) (given_back-IsBacked p c.claim.inside.at c.self.invariant)
