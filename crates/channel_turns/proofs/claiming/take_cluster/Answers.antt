use Rattle.std.proofs.Common.{ℕ, List, refl, sym, ap, subst, arith}
use Rattle.std.specs.Prelude.{Contains}
use Rattle.pools.specs.Pool.{PoolState}
use Rattle.channel_turns.proofs.claiming.take_cluster.Goals as goal

pub keep-requires : goal.keep-requires
keep-requires c =
    subst (λ (l : List ℕ). Contains l c.in-Some.claim)
    (sym (ap (λ (s : PoolState). s.claims) c.in-Some.ensures.claimed)) (0, omega arith, refl)
