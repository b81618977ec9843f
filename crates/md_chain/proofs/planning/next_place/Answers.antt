use Rattle.std.proofs.Common.{ℕ, sym, ap, ◌∙◌}
use Rattle.std.specs.Prelude.{unwrap_or, Option}
use Rattle.md_chain.specs.Chain.{chain_end}
use Rattle.md_chain.proofs.PlannedChain.{next_at}
use Rattle.md_chain.proofs.planning.next_place.Goals as goal

pub returns-in-Some : goal.returns-in-Some
returns-in-Some c = ap (λ (o : Option ℕ). unwrap_or o chain_end) c.in-Some.ensures
    ∙ sym (next_at c.args.fresh.now c.args.passed)

pub returns-in-None : goal.returns-in-None
returns-in-None c = ap (λ (o : Option ℕ). unwrap_or o chain_end) c.in-None.ensures
    ∙ sym (next_at c.args.fresh.now c.args.passed)
