use Rattle.md_chain.proofs.OfMeta.{plannable, few}
use Rattle.md_chain.proofs.laws.metadata_is_plannable.Goals as goal

pub returns : goal.returns
returns c = record { plannable = plannable; few = few }
