use Rattle.md_chain.proofs.Saying.{written_say}
use Rattle.md_chain.proofs.laws.written_items_say.Goals as goal

pub returns : goal.returns
returns c = written_say
