use Rattle.super_block.proofs.Placed.{share_where, shared}
use Rattle.super_block.proofs.laws.shared_pages.Goals as goal

pub returns : goal.returns
returns c = λ a b. (share_where a b, λ (page, covers). shared a b page covers.0 covers.1)
