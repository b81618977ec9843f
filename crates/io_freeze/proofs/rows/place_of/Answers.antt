use Rattle.std.proofs.Common.{rules}
use Rattle.std.proofs.lemmas.List.Sorted.{answers_always}
use Rattle.io_freeze.proofs.Found.{searched}
use Rattle.io_freeze.proofs.rows.place_of.Goals as goal

-- the closure gives a row's head
pub returns : goal.returns
returns c =
    let facts = c.binary_search_by_key.ensures in
    let by_head = facts.position (λ row. row.head) (answers_always _ _ _ (λ f a r g called. search rules)) in
    searched c.args.rows.now c.args.head _ c.requires facts.bound by_head
