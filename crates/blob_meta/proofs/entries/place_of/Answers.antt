use Rattle.std.proofs.Common.{rules}
use Rattle.std.proofs.lemmas.List.Sorted.{answers_always}
use Rattle.blob_meta.proofs.EntriesInOrder.{searched}
use Rattle.blob_meta.proofs.entries.place_of.Goals as goal

-- the closure gives an entry's head
pub returns-clause-place : goal.returns-clause-place
returns-clause-place g c =
    let by_head =
    c.binary_search_by_key.ensures.position (λ e. e.0) (answers_always _ _ _ (λ f a r g called. search rules)) in
    searched c.args.entries.now c.args.head _ c.requires by_head
