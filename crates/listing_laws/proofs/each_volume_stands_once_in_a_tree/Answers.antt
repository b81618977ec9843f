use Rattle.listing_laws.proofs.TreeOfStore.{tree_of_store}
use Rattle.listing_laws.proofs.each_volume_stands_once_in_a_tree.Goals as goal

pub returns : goal.returns
returns c = tree_of_store
