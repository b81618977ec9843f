use Rattle.unclean_load.proofs.Accepting.{accepted_kept}
use Rattle.unclean_load.proofs.SamePages.{no_head_kept, still_trusted}
use Rattle.unclean_load.proofs.laws.fixed_clusters_decide.Goals as goal

pub returns-clause-accepted : goal.returns-clause-accepted
returns-clause-accepted c pages image other same accepted =
    accepted_kept c.regions_are_placed.ensures c.unloaded_masks_are_read.ensures.apart pages image other same accepted

pub returns-clause-no_head : goal.returns-clause-no_head
returns-clause-no_head c s image other fine same none =
    no_head_kept s (c.regions_are_placed.ensures s fine) (c.unloaded_masks_are_read.ensures.apart s fine) image other
    same none

pub returns-clause-quick : goal.returns-clause-quick
returns-clause-quick c s image other fine same masks quick =
    still_trusted s (c.regions_are_placed.ensures s fine) (c.unloaded_masks_are_read.ensures.apart s fine) image other
    same masks quick
