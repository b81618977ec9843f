use Rattle.shown_volumes.proofs.Deletes.{delete_shows}
use Rattle.shown_volumes.proofs.Erases.{erase_shows}
use Rattle.shown_volumes.proofs.laws.deletes_show.Goals as goal

pub returns : goal.returns
returns c = record { erased = erase_shows; handed_on = delete_shows }
