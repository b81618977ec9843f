use Rattle.shown_volumes.proofs.Clones.{clone_shows}
use Rattle.shown_volumes.proofs.laws.clones_show.Goals as goal

pub returns : goal.returns
returns c = clone_shows
