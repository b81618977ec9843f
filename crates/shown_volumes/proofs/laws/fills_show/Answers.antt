use Rattle.shown_volumes.proofs.Fills.{fill_shows}
use Rattle.shown_volumes.proofs.laws.fills_show.Goals as goal

pub returns : goal.returns
returns c = fill_shows
