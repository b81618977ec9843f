use Rattle.shown_volumes.proofs.Snapshots.{snapshot_shows}
use Rattle.shown_volumes.proofs.laws.snapshots_show.Goals as goal

pub returns : goal.returns
returns c = snapshot_shows
