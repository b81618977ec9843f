use Rattle.store_model.proofs.Recovering.{shown_by_all}
use Rattle.store_model.proofs.laws.recoveries.Goals as goal

pub returns : goal.returns
returns c = record { loaded = shown_by_all }
