use Rattle.volume_model.proofs.Naming.{after_log, after_step}
use Rattle.volume_model.proofs.laws.names_stay_alike.Goals as goal

pub returns-clause-after_step : goal.returns-clause-after_step
returns-clause-after_step c = after_step

pub returns-clause-after_log : goal.returns-clause-after_log
returns-clause-after_log c = after_log
