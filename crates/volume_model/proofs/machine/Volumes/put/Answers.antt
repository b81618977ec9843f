use Rattle.std.proofs.Common.{Some}
use Rattle.volume_model.proofs.Rows.{set_rows}
use Rattle.volume_model.proofs.machine.Volumes.put.Goals as goal

pub returns : goal.returns
returns c = set_rows _ _ _ c.self.view_is c.args.head (Some c.args.volume) c.requires
