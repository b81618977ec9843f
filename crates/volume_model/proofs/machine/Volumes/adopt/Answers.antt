use Rattle.std.proofs.Common.{◌∙◌, ap, map}
use Rattle.std.specs.Option.{option_map}
use Rattle.volume_model.specs.Plain.{volume_in_row}
use Rattle.volume_model.proofs.Rows.{adopt_all}
use Rattle.volume_model.proofs.machine.Volumes.adopt.Goals as goal

pub returns-clause-rows : goal.returns-clause-rows
returns-clause-rows c = ap (map (option_map volume_in_row)) c.adopt_rows.ensures
    ∙ adopt_all _ c.self.inside.rows.items _ c.self.view_is c.args.head c.args.parent
