use Rattle.std.proofs.Common.{◌≡◌, ◌++◌, map, take, drop}
use Rattle.std.specs.Option.{option_map}
use Rattle.volume_model.specs.Plain.{adopted_row}
use Rattle.volume_model.proofs.machine.family.adopt_rows.Given as goal

abbrev pub invariant-loop-row : goal.invariant-loop-row
invariant-loop-row l = l.row-items ≡ map (option_map (adopted_row l.head l.parent))
    (take l.row-index l.initial.row-items) ++ drop l.row-index l.initial.row-items
