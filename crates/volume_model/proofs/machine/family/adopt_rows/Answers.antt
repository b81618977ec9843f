use Rattle.std.specs.Option.{option_map}
use Rattle.std.proofs.lemmas.List.Edits.{map_over_more}
use Rattle.volume_model.specs.Plain.{adopted_row}
use Rattle.volume_model.proofs.machine.family.adopt_rows.Goals as goal

pub loop-row-preserved : goal.loop-row-preserved
loop-row-preserved c =
    rw (c.adopt_row.ensures, ← c.row-item.is)
    (map_over_more (option_map (adopted_row c.args.head c.args.parent)) c.deref_mut-row-items.result.now
    c.loop-row.row-items c.loop-row.row-index c.row-item.result c.loop-row-test.true c.loop-row.invariant
    c.row-item.is)
