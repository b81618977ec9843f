use Rattle.channels.specs.declared.driver.Driver.{Driver}
use Rattle.channels.proofs.Starting.{starts_as, starts_driven}
use Rattle.channels.proofs.driver.Driver.new.Goals as goal

pub returns-clause-starts : goal.returns-clause-starts
returns-clause-starts g c =
    let w : Driver g.row.D.Denot = record {
      plant = c.args.plant;
      right = c.args.right;
      channels = c.channels_of-channels.result;
      metadata = c.taking_over-metadata.result;
      queue = c.new.result;
    } in
    starts_as g.D.PageDisk c.steps_are_moves.ensures w c.keeps.ensures c.state_turns.ensures
    c.channels_of-channels.ensures c.new.ensures c.taking_over-metadata.ensures

pub returns-clause-driven : goal.returns-clause-driven
returns-clause-driven g c =
    let w : Driver g.row.D.Denot = record {
      plant = c.args.plant;
      right = c.args.right;
      channels = c.channels_of-channels.result;
      metadata = c.taking_over-metadata.result;
      queue = c.new.result;
    } in
    starts_driven g.D.PageDisk c.steps_are_moves.ensures w c.keeps.ensures c.state_turns.ensures
    c.channels_of-channels.ensures c.new.ensures c.taking_over-metadata.ensures c.requires.right c.requires.seventeen
    c.requires.repaired
