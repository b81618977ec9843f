use Rattle.std.proofs.Common.{sym, subst}
use Rattle.run_work.specs.Following.{MetadataActs}
use Rattle.run_moves.specs.DriverSteps.{DriverStep}
use Rattle.channels.specs.Actors.{actor_in_run}
use Rattle.channels.specs.Driving.{AreChannelsOf, driven}
use Rattle.channels.proofs.Keeping.{rows_step, stands, still_channels}
use Rattle.channels.proofs.driver.Driver.acts.Goals as goal

pub returns-then-channel-lt16-clause-step : goal.returns-then-channel-lt16-clause-step
returns-then-channel-lt16-clause-step g c =
    let d = g.D.PageDisk in
    subst (λ a. DriverStep d.tells (actor_in_run a) (driven d c.args.self.now) (driven d c.channel_acts.new.self))
    (sym c.in-Channel.is) c.channel_acts.ensures.step

pub returns-in-Metadata-clause-step : goal.returns-in-Metadata-clause-step
returns-in-Metadata-clause-step g c =
    let d = g.D.PageDisk in
    subst (λ a. DriverStep d.tells (actor_in_run a) (driven d c.args.self.now) (driven d c.metadata_acts.new.self))
    (sym c.in-Metadata.is) c.metadata_acts.ensures.step

pub returns-in-Metadata-clause-channels : goal.returns-in-Metadata-clause-channels
returns-in-Metadata-clause-channels g c =
    let d = g.D.PageDisk in
    let w = c.args.self.now in
    let v = c.metadata_acts.new.self in
    subst (AreChannelsOf v.plant.at.rows) (sym c.metadata_acts.ensures.channels)
    (still_channels w.plant.at.rows v.plant.at.rows
    (rows_step d.tells (driven d w) (driven d v) (stands d c.state_turns.ensures w.plant c.keeps.ensures) MetadataActs
    c.metadata_acts.ensures.step) w.channels
    c.requires.driven.channels)
