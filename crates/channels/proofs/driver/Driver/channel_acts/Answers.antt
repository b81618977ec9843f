use Rattle.std.proofs.Common.{◌<◌, get_or, sym, subst}
use Rattle.std.specs.Prelude.{slice_set}
use Rattle.run_work.specs.Following.{ChannelActs}
use Rattle.run_moves.specs.DriverSteps.{DriverStep}
use Rattle.channels.specs.Driving.{AreChannelsOf, driven_of, IsChannelOf}
use Rattle.channels.proofs.Keeping.{rows_step, stands}
use Rattle.channels.proofs.Stepping.{channel_there, is_its, made_acts, set_channels}
use Rattle.running_store.specs.StoreView.{state_of}
use Rattle.channels.proofs.driver.Driver.channel_acts.Goals as goal

pub channel_step-requires : goal.channel_step-requires
channel_step-requires g c =
    let w = c.args.self.now in
    let own = get_or w.channels c.from-at.result c.index-self-at.result in
    let at = channel_there w.plant.at.rows w.channels c.requires.driven.channels c.args.channel c.requires.low
    c.from-at.result c.index-self-at.result c.from-at.ensures in
    record {
      channel = is_its w.plant.at.rows w.channels c.requires.driven.channels c.args.channel c.requires.low
          c.from-at.result
          c.index-self-at.result c.from-at.ensures;
      low = subst (λ n. n < 16) (sym (c.requires.driven.channels.each c.args.channel own at).number) c.requires.low;
    }

pub returns-clause-step : goal.returns-clause-step
returns-clause-step g c =
    let d = g.D.PageDisk in
    let w = c.args.self.now in
    let own = get_or w.channels c.from-at.result c.index-self-at.result in
    let at = channel_there w.plant.at.rows w.channels c.requires.driven.channels c.args.channel c.requires.low
    c.from-at.result c.index-self-at.result c.from-at.ensures in
    subst (λ k. DriverStep d.tells (ChannelActs c.args.channel)
    (driven_of (state_of d w.plant.at) w.channels w.queue w.metadata)
    (driven_of (state_of d c.channel_step.new.plant.at) (slice_set w.channels k c.channel_step.new.own)
    c.channel_step.new.queue w.metadata)) (sym c.from-at.ensures)
    (made_acts d c.steps_are_moves.ensures w.plant c.channel_step.new.plant c.keeps.ensures w.channels w.queue
    c.channel_step.new.queue w.metadata c.requires.driven.run c.args.channel c.requires.low own
    c.channel_step.new.own at (c.requires.driven.channels.each c.args.channel own at).number
    c.channel_step.ensures.step)

pub returns-clause-channels : goal.returns-clause-channels
returns-clause-channels g c =
    let d = g.D.PageDisk in
    let w = c.args.self.now in
    let own = get_or w.channels c.from-at.result c.index-self-at.result in
    let at = channel_there w.plant.at.rows w.channels c.requires.driven.channels c.args.channel c.requires.low
    c.from-at.result c.index-self-at.result c.from-at.ensures in
    let number = (c.requires.driven.channels.each c.args.channel own at).number in
    let later = c.channel_step.new.plant.at.rows in
    let step = made_acts d c.steps_are_moves.ensures w.plant c.channel_step.new.plant c.keeps.ensures w.channels w.queue
    c.channel_step.new.queue w.metadata c.requires.driven.run c.args.channel c.requires.low own
    c.channel_step.new.own at number c.channel_step.ensures.step in
    subst (λ k. AreChannelsOf later (slice_set w.channels k c.channel_step.new.own)) (sym c.from-at.ensures)
    (set_channels w.plant.at.rows later (rows_step d.tells _ _ (stands d c.state_turns.ensures w.plant c.keeps.ensures)
    (ChannelActs c.args.channel) step) w.channels
    c.requires.driven.channels c.args.channel own c.channel_step.new.own at
    (subst (λ n. IsChannelOf later n c.channel_step.new.own) number c.channel_step.ensures.channel))
