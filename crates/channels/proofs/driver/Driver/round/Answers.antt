use Rattle.std.proofs.Common.{rules, ◌≡◌}
use Rattle.channels.proofs.Looping.{none_passed, passed_more, round_made}
use Rattle.channels.proofs.Stepping.{same_then}
use Rattle.channels.proofs.driver.Driver.round.Goals as goal

pub loop-channel-init : goal.loop-channel-init
loop-channel-init g c = none_passed g.D.PageDisk c.args.self.now c.requires.driven

pub loop-channel-preserved : goal.loop-channel-preserved
loop-channel-preserved g c =
    passed_more g.D.PageDisk c.args.self.now c.loop-channel.channel c.loop-channel.self c.step.new.self
    c.loop-channel.invariant c.step.ensures.step c.step.ensures.driven c.step.ensures.store

pub returns-clause-round : goal.returns-clause-round
returns-clause-round g c =
    let test = c.loop-channel-test.false in
    let all : c.loop-channel.channel ≡ 16 = search (rules, test) in
    round_made g.D.PageDisk c.args.self.now c.loop-channel.channel c.loop-channel.self c.step-2.new.self all
    c.loop-channel.invariant c.step-2.ensures.step

pub returns-clause-store : goal.returns-clause-store
returns-clause-store g c =
    same_then c.args.self.now c.loop-channel.self c.step-2.new.self c.loop-channel.invariant.store
    c.step-2.ensures.store
