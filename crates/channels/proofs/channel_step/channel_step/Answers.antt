use Rattle.std.proofs.Common.{refl, sym, ◌∙◌}
use Rattle.channels.proofs.StepsMade.{by_ending, by_send, by_turn, sent_own, turned_own}
use Rattle.channels.proofs.channel_step.channel_step.Goals as goal

pub returns-in-Queue-clause-step : goal.returns-in-Queue-clause-step
returns-in-Queue-clause-step g c =
    by_send g.D.PageDisk c.args.plant.now c.args.plant.now c.args.own.now c.send.new.self c.args.queue.now
    c.send.new.out
    (sym c.next.ensures ∙ c.in-Queue.is) refl c.send.result c.send.ensures.sent c.send.ensures.emptied
    c.send.ensures.full c.send.ensures.unchanged

pub returns-in-Plant-clause-step : goal.returns-in-Plant-clause-step
returns-in-Plant-clause-step g c =
    by_turn g.D.PageDisk c.args.plant.now c.turn.new.plant c.args.own.now c.turn.new.self c.args.queue.now
    c.args.queue.now (sym c.next.ensures ∙ c.in-Plant.is) refl c.turn.result c.turn.ensures.moved c.turn.ensures.idle
    c.turn.ensures.unchanged

pub returns-in-Ended-clause-step : goal.returns-in-Ended-clause-step
returns-in-Ended-clause-step g c =
    by_ending g.D.PageDisk c.args.plant.now c.args.plant.now c.args.own.now c.args.own.now c.args.queue.now
    c.args.queue.now (sym c.next.ensures ∙ c.in-Ended.is) c.requires.channel refl refl refl

pub returns-in-Queue-clause-channel : goal.returns-in-Queue-clause-channel
returns-in-Queue-clause-channel g c =
    sent_own c.args.plant.now.at.rows c.args.own.now c.send.new.self c.requires.channel c.send.result
    c.send.ensures.emptied (λ idle. (c.send.ensures.unchanged idle).1)

pub returns-in-Plant-clause-channel : goal.returns-in-Plant-clause-channel
returns-in-Plant-clause-channel g c =
    turned_own c.args.plant.now.at.rows c.turn.new.plant.at.rows c.args.own.now c.turn.new.self
    c.turn.ensures.channel c.turn.ensures.ended
