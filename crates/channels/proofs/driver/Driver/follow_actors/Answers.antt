use Rattle.std.proofs.Common.{rules, ◌<◌, length}
use Rattle.script_lang.specs.declared.schedule.Actor.TheVariants.{Channel}
use Rattle.std.proofs.Math.ListN.{get_or}
use Rattle.std.proofs.Common.{take}
use Rattle.channels.specs.Actors.{actor_in_run, actors_in_run}
use Rattle.channels.proofs.Looping.{followed_step, none_followed}
use Rattle.channels.proofs.Schedules.{actors_next}
use Rattle.channels.proofs.driver.Driver.follow_actors.Goals as goal

pub loop-actor-init : goal.loop-actor-init
loop-actor-init g c = none_followed g.D.PageDisk c.args.self.now c.requires.driven

pub loop-actor-preserved : goal.loop-actor-preserved
loop-actor-preserved g c =
    let n = c.loop-actor.actor-index in
    let actors = c.args.actors.now in
    let test = c.loop-actor-test.true in
    let low : n < length actors = search (rules, test) in
    followed_step g.D.PageDisk c.args.self.now (actors_in_run (take n actors)) _
    (actor_in_run (get_or actors n (Channel 0)))
    c.loop-actor.self c.step.new.self c.loop-actor.invariant (actors_next actors n (Channel 0) low) c.step.ensures.step
    c.step.ensures.driven c.step.ensures.store
