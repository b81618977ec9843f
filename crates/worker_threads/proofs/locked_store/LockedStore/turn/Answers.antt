use Rattle.std.proofs.Common.{subst}
use Rattle.channels.specs.ChannelSteps.{IsHeldUp, TurnsOrPosts}
use Rattle.running_store.specs.StoreView.{state_of, WithOpening}
use Rattle.worker_threads.proofs.Led.{channel_led}
use Rattle.worker_threads.proofs.locked_store.LockedStore.turn.Goals as goal

pub invariant_of-self : goal.invariant_of-self
invariant_of-self g c =
    channel_led g.D.PageDisk c.state_turns.ensures g.O.GivenStore.given c.self.inside.plant c.turn.new.plant
    c.keeps.ensures c.self.invariant c.turn.ensures.opening c.turn.ensures.right c.turn.ensures.leads

pub returns-clause-moved : goal.returns-clause-moved
returns-clause-moved g c = λ moved.
    let d = g.D.PageDisk in
    subst
    (λ (p : WithOpening g.row.D.Denot). TurnsOrPosts d.tells (state_of d p.at) (state_of d c.turn.new.plant.at)
    c.args.own.now.channel c.turn.new.self.unsent) c.self.view_is (c.turn.ensures.moved moved)

pub returns-clause-idle : goal.returns-clause-idle
returns-clause-idle g c = λ idle.
    let d = g.D.PageDisk in
    subst (λ (p : WithOpening g.row.D.Denot). IsHeldUp (state_of d p.at) c.args.own.now.channel) c.self.view_is
    (c.turn.ensures.idle idle)
