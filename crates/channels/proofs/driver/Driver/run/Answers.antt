use Rattle.std.proofs.Common.{sym, ◌∙◌}
use Rattle.channels.specs.Actors.{actors_in_run}
use Rattle.channels.proofs.Looping.{none_rounded, round_lowers, rounded_more, rounded_over}
use Rattle.channels.proofs.driver.Driver.run.Goals as goal

pub loop-alloc-init : goal.loop-alloc-init
loop-alloc-init g c =
    none_rounded g.D.PageDisk c.args.self.now (actors_in_run c.args.schedule.now) c.follow.new.self
    c.follow.ensures.driven c.follow.ensures.store c.follow.ensures.scheduled

pub loop-alloc-preserved : goal.loop-alloc-preserved
loop-alloc-preserved g c =
    let live = sym c.have_ended.ensures ∙ c.loop-alloc-test.true in
    rounded_more g.D.PageDisk c.args.self.now (actors_in_run c.args.schedule.now) c.loop-alloc.self c.round.new.self
    c.loop-alloc.invariant live c.round.ensures.round c.round.ensures.driven c.round.ensures.store

pub loop-alloc-smaller : goal.loop-alloc-smaller
loop-alloc-smaller g c =
    let live = sym c.have_ended.ensures ∙ c.loop-alloc-test.true in
    round_lowers g.D.PageDisk c.args.self.now c.rounds_end.ensures c.loop-alloc.self c.round.new.self
    c.loop-alloc.invariant.store c.loop-alloc.invariant.is_driven live c.round.ensures.round

pub returns-clause-follows : goal.returns-clause-follows
returns-clause-follows g c =
    rounded_over g.D.PageDisk c.args.self.now (actors_in_run c.args.schedule.now) c.loop-alloc.self
    c.loop-alloc.invariant (sym c.have_ended.ensures ∙ c.loop-alloc-test.false)

pub returns-clause-driven : goal.returns-clause-driven
returns-clause-driven g c = c.loop-alloc.invariant.is_driven
