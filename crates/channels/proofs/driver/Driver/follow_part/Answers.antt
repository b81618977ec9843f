use Rattle.std.proofs.Common.{◌≡◌, ◌+◌, ◌++◌, suc, sym, ◌∙◌, ap, arith, subst}
use Rattle.channels.specs.Actors.{actors_in_run}
use Rattle.script_lang.specs.Schedules.{repeated}
use Rattle.channels.proofs.Looping.{Followed, followed_more, none_followed}
use Rattle.channels.proofs.Schedules.{none_repeated, repeated_more}
use Rattle.channels.proofs.driver.Driver.follow_part.Goals as goal

pub loop-preserved : goal.loop-preserved
loop-preserved g c =
    let n = c.loop.counter in
    let actors = c.args.part.now.actors in
    let one : n + 1 ≡ suc n = omega arith in
    followed_more g.D.PageDisk c.args.self.now (actors_in_run (repeated n actors)) (actors_in_run c.as_slice.result.now)
    (actors_in_run (repeated (n + 1) actors)) c.loop.self c.follow_actors.new.self c.loop.invariant
    (ap (λ l. actors_in_run (repeated n actors) ++ actors_in_run l) c.as_slice.ensures ∙ repeated_more n actors
    ∙ sym (ap (λ k. actors_in_run (repeated k actors)) one)) c.follow_actors.ensures.scheduled
    c.follow_actors.ensures.driven c.follow_actors.ensures.store

pub loop-init : goal.loop-init
loop-init g c =
    subst (λ l. Followed g.D.PageDisk c.args.self.now (actors_in_run l) c.args.self.now)
    (sym (none_repeated c.args.part.now.actors)) (none_followed g.D.PageDisk c.args.self.now c.requires.driven)
