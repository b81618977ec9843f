use Rattle.std.proofs.Common.{rules, ◌+◌, ◌<◌, ◌++◌, take, length, sym, ◌∙◌, ap, subst}
use Rattle.channels.specs.Actors.{actors_in_run}
use Rattle.script_lang.specs.Schedules.{repeated, written_out}
use Rattle.script_lang.specs.declared.schedule.Part.{Part}
use Rattle.channels.proofs.Looping.{Followed, followed_more, none_followed}
use Rattle.channels.proofs.Schedules.{none_written, written_next}
use Rattle.channels.proofs.driver.Driver.follow.Goals as goal

pub loop-part-init : goal.loop-part-init
loop-part-init g c =
    subst (λ l. Followed g.D.PageDisk c.args.self.now (actors_in_run l) c.args.self.now) (sym none_written)
    (none_followed g.D.PageDisk c.args.self.now c.requires.driven)

pub loop-part-preserved : goal.loop-part-preserved
loop-part-preserved g c =
    let n = c.loop-part.part-index in
    let parts = c.parts-part-items.result.now in
    let part : Part = c.part-item.result in
    let test = c.loop-part-test.true in
    let low : n < length parts = search (rules, test) in
    let so = actors_in_run (written_out (take n parts)) in
    followed_more g.D.PageDisk c.args.self.now so (actors_in_run (repeated part.count part.actors))
    (actors_in_run (written_out (take (n + 1) parts))) c.loop-part.self c.follow_part.new.self c.loop-part.invariant
    (ap (λ (x : Part). so ++ actors_in_run (repeated x.count x.actors)) c.part-item.is ∙ written_next parts n part low)
    c.follow_part.ensures.scheduled c.follow_part.ensures.driven c.follow_part.ensures.store
