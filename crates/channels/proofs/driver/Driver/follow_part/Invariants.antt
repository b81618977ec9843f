use Rattle.channels.specs.Actors.{actors_in_run}
use Rattle.script_lang.specs.Schedules.{repeated}
use Rattle.channels.proofs.Looping.{Followed}
use Rattle.channels.proofs.driver.Driver.follow_part.Given as goal

abbrev pub invariant-loop : goal.invariant-loop
invariant-loop g l =
    Followed g.D.PageDisk l.fn.self (actors_in_run (repeated l.counter l.fn.part.actors)) l.self
