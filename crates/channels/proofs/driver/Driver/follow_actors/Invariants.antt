use Rattle.std.proofs.Common.{take}
use Rattle.channels.specs.Actors.{actors_in_run}
use Rattle.channels.proofs.Looping.{Followed}
use Rattle.channels.proofs.driver.Driver.follow_actors.Given as goal

abbrev pub invariant-loop-actor : goal.invariant-loop-actor
invariant-loop-actor g l = Followed g.D.PageDisk l.fn.self (actors_in_run (take l.actor-index l.actors)) l.self
