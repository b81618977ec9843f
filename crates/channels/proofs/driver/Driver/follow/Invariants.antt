use Rattle.std.proofs.Common.{take}
use Rattle.channels.specs.Actors.{actors_in_run}
use Rattle.script_lang.specs.Schedules.{written_out}
use Rattle.channels.proofs.Looping.{Followed}
use Rattle.channels.proofs.driver.Driver.follow.Given as goal

abbrev pub invariant-loop-part : goal.invariant-loop-part
invariant-loop-part g l =
    Followed g.D.PageDisk l.fn.self (actors_in_run (written_out (take l.part-index l.part-items))) l.self
