use Rattle.channels.proofs.Looping.{Passed}
use Rattle.channels.proofs.driver.Driver.round.Given as goal

-- the channels so far have made their steps
abbrev pub invariant-loop-channel : goal.invariant-loop-channel
invariant-loop-channel g l = Passed g.D.PageDisk l.fn.self l.channel l.self
