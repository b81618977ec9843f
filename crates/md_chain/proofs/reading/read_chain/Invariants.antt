use Rattle.md_chain.proofs.PageWalk.{unseen}
use Rattle.md_chain.proofs.DeviceWalk.{Walking}
use Rattle.md_chain.proofs.reading.read_chain.Given as goal

abbrev pub invariant-chain : goal.invariant-chain
invariant-chain g l = Walking g.D.PageDisk l.sup l.fn.disk l.disk l.head l.pages l.items l.before l.place

abbrev pub decreases-chain : goal.decreases-chain
decreases-chain g l = unseen l.sup.md_len l.pages
