use Rattle.std.specs.FinMap as map
use Rattle.unclean_load.proofs.HeadWalk.{Walked}
use Rattle.unclean_load.proofs.walking.blobs_on.Given as goal

-- what the heads so far say
abbrev pub invariant-loop-place : goal.invariant-loop-place
invariant-loop-place g l =
    Walked g.D.PageDisk l.sup l.heads l.fn.disk l.disk (map.get l.blobs.metas) (map.get l.blobs.chains) l.blobs.slots
    l.place
