use Rattle.std.specs.FinMap as map
use Rattle.store_core.specs.Removing.{those_below, AreWith}
use Rattle.store_core.proofs.removed.with_blobs.Given as goal

-- the blobs whose heads are below this are added
abbrev pub invariant-loop-head : goal.invariant-loop-head
invariant-loop-head l = AreWith (those_below (map.get l.blobs) l.head) (map.get l.chains) l.fn.masks l.masks
