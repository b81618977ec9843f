use Rattle.std.proofs.Common.{◌≡◌, take}
use Rattle.std.specs.List.{filter_map}
use Rattle.blob_meta.specs.Says.{firsts, internal_in}
use Rattle.blob_meta.proofs.reading.internal_in.Given as goal

abbrev pub invariant-loop-item : goal.invariant-loop-item
invariant-loop-item l = l.xattrs ≡ firsts (filter_map internal_in (take l.item-index l.items))
