use Rattle.std.proofs.Common.{◌≡◌, take}
use Rattle.std.specs.List.{flat_map}
use Rattle.blob_meta.specs.Says.{runs_in}
use Rattle.blob_meta.proofs.reading.runs_in.Given as goal

abbrev pub invariant-loop-item : goal.invariant-loop-item
invariant-loop-item l = l.all ≡ flat_map runs_in (take l.item-index l.items)
