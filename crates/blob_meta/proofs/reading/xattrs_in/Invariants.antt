use Rattle.std.proofs.Common.{◌≡◌, take}
use Rattle.std.specs.List.{filter_map}
use Rattle.blob_meta.specs.Says.{firsts, xattr_in}
use Rattle.blob_meta.proofs.reading.xattrs_in.Given as goal

abbrev pub invariant-loop-item : goal.invariant-loop-item
invariant-loop-item l = l.xattrs ≡ firsts (filter_map xattr_in (take l.item-index l.items))
