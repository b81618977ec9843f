use Rattle.std.specs.FinMap as map
use Rattle.store_core.proofs.BlobsAdded.{added_next, fits_still}
use Rattle.store_core.proofs.removed.with_blobs.Goals as goal

pub add_blob-requires : goal.add_blob-requires
add_blob-requires c = record {
  fit = fits_still (map.get c.args.blobs.now) (map.get c.args.chains.now) c.args.masks c.loop-head.masks
      c.loop-head.head c.requires.fit c.loop-head.invariant;
}

pub loop-head-preserved : goal.loop-head-preserved
loop-head-preserved c =
    added_next (map.get c.args.blobs.now) (map.get c.args.chains.now) c.args.masks c.loop-head.masks
    c.add_blob.new.masks c.loop-head.head c.requires.fit c.loop-head.invariant c.add_blob.ensures.none
    c.add_blob.ensures.added
