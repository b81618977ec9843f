-- The regions of a new store are written, one after the other.
use Rattle.std.proofs.Common.{◌+◌, ◌≤◌, ℕ, arith, IsTrue}
use Rattle.page_disk.specs.Disk.{Telling}
use Rattle.page_disk.specs.declared.disk.PageDisk.{Ghosts}
use Rattle.super_block.specs.Placed.{IsLaidOut}
use Rattle.super_block.specs.declared.layout.Layout.{Layout}
use Rattle.page_runs.specs.Writing.{IsBetween, WritesOnly}
use Rattle.store_format.specs.NewStore.{md_end_of}
use Rattle.page_runs.proofs.Runs.{none_written, written_after}

-- the pages of a run in the regions
inside : (plan : Layout) (start count : ℕ) → 1 ≤ start → start + count ≤ md_end_of plan → (page : ℕ)
    → IsBetween start (start + count) page → IsBetween 1 (md_end_of plan) page
inside plan start count low high page at = (omega (arith, low, at), omega (arith, high, at))

module _ {D : Type 0} (d : Ghosts D) (law : IsTrue d.tells → Telling d.now d.images d.since d.clock) (plan : Layout)
    (laid : IsLaidOut plan) (first md : D)
    (zeros : WritesOnly d (IsBetween plan.md_start (plan.md_start + plan.md_pages)) first md) where
  -- no page but those of the masks and of the metadata region is written
  abbrev InRegions : D → Type 0
  InRegions disk = WritesOnly d (IsBetween 1 (md_end_of plan)) first disk

  md_written : InRegions md
  md_written =
      written_after d (IsBetween 1 (md_end_of plan)) first first md
      (none_written d law (IsBetween 1 (md_end_of plan)) first) _
      (inside plan plan.md_start plan.md_pages (omega (arith, laid)) (omega (arith, laid))) zeros

  module _ (pages : D)
      (page_mask : WritesOnly d (IsBetween plan.page_mask_start (plan.page_mask_start + plan.page_mask_len)) md pages)
    where
      -- after the metadata region the mask of metadata pages
      pub page_mask_written : InRegions pages
      page_mask_written =
          written_after d (IsBetween 1 (md_end_of plan)) first md pages md_written _
          (inside plan plan.page_mask_start plan.page_mask_len (omega (arith, laid)) (omega (arith, laid))) page_mask

      module _ (clusters : D)
          (cluster_mask : WritesOnly d
          (IsBetween plan.cluster_mask_start (plan.cluster_mask_start + plan.cluster_mask_len)) pages clusters) where
        -- then the mask of clusters
        pub cluster_mask_written : InRegions clusters
        cluster_mask_written =
            written_after d (IsBetween 1 (md_end_of plan)) first pages clusters page_mask_written _
            (inside plan plan.cluster_mask_start plan.cluster_mask_len (omega (arith, laid)) (omega (arith, laid)))
            cluster_mask

        -- and then that of heads
        pub blob_mask_written : (blobs : D)
            → WritesOnly d (IsBetween plan.blob_mask_start (plan.blob_mask_start + plan.blob_mask_len)) clusters blobs
            → InRegions blobs
        blob_mask_written blobs blob_mask =
            written_after d (IsBetween 1 (md_end_of plan)) first clusters blobs cluster_mask_written _
            (inside plan plan.blob_mask_start plan.blob_mask_len (omega (arith, laid)) (omega (arith, laid))) blob_mask
