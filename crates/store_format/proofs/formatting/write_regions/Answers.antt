use Rattle.store_format.proofs.Regions.{page_mask_written, cluster_mask_written, blob_mask_written}
use Rattle.store_format.proofs.formatting.write_regions.Goals as goal

pub returns-in_err-write_pages-clause-only : goal.returns-in_err-write_pages-clause-only
returns-in_err-write_pages-clause-only g c =
    let laid = c.layouts_are_placed.ensures c.args.layout.now c.requires.planned in
    page_mask_written g.D.PageDisk g.met.D.PageDisk.telling c.args.layout.now laid c.args.disk.now
    c.write_metadata.new.disk c.write_metadata.ensures.only c.write_pages.new.disk c.write_pages.ensures.only

pub returns-in_err-write_pages-2-clause-only : goal.returns-in_err-write_pages-2-clause-only
returns-in_err-write_pages-2-clause-only g c =
    let laid = c.layouts_are_placed.ensures c.args.layout.now c.requires.planned in
    cluster_mask_written g.D.PageDisk g.met.D.PageDisk.telling c.args.layout.now laid c.args.disk.now
    c.write_metadata.new.disk c.write_metadata.ensures.only c.write_pages.new.disk c.write_pages.ensures.only
    c.write_pages-2.new.disk c.write_pages-2.ensures.only

pub returns-in_err-write_pages-3-clause-only : goal.returns-in_err-write_pages-3-clause-only
returns-in_err-write_pages-3-clause-only g c =
    let laid = c.layouts_are_placed.ensures c.args.layout.now c.requires.planned in
    blob_mask_written g.D.PageDisk g.met.D.PageDisk.telling c.args.layout.now laid c.args.disk.now
    c.write_metadata.new.disk c.write_metadata.ensures.only c.write_pages.new.disk c.write_pages.ensures.only
    c.write_pages-2.new.disk c.write_pages-2.ensures.only
    c.write_pages-3.new.disk c.write_pages-3.ensures.only

pub returns-clause-only : goal.returns-clause-only
returns-clause-only g c =
    let laid = c.layouts_are_placed.ensures c.args.layout.now c.requires.planned in
    blob_mask_written g.D.PageDisk g.met.D.PageDisk.telling c.args.layout.now laid c.args.disk.now
    c.write_metadata.new.disk c.write_metadata.ensures.only c.write_pages.new.disk c.write_pages.ensures.only
    c.write_pages-2.new.disk c.write_pages-2.ensures.only
    c.write_pages-3.new.disk c.write_pages-3.ensures.only
