use Rattle.std.proofs.Common.{rules, ap, ◌∙◌, arith}
use Rattle.bit_array.specs.Mask.{mask_pages}
use Rattle.unclean_load.specs.Reading.{IsOnlyFault}
use Rattle.unclean_load.proofs.FoundBlobs.{counted_behind}
use Rattle.unclean_load.proofs.MasksOnDevice.{blobs_end, clusters_end, pages_end}
use Rattle.unclean_load.proofs.mask_pages.read_masks.Goals as goal

pub read_mask-requires : goal.read_mask-requires
read_mask-requires g c =
    let s = c.args.sup.now in
    let fine = c.requires.faultless in
    let end = pages_end s (c.regions_are_placed.ensures s fine) (c.unloaded_masks_are_read.ensures.apart s fine) in
    let device = c.requires.device in
    omega (arith, end, device)

pub read_mask-requires-2 : goal.read_mask-requires-2
read_mask-requires-2 g c =
    let s = c.args.sup.now in
    let fine = c.requires.faultless in
    let end = clusters_end s (c.regions_are_placed.ensures s fine) (c.unloaded_masks_are_read.ensures.apart s fine) in
    let device = c.requires.device in
    let same = c.read_mask.ensures.same.pages in
    let count = ap mask_pages c.clusters.ensures.value in
    omega (arith, end, device, same, count)

pub read_mask-requires-3 : goal.read_mask-requires-3
read_mask-requires-3 g c =
    let s = c.args.sup.now in
    let fine = c.requires.faultless in
    let end = blobs_end s (c.regions_are_placed.ensures s fine) (c.unloaded_masks_are_read.ensures.apart s fine) in
    let device = c.requires.device in
    let same = c.read_mask.ensures.same.pages in
    let again = c.read_mask-2.ensures.same.pages in
    omega (arith, end, device, same, again)

pub returns-in_err-clusters-clause-counted : goal.returns-in_err-clusters-clause-counted
returns-in_err-clusters-clause-counted g c =
    let d = g.D.PageDisk in
    let why = c.in_err-clusters.field-0.0 in
    let x : IsOnlyFault (d.read_faults c.args.disk.now) (d.read_faults c.read_mask-2.new.disk) why =
    counted_behind (d.read_faults c.args.disk.now) (d.read_faults c.read_mask.new.disk)
    (d.read_faults c.read_mask-2.new.disk) why c.in_ok-pages.ensures.quiet c.in_err-clusters.ensures.counted in
    search rules

pub returns-in_err-blobs-clause-counted : goal.returns-in_err-blobs-clause-counted
returns-in_err-blobs-clause-counted g c =
    let d = g.D.PageDisk in
    let why = c.in_err-blobs.field-0.0 in
    let x : IsOnlyFault (d.read_faults c.args.disk.now) (d.read_faults c.read_mask-3.new.disk) why =
    counted_behind (d.read_faults c.args.disk.now) (d.read_faults c.read_mask-2.new.disk)
    (d.read_faults c.read_mask-3.new.disk) why (c.in_ok-clusters.ensures.quiet ∙ c.in_ok-pages.ensures.quiet)
    c.in_err-blobs.ensures.counted in
    search rules
