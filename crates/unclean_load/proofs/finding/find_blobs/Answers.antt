use Rattle.std.proofs.Common.{rules, refl, subst}
use Rattle.std.specs.FinMap as map
use Rattle.md_chain.specs.Reading.{region_look}
use Rattle.page_disk.specs.Disk.{Image}
use Rattle.store_model.specs.Regions.{region_of}
use Rattle.unclean_load.specs.Heads.{AreWhole, IsHeadsFault}
use Rattle.unclean_load.specs.Quick.{IsFaultFound}
use Rattle.unclean_load.specs.Reading.{IsOnlyFault}
use Rattle.unclean_load.specs.declared.heads.Heads.TheVariants.{ByScan}
use Rattle.unclean_load.proofs.FoundBlobs.{counted_behind, read_scan, scan_fails}
use Rattle.unclean_load.proofs.finding.find_blobs.Goals as goal

pub returns-clause-found : goal.returns-clause-found
returns-clause-found g c =
    let d = g.D.PageDisk in
    let s = c.args.sup.now in
    let b = c.in_ok-scanned.scanned in
    λ told. read_scan s (d.now c.args.disk.now) ((rw c.in_default.is at c.in_ok-blobs.ensures.none) told refl)
    (map.get b.metas) (map.get b.chains)
    (subst
    (λ (image : Image). AreWhole (region_look s image) (region_of s) ByScan (map.get b.metas) (map.get b.chains))
    (c.trusted_blobs.ensures.same.now told) (c.in_ok-scanned.ensures.found told))

pub returns-in_err-scanned-clause-fault : goal.returns-in_err-scanned-clause-fault
returns-in_err-scanned-clause-fault g c =
    let d = g.D.PageDisk in
    let s = c.args.sup.now in
    let why = c.in_err-scanned.field-0.0 in
    λ told.
    let x : IsFaultFound s (d.now c.args.disk.now) why =
    scan_fails s (d.now c.args.disk.now) ((rw c.in_default.is at c.in_ok-blobs.ensures.none) told refl) why
    (subst (λ (image : Image). IsHeadsFault (region_look s image) (region_of s) ByScan why)
    (c.trusted_blobs.ensures.same.now told) (c.in_err-scanned.ensures.fault told)) in
    search rules

pub returns-in_err-scanned-clause-counted : goal.returns-in_err-scanned-clause-counted
returns-in_err-scanned-clause-counted g c =
    let d = g.D.PageDisk in
    let why = c.in_err-scanned.field-0.0 in
    let x : IsOnlyFault (d.read_faults c.args.disk.now) (d.read_faults c.blobs_on.new.disk) why =
    counted_behind (d.read_faults c.args.disk.now) (d.read_faults c.trusted_blobs.new.disk)
    (d.read_faults c.blobs_on.new.disk) why c.in_ok-blobs.ensures.quiet c.in_err-scanned.ensures.counted in
    search rules
