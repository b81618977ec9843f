use Rattle.std.proofs.Common.{◌≡◌, rules, refl}
use Rattle.std.specs.FinMap as map
use Rattle.clean_stop.specs.Masks.{SaysMasks}
use Rattle.unclean_load.specs.Quick.{IsFaultFound}
use Rattle.unclean_load.specs.Reading.{IsOnlyFault}
use Rattle.unclean_load.proofs.FoundBlobs.{counted_behind, fault_by_masks, not_by_masks, pages_by_masks}
use Rattle.unclean_load.proofs.FoundBlobs.{pages_uncounted, read_by_masks, unread_found}
use Rattle.unclean_load.proofs.finding.trusted_blobs.Goals as goal

pub blobs_on-requires-clause-fits : goal.blobs_on-requires-clause-fits
blobs_on-requires-clause-fits g c = (rw c.in-Some.is at c.in_ok-masks.ensures.fit).blobs

pub are_claimed-requires-clause-pages : goal.are_claimed-requires-clause-pages
are_claimed-requires-clause-pages g c = (rw c.in-Some.is at c.in_ok-masks.ensures.fit).pages

pub are_claimed-requires-clause-clusters : goal.are_claimed-requires-clause-clusters
are_claimed-requires-clause-clusters g c = (rw c.in-Some.is at c.in_ok-masks.ensures.fit).clusters

pub returns-in_err-masks-clause-fault : goal.returns-in_err-masks-clause-fault
returns-in_err-masks-clause-fault g c =
    let d = g.D.PageDisk in
    let s = c.args.sup.now in
    let why = c.in_err-masks.field-0.0 in
    λ told.
    let x : IsFaultFound s (d.now c.args.disk.now) why =
    unread_found s (d.now c.args.disk.now) why c.in_err-masks.ensures.fault in
    search rules

pub returns-in_err-blobs-clause-fault : goal.returns-in_err-blobs-clause-fault
returns-in_err-blobs-clause-fault g c =
    let d = g.D.PageDisk in
    let s = c.args.sup.now in
    let why = c.in_err-blobs.field-0.0 in
    let masks = c.in-Some.masks in
    let clean : s.clean ≡ 1 = search rules in
    λ told.
    let says : SaysMasks s masks (d.now c.args.disk.now) =
    (rw c.in-Some.is at c.in_ok-masks.ensures.says) told in
    let x : IsFaultFound s (d.now c.args.disk.now) why =
    fault_by_masks d s masks c.args.disk.now c.read_masks.new.disk (c.read_masks.ensures.same.now told) clean says why
    (c.in_err-blobs.ensures.fault told) in
    search rules

pub returns-in_err-claimed-clause-fault : goal.returns-in_err-claimed-clause-fault
returns-in_err-claimed-clause-fault g c =
    let d = g.D.PageDisk in
    let s = c.args.sup.now in
    let why = c.in_err-claimed.field-0.0 in
    let masks = c.in-Some.masks in
    let b = c.in_ok-blobs.blobs in
    let clean : s.clean ≡ 1 = search rules in
    λ told.
    let says : SaysMasks s masks (d.now c.args.disk.now) =
    (rw c.in-Some.is at c.in_ok-masks.ensures.says) told in
    let fit = rw c.in-Some.is at c.in_ok-masks.ensures.fit in
    let x : IsFaultFound s (d.now c.args.disk.now) why =
    pages_by_masks d s masks c.args.disk.now c.read_masks.new.disk (c.read_masks.ensures.same.now told) clean says fit
    (map.get b.metas) (map.get b.chains) (c.in_ok-blobs.ensures.found told) why c.in_err-claimed.ensures.fault in
    search rules

pub returns-in_err-blobs-clause-counted : goal.returns-in_err-blobs-clause-counted
returns-in_err-blobs-clause-counted g c =
    let d = g.D.PageDisk in
    let why = c.in_err-blobs.field-0.0 in
    let x : IsOnlyFault (d.read_faults c.args.disk.now) (d.read_faults c.blobs_on.new.disk) why =
    counted_behind (d.read_faults c.args.disk.now) (d.read_faults c.read_masks.new.disk)
    (d.read_faults c.blobs_on.new.disk) why c.in_ok-masks.ensures.quiet c.in_err-blobs.ensures.counted in
    search rules

pub returns-in_err-claimed-clause-counted : goal.returns-in_err-claimed-clause-counted
returns-in_err-claimed-clause-counted g c =
    let d = g.D.PageDisk in
    let why = c.in_err-claimed.field-0.0 in
    let x : IsOnlyFault (d.read_faults c.args.disk.now) (d.read_faults c.blobs_on.new.disk) why =
    counted_behind (d.read_faults c.args.disk.now) (d.read_faults c.read_masks.new.disk)
    (d.read_faults c.blobs_on.new.disk) why c.in_ok-masks.ensures.quiet
    (pages_uncounted _ (d.read_faults c.read_masks.new.disk) (d.read_faults c.blobs_on.new.disk) why
    c.in_ok-blobs.ensures.quiet c.in_err-claimed.ensures.fault) in
    search rules

pub returns-then-claimed-clause-found : goal.returns-then-claimed-clause-found
returns-then-claimed-clause-found g c =
    let d = g.D.PageDisk in
    let s = c.args.sup.now in
    let masks = c.in-Some.masks in
    let b = c.in_ok-blobs.blobs in
    let clean : s.clean ≡ 1 = search rules in
    λ told.
    let says : SaysMasks s masks (d.now c.args.disk.now) =
    (rw c.in-Some.is at c.in_ok-masks.ensures.says) told in
    let fit = rw c.in-Some.is at c.in_ok-masks.ensures.fit in
    read_by_masks d s masks c.args.disk.now c.read_masks.new.disk (c.read_masks.ensures.same.now told) clean says fit
    (map.get b.metas) (map.get b.chains) (c.in_ok-blobs.ensures.found told)
    (c.in_ok-claimed.ensures.claimed c.if-claimed.true)

pub returns-in_default-clause-none : goal.returns-in_default-clause-none
returns-in_default-clause-none g c =
    λ told _ m quick.
    (rw c.in_default.is at c.in_ok-masks.ensures.none) told refl m quick.says

pub returns-clause-none : goal.returns-clause-none
returns-clause-none g c =
    let d = g.D.PageDisk in
    let s = c.args.sup.now in
    let image = d.now c.args.disk.now in
    let masks = c.in-Some.masks in
    let b = c.in_ok-blobs.blobs in
    let clean : s.clean ≡ 1 = search rules in
    λ told _ m quick.
    let says : SaysMasks s masks image = (rw c.in-Some.is at c.in_ok-masks.ensures.says) told in
    let fit = rw c.in-Some.is at c.in_ok-masks.ensures.fit in
    not_by_masks d s masks c.args.disk.now c.read_masks.new.disk (c.read_masks.ensures.same.now told) clean says fit
    (map.get b.metas) (map.get b.chains) (c.in_ok-blobs.ensures.found told)
    (c.in_ok-claimed.ensures.not_claimed c.if-claimed.false)
    (λ other said. c.unloaded_masks_are_read.ensures.one s other masks image said says) m quick
