use Rattle.std.proofs.Common.{◌≡◌, rules, sym, ap, subst, ◌∙◌, arith}
use Rattle.std.specs.FinMap as map
use Rattle.store_model.specs.Maps.{Metas, Chains}
use Rattle.running_store.specs.Recovered.{IsRecovered, base_of}
use Rattle.unclean_load.specs.Accepted.{IsFaultOf}
use Rattle.unclean_load.specs.Quick.{IsReadBy}
use Rattle.unclean_load.specs.Reading.{IsOnlyFault}
use Rattle.unclean_load.specs.Reads.{pages_together}
use Rattle.unclean_load.proofs.BehindSuper.{fault_first, read_first, reads_behind, recovery_only, super_fails}
use Rattle.unclean_load.proofs.FoundBlobs.{counted_behind}
use Rattle.unclean_load.proofs.LoadOutcome.{heads_fail, recovery_fails}
use Rattle.unclean_load.proofs.Recovery.{base_read}
use Rattle.unclean_load.proofs.loading.read_store.Goals as goal

pub returns-clause-found : goal.returns-clause-found
returns-clause-found g c =
    let d = g.D.PageDisk in
    let old = c.args.disk.now in
    let s = c.in_ok-sup.sup in
    let f = c.in_ok-found.found in
    let r = c.in_ok-recovered.recovered in
    let x = c.in_ok-recovered.ensures in
    let base : base_of r.metas r.marked ≡ map.get f.blobs.metas =
    base_read s (map.get f.blobs.metas) (map.get r.chains) r.metas r.removed r.marked r.repairs r.masks x.recovered in
    λ told. subst (λ (m : Metas). IsReadBy f.quick s (d.now old) m (map.get r.chains)) (sym base)
    (subst (λ (l : Chains). IsReadBy f.quick s (d.now old) (map.get f.blobs.metas) l) (ap map.get (sym x.chains))
    (read_first d old c.super_on.new.disk (c.in_ok-sup.ensures.same.now told) s f.quick (map.get f.blobs.metas)
    (map.get f.blobs.chains) (c.in_ok-found.ensures.found told)))

pub returns-clause-recovered : goal.returns-clause-recovered
returns-clause-recovered g c =
    let s = c.in_ok-sup.sup in
    let b = c.in_ok-found.found.blobs in
    let r = c.in_ok-recovered.recovered in
    let x = c.in_ok-recovered.ensures.recovered in
    subst (λ (m : Metas). IsRecovered s m (map.get r.chains) r.metas r.removed r.marked r.repairs r.masks)
    (sym (base_read s (map.get b.metas) (map.get r.chains) r.metas r.removed r.marked r.repairs r.masks x)) x

pub returns-in_err-found-clause-fault : goal.returns-in_err-found-clause-fault
returns-in_err-found-clause-fault g c =
    let d = g.D.PageDisk in
    let s = c.in_ok-sup.sup in
    let why = c.in_err-found.field-0.0 in
    let old = c.args.disk.now in
    λ told.
    let x : IsFaultOf (d.pages old) (d.now old) why =
    heads_fail (d.pages old) (d.now old) s (c.in_ok-sup.ensures.found told) why
    (fault_first d old c.super_on.new.disk (c.in_ok-sup.ensures.same.now told) s why
    (c.in_err-found.ensures.fault told)) in
    search rules

pub returns-in_err-recovered-clause-fault : goal.returns-in_err-recovered-clause-fault
returns-in_err-recovered-clause-fault g c =
    let d = g.D.PageDisk in
    let s = c.in_ok-sup.sup in
    let f = c.in_ok-found.found in
    let why = c.in_err-recovered.field-0.0 in
    let old = c.args.disk.now in
    λ told.
    let read =
    read_first d old c.super_on.new.disk (c.in_ok-sup.ensures.same.now told) s f.quick (map.get f.blobs.metas)
    (map.get f.blobs.chains) (c.in_ok-found.ensures.found told) in
    let x : IsFaultOf (d.pages old) (d.now old) why =
    recovery_fails (d.pages old) (d.now old) s (c.in_ok-sup.ensures.found told) read.heads read.are
    (map.get f.blobs.metas) (map.get f.blobs.chains) read.whole why c.in_err-recovered.ensures.fault in
    search rules

pub returns-clause-reads : goal.returns-clause-reads
returns-clause-reads g c =
    let d = g.D.PageDisk in
    λ told. reads_behind (d.reads c.args.disk.now) (d.reads c.super_on.new.disk) (d.reads c.find_blobs.new.disk)
    c.in_ok-sup.sup _ (c.in_ok-sup.ensures.found told).is c.in_ok-sup.ensures.reads
    (c.find_blobs.ensures.at_most told)

pub returns-in_err-found-clause-reads : goal.returns-in_err-found-clause-reads
returns-in_err-found-clause-reads g c =
    let d = g.D.PageDisk in
    λ told. reads_behind (d.reads c.args.disk.now) (d.reads c.super_on.new.disk) (d.reads c.find_blobs.new.disk)
    c.in_ok-sup.sup _ (c.in_ok-sup.ensures.found told).is c.in_ok-sup.ensures.reads
    (c.find_blobs.ensures.at_most told)

pub returns-in_err-recovered-clause-reads : goal.returns-in_err-recovered-clause-reads
returns-in_err-recovered-clause-reads g c =
    let d = g.D.PageDisk in
    λ told. reads_behind (d.reads c.args.disk.now) (d.reads c.super_on.new.disk) (d.reads c.find_blobs.new.disk)
    c.in_ok-sup.sup _ (c.in_ok-sup.ensures.found told).is c.in_ok-sup.ensures.reads
    (c.find_blobs.ensures.at_most told)

pub returns-clause-quick_reads : goal.returns-clause-quick_reads
returns-clause-quick_reads g c =
    let s = c.in_ok-sup.sup in
    λ is.
    let first = c.in_ok-sup.ensures.reads in
    let more = c.in_ok-found.ensures.reads is in
    let same = ap (λ l. pages_together s.md_len (map.get l)) c.in_ok-recovered.ensures.chains in
    omega (arith, first, more, same)

pub returns-in_err-sup-clause-fault : goal.returns-in_err-sup-clause-fault
returns-in_err-sup-clause-fault g c =
    let d = g.D.PageDisk in
    let old = c.args.disk.now in
    let why = c.in_err-sup.field-0.0 in
    λ told.
    let x : IsFaultOf (d.pages old) (d.now old) why =
    super_fails (d.pages old) (d.now old) why (c.in_err-sup.ensures.fault told) in
    search rules

pub returns-in_err-found-clause-counted : goal.returns-in_err-found-clause-counted
returns-in_err-found-clause-counted g c =
    let d = g.D.PageDisk in
    let why = c.in_err-found.field-0.0 in
    let x : IsOnlyFault (d.read_faults c.args.disk.now) (d.read_faults c.find_blobs.new.disk) why =
    counted_behind (d.read_faults c.args.disk.now) (d.read_faults c.super_on.new.disk)
    (d.read_faults c.find_blobs.new.disk) why c.in_ok-sup.ensures.quiet c.in_err-found.ensures.counted in
    search rules

pub returns-in_err-recovered-clause-counted : goal.returns-in_err-recovered-clause-counted
returns-in_err-recovered-clause-counted g c =
    let d = g.D.PageDisk in
    let f = c.in_ok-found.found in
    let why = c.in_err-recovered.field-0.0 in
    let x : IsOnlyFault (d.read_faults c.args.disk.now) (d.read_faults c.find_blobs.new.disk) why =
    recovery_only c.in_ok-sup.sup.md_len (map.get f.blobs.metas) (map.get f.blobs.chains)
    (d.read_faults c.args.disk.now) (d.read_faults c.find_blobs.new.disk)
    (c.in_ok-found.ensures.quiet ∙ c.in_ok-sup.ensures.quiet) why c.in_err-recovered.ensures.fault in
    search rules

pub returns-clause-quiet : goal.returns-clause-quiet
returns-clause-quiet g c = c.in_ok-found.ensures.quiet ∙ c.in_ok-sup.ensures.quiet
