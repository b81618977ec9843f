use Rattle.std.specs.FinMap as map
use Rattle.running_store.specs.Recovered.{base_of}
use Rattle.unclean_load.proofs.LoadOutcome.{holds_metadata}
use Rattle.unclean_load.proofs.Quick.{goes_by_masks, one_heads, said_by_scan}
use Rattle.unclean_load.proofs.Refusing.{refused}
use Rattle.unclean_load.proofs.loading.load.Goals as goal

pub returns-in-Err-clause-refused : goal.returns-in-Err-clause-refused
returns-in-Err-clause-refused g c =
    let d = g.D.PageDisk in
    let image = d.now c.args.disk in
    λ told is accepted. refused (d.pages c.args.disk) image
    (λ s p q are too. one_heads c.unloaded_masks_are_read.ensures.one s image p q are too) accepted c.in-Err.fault is
    (c.in-Err.ensures.fault told)

pub returns-clause-accepted : goal.returns-clause-accepted
returns-clause-accepted g c =
    let s = c.in-Ok.store in
    let r = s.recovered in
    λ told.
    let x = c.in-Ok.ensures.found told in
    record {
      sup = s.sup;
      super_at = c.in-Ok.ensures.super_block told;
      heads = x.heads;
      are = x.are;
      loads = record {
        metas = base_of r.metas r.marked;
        chains = map.get r.chains;
        whole = x.whole;
        named = c.in-Ok.ensures.recovered.named;
        lawful = c.in-Ok.ensures.recovered.lawful;
      };
    }

pub returns-clause-quick : goal.returns-clause-quick
returns-clause-quick g c =
    let d = g.D.PageDisk in
    let s = c.in-Ok.store in
    let r = s.recovered in
    λ told. goes_by_masks s.sup (d.now c.args.disk) s.quick (base_of r.metas r.marked) (map.get r.chains)
    (c.in-Ok.ensures.found told)

pub returns-clause-says : goal.returns-clause-says
returns-clause-says g c =
    let d = g.D.PageDisk in
    let s = c.in-Ok.store in
    let r = s.recovered in
    λ told none. said_by_scan s.sup (d.now c.args.disk) s.quick (base_of r.metas r.marked) (map.get r.chains)
    (c.in-Ok.ensures.found told) none

pub returns-clause-holds : goal.returns-clause-holds
returns-clause-holds g c =
    let s = c.in-Ok.store in
    let r = s.recovered in
    λ told none. holds_metadata g.D.PageDisk c.args.disk _ s.sup (base_of r.metas r.marked) (map.get r.chains)
    (c.in-Ok.ensures.super_block told) c.in-Ok.ensures.device (returns-clause-says g c told none)
    (c.in-Ok.ensures.same.now told)
