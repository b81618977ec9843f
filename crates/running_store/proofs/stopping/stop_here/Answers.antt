use Rattle.std.proofs.Common.{Some, refl, sym, subst}
use Rattle.io_freeze.specs.Guards.{GuardsState}
use Rattle.running_store.specs.Blobs.{blobs_of}
use Rattle.running_store.specs.Running.{InOrder}
use Rattle.running_store.proofs.KeptThawed.{kept_thawed}
use Rattle.running_store.proofs.OrderKept.{order_kept, room_still}
use Rattle.running_store.proofs.stopping.stop_here.Goals as goal

pub returns-clause-order : goal.returns-clause-order
returns-clause-order g c =
    let old = c.args.running.now in
    let order = c.requires.order in
    subst (λ (guards : GuardsState). InOrder g.D.PageDisk (record old { guards = guards; stopped = Some c.len.result }))
    (sym c.release.ensures) (order_kept g.D.PageDisk old order refl refl (room_still g.D.PageDisk old order)
    order.no_page order.no_cluster (record {
      headed = order.headed;
      heads = order.heads;
      resolves = order.resolves;
      kept = kept_thawed (blobs_of old) old.job c.frozen_by.result order.kept;
    }))
