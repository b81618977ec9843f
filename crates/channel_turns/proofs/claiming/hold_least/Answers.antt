use Rattle.std.proofs.Common.{◌<◌, ℕ, Bool, List, length, ◌∙◌, ap, sym, arith, Some}
use Rattle.std.specs.Prelude.{slice_set}
use Rattle.super_block.specs.Numbers.{cluster_pages_of}
use Rattle.store_model.specs.Rows.{Copying, OpenClaim, Row}
use Rattle.running_store.specs.Running.{view_of}
use Rattle.running_store.specs.StoreView.{rows_of}
use Rattle.running_store.proofs.Rowing.{row_read}
use Rattle.channel_turns.proofs.claiming.hold_least.Goals as goal

pub returns-clause-held : goal.returns-clause-held
returns-clause-held g c said =
    let p = view_of c.args.running.now in
    let low : c.args.row < length p.rows = omega (arith, c.requires.row, c.requires.order.seventeen) in
    let pages = c.cluster_pages-pages.result in
    let claim : OpenClaim = record {
      cluster = c.in-Some-take_cluster.cluster;
      head = c.args.head;
      slot = c.args.slot;
      generation = c.in-Some.generation;
    } in
    record {
      cluster = c.in-Some-take_cluster.cluster;
      least = c.in-Some-take_cluster.ensures.least;
      generation = c.in-Some.generation;
      drawn = sym c.generation.ensures.value ∙ c.in-Some.is;
      next =
          ap (λ (x : Row). record p {
            rows = slice_set p.rows c.args.row x;
            clusters = c.take_cluster.new.clusters.bits;
          })
          (c.hold.ensures ∙ ap (λ (x : Row). record x { stage = Copying pages; claim = Some claim })
          (row_read p.rows c.args.row c.index_mut.result.now low c.index_mut.ensures.value)
          ∙ ap (λ (n : ℕ). record (rows_of p.rows c.args.row) { stage = Copying n; claim = Some claim })
          c.cluster_pages-pages.ensures.value)
          ∙ ap (λ (bits : List Bool). record p {
            rows = slice_set p.rows c.args.row (record (rows_of p.rows c.args.row) {
              stage = Copying (cluster_pages_of p.super);
              claim = Some claim;
            });
            clusters = bits;
          }) c.in-Some-take_cluster.ensures.bits;
    }
