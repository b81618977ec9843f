use Rattle.std.proofs.Common.{ℕ, Bool, List, [], length, refl, ap, arith, subst, sym}
use Rattle.std.specs.FinMap as map
use Rattle.volume_model.specs.declared.reply.Entry.{Entry}
use Rattle.running_store.specs.StoreView.{base_of}
use Rattle.store_model.specs.Places.{Unclaimed, UsedClusters, UsedPages}
use Rattle.store_core.proofs.LoadedStarts.{resolved_at_start}
use Rattle.store_core.proofs.Starts.{none_counted}
use Rattle.store_core.proofs.UsedAtStart.{clusters_used, heads_are, heads_count, pages_used, removed_fit}
use Rattle.store_core.proofs.starting.running_at_start.Goals as goal

pub with_blobs-pages-requires : goal.with_blobs-pages-requires
with_blobs-pages-requires g c =
    let l = c.args.loaded in
    record {
      fit = removed_fit l.sup (base_of l.metas l.marked) (map.get l.chains) l.metas l.removed l.marked l.repairs l.masks
          c.requires.recovered;
    }

pub returns-clause-pages : goal.returns-clause-pages
returns-clause-pages g c =
    let l = c.args.loaded in
    subst (λ (bits : List Bool). UsedPages l.sup.md_len bits (map.get l.chains) []) (sym c.new.ensures.bits)
    (pages_used l.sup (base_of l.metas l.marked) (map.get l.chains) l.metas l.removed l.marked l.repairs l.masks
    c.requires.recovered c.with_blobs-pages.result c.with_blobs-pages.ensures)

pub returns-clause-clusters : goal.returns-clause-clusters
returns-clause-clusters g c =
    let l = c.args.loaded in
    subst (λ (bits : List Bool). UsedClusters l.sup bits (base_of l.metas l.marked) Unclaimed)
    (sym c.new-2.ensures.bits)
    (clusters_used l.sup (base_of l.metas l.marked) (map.get l.chains) l.metas l.removed l.marked l.repairs l.masks
    c.requires.recovered c.with_blobs-pages.result c.with_blobs-pages.ensures)

pub returns-clause-order : goal.returns-clause-order
returns-clause-order g c =
    let l = c.args.loaded in
    let parts = c.requires.parts.1 in
    let no_entry = ap (λ (log : List Entry). length log) parts.log in
    let one_mark = ap (λ (marks : List ℕ). length marks) parts.marks in
    let log_room = parts.log_room in
    let marks_room = parts.marks_room in
    let few = parts.few in
    record {
      inside = c.requires.inside;
      device = c.requires.device;
      seventeen = parts.rows.seventeen;
      entries = omega (arith, no_entry, log_room);
      marks = omega (arith, one_mark, marks_room);
      few = omega (arith, no_entry, few);
      counts = refl;
      counted = λ channel low. none_counted channel c.args.parts.entries.items parts.log;
      no_page = c.new.ensures.none_open;
      no_cluster = c.new-2.ensures.none_open;
      headed = tt;
      heads = record {
        count = heads_count l.sup (base_of l.metas l.marked) (map.get l.chains) l.metas l.removed l.marked l.repairs
            l.masks c.requires.recovered c.with_blobs-pages.result c.with_blobs-pages.ensures;
        are = heads_are l.sup (base_of l.metas l.marked) (map.get l.chains) l.metas l.removed l.marked l.repairs l.masks
            c.requires.recovered c.with_blobs-pages.result c.with_blobs-pages.ensures;
      };
      resolves = resolved_at_start l c.requires.recovered;
      kept = tt;
    }
