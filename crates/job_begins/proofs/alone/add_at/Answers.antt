use Rattle.std.proofs.Common.{◌≡◌, Bool, List, Some, true, length, sym, ap, ◌∙◌}
use Rattle.std.specs.Prelude.{option_copied}
use Rattle.blob_meta.specs.Faults.{clusters_held}
use Rattle.running_store.specs.StoreView.{base_of}
use Rattle.store_model.proofs.Sets.{length_all_set}
use Rattle.job_begins.proofs.alone.add_at.Goals as goal

pub add_clusters-requires : goal.add_clusters-requires
add_clusters-requires g c =
    let there : base_of c.args.running.now.metas c.args.running.now.marked c.args.head ≡ Some c.in-Some.meta.now =
    sym c.base_at.ensures ∙ ap option_copied c.in-Some.is in
    λ k among. c.requires c.args.head c.in-Some.meta.now k there among

pub returns-in-Some-clause-count : goal.returns-in-Some-clause-count
returns-in-Some-clause-count g c =
    ap (λ (bits : List Bool). length bits) c.add_clusters.ensures
    ∙ length_all_set c.args.clusters.now (clusters_held c.in-Some.meta.now.map) true
