use Rattle.std.proofs.Common.{rules, tests, ◌∙◌, ◌≡◌, subst, IfOk}
use Rattle.std.proofs.lemmas.Iterator.{items_from_collect, YieldsList-from_slice}
use Rattle.std.proofs.lemmas.Iterator.Consumers.{YieldsList-from_filter_map}
use Rattle.blob_meta.specs.Faults.{clusters_held}
use Rattle.running_store.proofs.effects.clusters_in.Goals as goal

pub returns : goal.returns
returns c = c.from_vec.ensures
    ∙ subst (λ r. IfOk r (λ w. w.items ≡ clusters_held c.args.slots.now)) c.in_ok-clusters.was
    (items_from_collect c.collect.result c.collect.ensures.ran (YieldsList-from_filter_map _ _
    (YieldsList-from_slice c.args.slots.now cc) c.filter_map.ensures.closure (λ x r q k. search (rules, tests))))
