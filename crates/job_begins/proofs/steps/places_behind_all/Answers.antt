use Rattle.std.proofs.Common.{◌∙◌, sym, ap, take}
use Rattle.std.specs.FinMap as map
use Rattle.store_model.specs.Maps.{Chains}
use Rattle.job_begins.specs.JobSteps.{behind, chains_after}
use Rattle.job_begins.proofs.LayingOn.{after_more}
use Rattle.job_begins.proofs.steps.places_behind_all.Goals as goal

pub loop-one-preserved : goal.loop-one-preserved
loop-one-preserved c =
    let chains = map.get c.args.chains.now in
    c.in_ok-places.ensures (chains_after chains (take c.loop-one.one-index c.args.laid.now)) c.loop-one.invariant
    ∙ ap (λ (m : Chains). behind m c.args.head) (after_more chains c.args.laid.now c.loop-one.one-index
    c.one-item.result c.loop-one-test.true (sym c.one-item.is))
