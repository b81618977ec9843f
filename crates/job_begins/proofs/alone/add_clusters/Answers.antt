use Rattle.std.proofs.Common.{◌≡◌, ◌+◌, ℕ, List, Option, None, true, sym, ap, ◌∙◌, subst, arith}
use Rattle.blob_meta.specs.Faults.{clusters_held}
use Rattle.md_chain.specs.Chain.{is_among}
use Rattle.store_model.specs.Places.{all_set}
use Rattle.job_begins.proofs.ClustersAlone.{adds_all, adds_none, adds_one, one_of, Adds}
use Rattle.job_begins.proofs.alone.add_clusters.Goals as goal
use Rattle.job_begins.proofs.alone.add_clusters.Goals.{in-Some, in_default}

pub set-requires : goal.set-requires
set-requires c =
    let among = one_of c.as_slice-slot-items.result.now c.loop-slot.slot-index c.in-Some.cluster None
    c.loop-slot-test.true c.in-Some.is in
    let low = c.requires c.in-Some.cluster
    (subst (λ (l : List (Option ℕ)). is_among c.in-Some.cluster (clusters_held l) ≡ true)
    c.as_slice-slot-items.ensures.slots among) in
    let count = c.loop-slot.invariant.count in
    omega (arith, low, count)

pub loop-slot-preserved : goal.loop-slot-preserved
loop-slot-preserved c =
    let old = c.args.clusters.now in
    let now = c.loop-slot.clusters in
    let slots = c.as_slice-slot-items.result.now in
    let i = c.loop-slot.slot-index in
    elim c.match-slot.branch [
      | in-Some w ↦ rw w.clusters-is (subst (Adds old slots (i + 1)) (sym w.set.ensures)
          (adds_one old slots i None now c.loop-slot-test.true c.loop-slot.invariant w.in-Some.cluster
          w.in-Some.is))
      | in_default w ↦ rw w.clusters-is
          (adds_none old slots i None now c.loop-slot-test.true c.loop-slot.invariant w.in_default.is)
    ]

pub returns : goal.returns
returns c =
    adds_all c.args.clusters.now c.as_slice-slot-items.result.now c.loop-slot.slot-index c.loop-slot.clusters
    c.loop-slot-test.false c.loop-slot.invariant
    ∙ ap (λ (l : List (Option ℕ)). all_set c.args.clusters.now (clusters_held l) true)
    c.as_slice-slot-items.ensures.slots
