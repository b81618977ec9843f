use Rattle.std.proofs.Common.{◌∙◌, sym, subst, arith}
use Rattle.std.specs.FinMap as map
use Rattle.blob_meta.proofs.HeadsThere.{up_to_end, up_to_next}
use Rattle.running_store.specs.StoreView.{base_of}
use Rattle.store_model.specs.Maps.{Metas}
use Rattle.job_begins.specs.Alone.{HaveRoom}
use Rattle.job_begins.proofs.ClustersAlone.{beside_next, beside_none, beside_own, no_blob, HasBeside}
use Rattle.job_begins.proofs.alone.clusters_beside.Goals as goal
use Rattle.job_begins.proofs.alone.clusters_beside.Goals.{then-other-head, else-other-head}

pub loop-other-preserved : goal.loop-other-preserved
loop-other-preserved g c =
    let base : Metas = base_of c.args.running.now.metas c.args.running.now.marked in
    let chains = c.args.running.now.chains in
    let head = c.args.head in
    let bits = c.loop-other.clusters in
    let v = c.loop-other.invariant in
    let other = c.in-Some.other in
    let low = c.in-Some.ensures.below in
    let so_far : HasBeside other base head bits =
    up_to_next chains (λ n. HasBeside n base head bits)
    (λ h none has. beside_none base head h bits has (no_blob base (map.get chains) c.requires.chained h none))
    c.loop-other.from other c.in-Some.ensures.some v.2 in
    elim c.if-other-head.branch [
      | then-other-head w ↦ rw w.clusters-is (
        omega (arith, low),
        w.add_at.ensures.count ∙ v.1,
        beside_next base head other bits so_far w.if-other-head.true (subst (HaveRoom base) (sym v.1) c.requires.room)
            w.add_at.new.clusters w.add_at.ensures.there w.add_at.ensures.none,
      )
      | else-other-head w ↦ rw w.clusters-is (
        omega (arith, low),
        v.1,
        beside_own base head other bits so_far w.if-other-head.false,
      )
    ]

pub returns-clause-are : goal.returns-clause-are
returns-clause-are g c =
    let base : Metas = base_of c.args.running.now.metas c.args.running.now.marked in
    let chains = c.args.running.now.chains in
    let head = c.args.head in
    let bits = c.loop-other.clusters in
    let v = c.loop-other.invariant in
    up_to_end chains (λ n. HasBeside n base head bits)
    (λ h none has. beside_none base head h bits has (no_blob base (map.get chains) c.requires.chained h none))
    c.loop-other.from c.args.running.now.sup.md_len v.0 c.in_default.ensures.none v.2
