use Rattle.std.proofs.Common.{◌≡◌, ◌<◌, ◌≤◌, ◌∙◌, Bool, List, [], length, sym, ap, subst, arith}
use Rattle.std.proofs.Common.{None, Option, Some, refl}
use Rattle.std.specs.Prelude.{is_some, not, IsSome}
use Rattle.std.specs.Option.{option_map}
use Rattle.pools.specs.Pool.{PoolState}
use Rattle.store_model.specs.Maps.{Metas}
use Rattle.store_model.specs.Places.{AreDistinct}
use Rattle.store_model.specs.Rows.{Row}
use Rattle.store_model.proofs.Sets.{are_distinct}
use Rattle.job_begins.specs.Begins.{IsPrepared}
use Rattle.std.specs.FinMap as map
use Rattle.volume_model.specs.declared.command.Command.{Command}
use Rattle.running_store.specs.Effects.{commit_seen, cut_clusters, AreEffects}
use Rattle.running_store.specs.Blobs.{blobs_of, CanAllBeKept}
use Rattle.running_store.specs.Running.{view_of}
use Rattle.running_store.specs.StoreView.{rows_of}
use Rattle.store_model.specs.Phases.{Committing}
use Rattle.running_store.specs.declared.replacements.Commit.{Commit}
use Rattle.running_store.proofs.Resolved.{unmarked_base}
use Rattle.job_begins.proofs.JobPlaces.{pool_again, same_pool, taken_in_use}
use Rattle.job_begins.proofs.JobTaken.{first_cluster, has_one, internal_fit, job_begins, job_kept}
use Rattle.job_begins.proofs.JobTaken.{lacks_clusters, lacks_memory, lacks_pages, next_head, once, slots_within}
use Rattle.job_begins.proofs.JobTaken.{was_there, xattrs_fit}
use Rattle.job_begins.proofs.begin.job_for.Goals as goal

-- what has a commit in the model has one
commits_some : (o : Option Commit) (m : Committing) → option_map commit_seen o ≡ Some m → IsSome o
commits_some None m is = absurd (cc is)
commits_some (Some c) m is = refl

pub fill_slots-requires-clause-within : goal.fill_slots-requires-clause-within
fill_slots-requires-clause-within g c =
    slots_within c.requires.can c.requires.asks

pub fill_slots-requires-clause-first : goal.fill_slots-requires-clause-first
fill_slots-requires-clause-first g c =
    first_cluster c.requires.can c.requires.asks

pub returns-in_err-effects-clause-lack : goal.returns-in_err-effects-clause-lack
returns-in_err-effects-clause-lack g c =
    lacks_memory c.requires.can c.requires.asks
    c.from_residual.result c.from_residual.ensures.1

pub returns-in_err-effects-2-clause-lack : goal.returns-in_err-effects-2-clause-lack
returns-in_err-effects-2-clause-lack g c =
    lacks_memory c.requires.can c.requires.asks
    c.from_residual-in_err-effects-2.result c.from_residual-in_err-effects-2.ensures.1

pub lack_beside_clusters-requires-clause-xattrs : goal.lack_beside_clusters-requires-clause-xattrs
lack_beside_clusters-requires-clause-xattrs g c =
    xattrs_fit c.requires.can c.requires.asks
    c.in_ok-effects-2.ensures.claimed c.in_ok-effects-2.ensures.filled

pub lack_beside_clusters-requires-clause-internal : goal.lack_beside_clusters-requires-clause-internal
lack_beside_clusters-requires-clause-internal g c =
    internal_fit c.requires.can c.requires.asks
    c.in_ok-effects-2.ensures.claimed c.in_ok-effects-2.ensures.filled

pub prepare-requires-clause-xattrs : goal.prepare-requires-clause-xattrs
prepare-requires-clause-xattrs g c =
    xattrs_fit c.requires.can c.requires.asks
    c.in_ok-effects-2.ensures.claimed c.in_ok-effects-2.ensures.filled

pub prepare-requires-clause-internal : goal.prepare-requires-clause-internal
prepare-requires-clause-internal g c =
    internal_fit c.requires.can c.requires.asks
    c.in_ok-effects-2.ensures.claimed c.in_ok-effects-2.ensures.filled

pub returns-then-len-clause-lack : goal.returns-then-len-clause-lack
returns-then-len-clause-lack g c =
    let claimed = c.len.ensures in
    let wanted = c.len-2.ensures in
    let fewer = c.if-len.true in
    let less : length c.in_ok-effects-2.field-0 < length c.args.zeros.now = omega (arith, claimed, wanted, fewer) in
    let there = was_there c.is_some-makes.result _ (c.is_some-makes.ensures ∙ c.in_ok-effects.ensures.are.makes) in
    lacks_clusters c.requires.can c.requires.asks
    c.in_ok-effects-2.ensures.claimed c.in_ok-effects-2.ensures.filled less (not c.is_some-makes.result) there
    c.lack_beside_clusters.result c.lack_beside_clusters.ensures

pub prepare-requires-clause-there : goal.prepare-requires-clause-there
prepare-requires-clause-there g c = λ stays.
    has_one c.requires.can c.requires.asks
    c.is_some-makes.result
    (was_there c.is_some-makes.result _ (c.is_some-makes.ensures ∙ c.in_ok-effects.ensures.are.makes)) stays

pub prepare-requires-clause-next : goal.prepare-requires-clause-next
prepare-requires-clause-next g c = λ makes.
    next_head c.requires.can c.requires.asks
    c.is_some-makes.result
    (was_there c.is_some-makes.result _ (c.is_some-makes.ensures ∙ c.in_ok-effects.ensures.are.makes)) makes

pub job-requires-clause-once : goal.job-requires-clause-once
job-requires-clause-once g c = subst AreDistinct (sym c.in_ok-effects.ensures.are.freed)
    (subst (λ (m : Metas). AreDistinct (cut_clusters (m c.args.head) c.args.new))
    (unmarked_base c.args.running.now.metas c.args.running.now.marked c.requires.can.order.resolves
    c.requires.can.unmarked)
    (once c.requires.can c.requires.asks))

pub clear_places-requires-clause-distinct : goal.clear_places-requires-clause-distinct
clear_places-requires-clause-distinct g c =
    are_distinct c.args.running.now.clusters.bits c.in_ok-effects-2.field-0 c.in_ok-effects-2.ensures.claimed.least

pub clear_places-requires-clause-in_use : goal.clear_places-requires-clause-in_use
clear_places-requires-clause-in_use g c =
    taken_in_use c.args.running.now.clusters.bits c.in_ok-effects-2.field-0 c.in_ok-effects-2.ensures.claimed.least _
    c.in_ok-effects-2.ensures.bits

pub returns-in-Ok-clause-begins : goal.returns-in-Ok-clause-begins
returns-in-Ok-clause-begins g c =
    let p = view_of c.args.running.now in
    let claimed = c.len.ensures in
    let wanted = c.len-2.ensures in
    let as_many = c.if-len.false in
    let all : length c.args.zeros.now ≤ length c.in_ok-effects-2.field-0 = omega (arith, claimed, wanted, as_many) in
    let waits = c.requires.can.posted.waits in
    let asked : c.first_of-command.result.now ≡ waits.command =
    c.first_of-command.ensures waits.command waits.rest
    (ap (λ (rows : List Row). (rows_of rows c.args.channel).left) c.as_slice.ensures.value
    ∙ ap (λ (r : Row). r.left) waits.row) in
    let prepared = subst (λ (b : Bool). IsPrepared c.args.running.now.chains c.args.head c.fill_slots.new.new b
    c.args.running.now.pages.bits c.prepare.new.pages.bits c.in-Ok.prepared) c.is_some-makes.ensures
    c.in-Ok.ensures.prepared in
    let live = map.get p.live c.args.head in
    let chained = is_some (map.get p.chains c.args.head) in
    let are = subst (λ (m : Metas). AreEffects chained c.args.head (m c.args.head) waits.command live c.args.new []
    c.in_ok-effects.effects)
    (sym (unmarked_base p.metas p.marked c.requires.can.order.resolves c.requires.can.unmarked))
    (subst (λ (k : Command). AreEffects chained c.args.head (map.get p.metas c.args.head) k live c.args.new []
    c.in_ok-effects.effects) asked c.in_ok-effects.ensures.are) in
    job_begins c.requires.can c.requires.asks
    c.in_ok-effects-2.ensures.claimed c.in_ok-effects-2.ensures.filled all c.in_ok-effects.effects
    are c.prepare.new.pages.bits c.fill_slots.new.clusters.bits
    c.in_ok-effects-2.ensures.bits c.in-Ok.prepared prepared c.cluster_pages-cluster_pages.result
    c.cluster_pages-cluster_pages.ensures.value c.job.result c.job.ensures.seen

pub job-requires-clause-commits : goal.job-requires-clause-commits
job-requires-clause-commits g c = commits_some c.in_ok-effects.effects.commit _ c.in_ok-effects.ensures.are.commit

pub returns-in-Ok-clause-kept : goal.returns-in-Ok-clause-kept
returns-in-Ok-clause-kept g c =
    let running = c.args.running.now in
    let claimed = c.len.ensures in
    let wanted = c.len-2.ensures in
    let as_many = c.if-len.false in
    let all : length c.args.zeros.now ≤ length c.in_ok-effects-2.field-0 = omega (arith, claimed, wanted, as_many) in
    let prepared = subst (λ (b : Bool). IsPrepared running.chains c.args.head c.fill_slots.new.new b
    running.pages.bits c.prepare.new.pages.bits c.in-Ok.prepared) c.is_some-makes.ensures c.in-Ok.ensures.prepared in
    let are = c.in_ok-effects.ensures.are in
    subst (CanAllBeKept (blobs_of running)) (sym c.job.ensures.coming) (
      job_kept c.requires.can c.requires.asks
          c.in_ok-effects-2.ensures.claimed c.in_ok-effects-2.ensures.filled all c.in_ok-effects.effects are.shows
          (was_there (is_some c.in_ok-effects.effects.rooms.chain) _ are.makes) c.in_ok-effects.ensures.places
          c.prepare.new.pages.bits c.in-Ok.prepared prepared,
      tt,
    )

pub returns-in-Err-clause-lack : goal.returns-in-Err-clause-lack
returns-in-Err-clause-lack g c =
    lacks_pages c.requires.can c.requires.asks
    c.in_ok-effects-2.ensures.claimed c.in_ok-effects-2.ensures.filled c.in-Err.reply c.in-Err.ensures.lack

pub returns-in-Err-clause-same : goal.returns-in-Err-clause-same
returns-in-Err-clause-same g c =
    let running = c.args.running.now in
    let pages = same_pool c.prepare.new.pages running.pages c.in-Err.ensures.same
    (c.prepare.ensures.unclaimed ∙ sym c.requires.can.order.no_page) in
    let clusters = pool_again running.clusters c.clear_places.new.pool c.in_ok-effects-2.field-0
    c.in_ok-effects-2.ensures.claimed.least _ c.in_ok-effects-2.ensures.bits c.clear_places.ensures.bits
    (c.clear_places.ensures.unclaimed ∙ sym c.requires.can.order.no_cluster) in
    ap (λ (q : PoolState). record running { pages = q; clusters = c.clear_places.new.pool }) pages
    ∙ ap (λ (q : PoolState). record running { clusters = q }) clusters
