use Rattle.std.proofs.Common.{◌≡◌, ◌<◌, Bool, false, List, [], ◌∷◌, length, Option, Some, None}
use Rattle.std.proofs.Common.{refl, sym, ap, subst, ◌∙◌, arith, drop}
use Rattle.std.specs.Prelude.{is_some, slice_set, IsSome}
use Rattle.std.specs.FinMap as map
use Rattle.std.specs.Option.{option_map}
use Rattle.blob_meta.specs.declared.meta.Meta.{Meta}
use Rattle.blob_meta.specs.Resolving.{mark_of}
use Rattle.store_model.specs.Cases.BeginInsert.{BeginsInsert}
use Rattle.store_model.specs.Inserting.{with_slot}
use Rattle.store_model.specs.Maps.{Metas}
use Rattle.store_model.specs.RunInvariant.{CanBeWritten}
use Rattle.store_model.specs.Rows.{Answered, Decided, InJob, Row}
use Rattle.job_begins.specs.Begins.{no_effects, planned_with, IsPrepared, IsUnprepared}
use Rattle.running_store.specs.Jobs.{job_seen, writing_for, IsHeaded}
use Rattle.running_store.specs.Blobs.{blobs_of, CanAllBeKept, WillBeKept}
use Rattle.running_store.specs.Running.{view_of}
use Rattle.store_model.specs.StoreState.{JobState, marked}
use Rattle.running_store.specs.declared.job.Serves.TheVariants as whom
use Rattle.running_store.specs.Stages.{claim_seen}
use Rattle.running_store.specs.StoreView.{state_of}
use Rattle.running_store.specs.GivingBack.{IsGivenUp}
use Rattle.running_store.proofs.JobLeft.{seen_with_mark}
use Rattle.running_store.proofs.KeptAlone.{kept_unmarked}
use Rattle.running_store.proofs.OrderKept.{job_on, order_kept, room_with}
use Rattle.running_store.proofs.Resolved.{unmarked_base}
use Rattle.running_store.proofs.WorkLogged.{has_work}
use Rattle.job_begins.proofs.PlacesThere.{places_there}
use Rattle.job_begins.proofs.InsertBegun.{begun, posted_with, row_is, unprepared}
use Rattle.job_begins.proofs.InsertReady.{has_chain, steady}
use Rattle.job_begins.proofs.JobPlanned.{all_fit}
use Rattle.job_begins.proofs.inserting.start.Goals as goal

pub prepare-requires-clause-there : goal.prepare-requires-clause-there
prepare-requires-clause-there g c = λ _.
    has_chain (state_of g.D.PageDisk (view_of c.args.running.now)) c.requires.running c.requires.runs c.args.row
    (claim_seen c.args.claim) c.requires.claimed c.requires.fills.0 c.requires.fills.1 c.requires.unmarked

pub prepare-requires-clause-xattrs : goal.prepare-requires-clause-xattrs
prepare-requires-clause-xattrs g c =
    let known = steady (state_of g.D.PageDisk (view_of c.args.running.now)) c.requires.running c.requires.runs
    c.args.row (claim_seen c.args.claim) c.requires.claimed c.requires.fills.0 c.requires.fills.1
    c.requires.unmarked in
    all_fit c.args.new.xattrs (subst (λ (m : Meta). CanBeWritten m.xattrs) (sym c.requires.fills.2) known.stored.xattrs)

pub prepare-requires-clause-internal : goal.prepare-requires-clause-internal
prepare-requires-clause-internal g c =
    let known = steady (state_of g.D.PageDisk (view_of c.args.running.now)) c.requires.running c.requires.runs
    c.args.row (claim_seen c.args.claim) c.requires.claimed c.requires.fills.0 c.requires.fills.1
    c.requires.unmarked in
    all_fit c.args.new.internal
    (subst (λ (m : Meta). CanBeWritten m.internal) (sym c.requires.fills.2) known.stored.internal)

pub returns-in-Ok-clause-case : goal.returns-in-Ok-clause-case
returns-in-Ok-clause-case g c =
    let d = g.D.PageDisk in
    let p = view_of c.args.running.now in
    let s = state_of d p in
    let claim = claim_seen c.args.claim in
    let posted = posted_with d p c.args.row c.requires.posted claim c.requires.claimed in
    let no_job = ap (λ o. option_map job_seen o) c.requires.no_job in
    let x = c.in-Ok.prepared in
    let is : IsPrepared c.args.running.now.chains claim.head c.args.new false
    c.args.running.now.pages.bits c.prepare.new.pages.bits x =
    c.in-Ok.ensures.prepared in
    let row = row_is d p c.args.row posted c.requires.order.seventeen c.requires.fill c.index_mut.result.now
    c.index_mut.ensures.value in
    let begins = begun d p c.args.row posted c.requires.order.seventeen c.requires.fill c.requires.running
    c.requires.runs no_job c.requires.unmarked c.requires.fills.0 c.requires.fills.1 x c.prepare.new.pages.bits
    (subst (λ (m : Meta). IsPrepared c.args.running.now.chains claim.head m false
    c.args.running.now.pages.bits c.prepare.new.pages.bits x) c.requires.fills.2 is)
    c.serve.new.self (c.serve.ensures ∙ ap (λ (r : Row). record r { stage = InJob }) row) in (
      subst (λ (j : JobState). BeginsInsert s (state_of d (record p {
        rows = slice_set p.rows c.args.row c.serve.new.self;
        pages = c.prepare.new.pages.bits;
        job = Some j;
      }))) (ap (λ (m : Meta). marked p.clean (writing_for (whom.Insert c.args.row)
          (planned_with x claim.head m no_effects) x.old 0 [])) (sym c.requires.fills.2)
          ∙ ap (marked p.clean) (sym c.alone-job.ensures.seen)
          ∙ sym (seen_with_mark c.alone-job.result c.alone-job.ensures.unmarked p.clean)
          ∙ ap job_seen (sym c.with_mark.ensures)) begins,
      refl,
    )

pub alone-job-requires : goal.alone-job-requires
alone-job-requires g c =
    let chain = c.in-Ok.ensures.prepared.taken.laid_on.chain in
    record { headed = chain ∙ ap (λ l. (claim_seen c.args.claim).head ∷ l) (sym (ap (drop 1) chain)) }

pub returns-in-Ok-clause-order : goal.returns-in-Ok-clause-order
returns-in-Ok-clause-order g c =
    let p = view_of c.args.running.now in
    let claim = claim_seen c.args.claim in
    let now = c.args.running.now in
    let known = steady (state_of g.D.PageDisk p) c.requires.running c.requires.runs c.args.row claim
    c.requires.claimed c.requires.fills.0 c.requires.fills.1 c.requires.unmarked in
    let unmarked = subst (λ (m : Meta). mark_of m ≡ None) (sym c.requires.fills.2) known.unmarked in
    let there : IsSome (map.get now.metas claim.head) = subst (λ (m : Metas). IsSome (m claim.head))
    (unmarked_base now.metas now.marked c.requires.order.resolves c.requires.unmarked)
    (subst (λ (o : Option Meta). IsSome o) (sym c.requires.fills.1.there) refl) in
    let chain : IsSome (map.get now.chains claim.head) = ap is_some (has_chain (state_of g.D.PageDisk p)
    c.requires.running c.requires.runs c.args.row claim c.requires.claimed c.requires.fills.0 c.requires.fills.1
    c.requires.unmarked).1 in
    let kept = subst (WillBeKept (blobs_of now)) (sym c.with_mark.ensures)
    (subst (CanAllBeKept (blobs_of now)) (sym c.alone-job.ensures.coming) (
      kept_unmarked (blobs_of now) (planned_with c.in-Ok.prepared claim.head c.args.new no_effects)
          c.requires.order.resolves c.requires.unmarked unmarked refl
          (places_there (blobs_of now) claim.head c.args.new unmarked chain there),
      tt,
    )) in
    let low : c.args.row < length p.rows = omega (arith, c.requires.row, c.requires.order.seventeen) in
    let order = c.requires.order in
    order_kept g.D.PageDisk now order refl refl (room_with g.D.PageDisk now order c.args.row c.serve.new.self
    c.index_mut.result.now low (ap (λ (r : Row). length r.left) (sym c.index_mut.ensures.value)
    ∙ sym (ap (λ (r : Row). length r.left) c.serve.ensures))) c.prepare.ensures.unclaimed order.no_cluster
    (job_on g.D.PageDisk now order (subst IsHeaded (sym c.with_mark.ensures) c.alone-job.ensures.headed) kept)

pub returns-in-Err-clause-case : goal.returns-in-Err-clause-case
returns-in-Err-clause-case g c =
    let d = g.D.PageDisk in
    let p = view_of c.args.running.now in
    let s = state_of d p in
    let claim = claim_seen c.args.claim in
    let posted = posted_with d p c.args.row c.requires.posted claim c.requires.claimed in
    let no_job = ap (λ o. option_map job_seen o) c.requires.no_job in
    let there = is_some (map.get c.args.running.now.chains claim.head) in
    let chain = has_chain s c.requires.running c.requires.runs c.args.row claim c.requires.claimed
    c.requires.fills.0 c.requires.fills.1 c.requires.unmarked in
    let q = view_of c.give_up.new.running in
    unprepared d p c.args.row posted c.requires.order.seventeen c.requires.fill c.requires.runs no_job
    c.requires.fills.0 c.requires.fills.1 q c.in-Err.reply
    (subst (λ (b : Bool). IsUnprepared false b (with_slot c.requires.fills.0 claim.slot claim.cluster) p.pages
    c.in-Err.reply) (ap is_some chain.1)
    (subst (λ (m : Meta). IsUnprepared false there m p.pages c.in-Err.reply) c.requires.fills.2 c.in-Err.ensures.lack))
    (subst (λ (bits : List Bool). IsGivenUp (record p { pages = bits }) q c.args.row (Decided Answered) c.in-Err.reply
    (d.clock q.disk)) c.in-Err.ensures.same c.give_up.ensures.logged)

pub give_up-requires-clause-works : goal.give_up-requires-clause-works
give_up-requires-clause-works g c =
    has_work g.D.PageDisk (view_of c.args.running.now) c.requires.order.seventeen c.requires.fill c.args.row
    c.requires.posted.holds.works
