use Rattle.std.proofs.Common.{◌≡◌, List, Some, ap, subst}
use Rattle.std.specs.Option.{option_map}
use Rattle.store_model.specs.Cases as kind
use Rattle.store_model.specs.Rows.{Row}
use Rattle.running_store.specs.Jobs.{job_seen}
use Rattle.running_store.specs.Running.{view_of}
use Rattle.running_store.specs.Stages.{claim_seen}
use Rattle.running_store.specs.StoreView.{rows_of, state_of}
use Rattle.running_store.proofs.Resolved.{unmarked_base}
use Rattle.running_store.proofs.WorkLogged.{has_work}
use Rattle.job_begins.proofs.InsertBegun.{lacks_memory, lost, posted_with}
use Rattle.job_begins.proofs.InsertReady.{some_cluster}
use Rattle.job_begins.proofs.inserting.begin_insert.Goals as goal

pub filled-requires-clause-same : goal.filled-requires-clause-same
filled-requires-clause-same g c = unmarked_base c.args.running.now.metas c.args.running.now.marked
    c.requires.order.resolves c.requires.unmarked

pub filled-requires-clause-cluster : goal.filled-requires-clause-cluster
filled-requires-clause-cluster g c = some_cluster (state_of g.D.PageDisk (view_of c.args.running.now))
    c.requires.running
    c.requires.runs c.args.row (claim_seen c.claim_of-claim.result)
    (subst (λ (rows : List Row). (rows_of rows c.args.row).claim ≡ Some (claim_seen c.claim_of-claim.result))
    c.as_slice.ensures.value c.claim_of-claim.ensures)

pub give_up-requires-clause-works : goal.give_up-requires-clause-works
give_up-requires-clause-works g c =
    has_work g.D.PageDisk (view_of c.args.running.now) c.requires.order.seventeen c.requires.fill c.args.row
    c.requires.posted.holds.works

pub returns-in-None-clause-case : goal.returns-in-None-clause-case
returns-in-None-clause-case g c =
    let p = view_of c.args.running.now in
    let claim = claim_seen c.claim_of-claim.result in
    let claimed = subst (λ (rows : List Row). (rows_of rows c.args.row).claim ≡ Some claim)
    c.as_slice.ensures.value c.claim_of-claim.ensures in
    lost g.D.PageDisk p c.args.row (posted_with g.D.PageDisk p c.args.row c.requires.posted claim claimed)
    c.requires.order.seventeen c.requires.fill c.requires.runs (ap (λ o. option_map job_seen o) c.requires.no_job)
    c.in-None.ensures.lost (view_of c.give_back.new.running) c.give_back.ensures.given_back

pub returns-in-Some-Err-clause-case : goal.returns-in-Some-Err-clause-case
returns-in-Some-Err-clause-case g c =
    let p = view_of c.args.running.now in
    let claim = claim_seen c.claim_of-claim.result in
    let claimed = subst (λ (rows : List Row). (rows_of rows c.args.row).claim ≡ Some claim)
    c.as_slice.ensures.value c.claim_of-claim.ensures in
    let fills = c.in-Some-Err.ensures.fills in
    record {
      kind = kind.lacks_memory_for_insert;
      is = tt;
      made = lacks_memory g.D.PageDisk p c.args.row
          (posted_with g.D.PageDisk p c.args.row c.requires.posted claim claimed) c.requires.order.seventeen
          c.requires.fill c.requires.runs (ap (λ o. option_map job_seen o) c.requires.no_job) fills.meta fills.can
          (view_of c.give_up.new.running) c.give_up.ensures.logged;
    }
