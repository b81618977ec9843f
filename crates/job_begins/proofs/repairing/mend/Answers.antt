use Rattle.std.proofs.Common.{sym, ap, ◌∙◌, subst, arith, drop, ◌∷◌, Some}
use Rattle.std.specs.Option.{option_map}
use Rattle.md_chain.proofs.Fitting.{some_parts}
use Rattle.store_model.specs.Cases.BeginRepair.{BeginsRepair}
use Rattle.running_store.specs.Jobs.{job_seen}
use Rattle.running_store.specs.Blobs.{blobs_of, CanAllBeKept}
use Rattle.running_store.specs.Running.{view_of}
use Rattle.store_model.specs.StoreState.{JobState, marked}
use Rattle.running_store.specs.StoreView.{state_of}
use Rattle.job_begins.proofs.RepairBegins.{fits_new, given, has_chain, mends, mends_to}
use Rattle.job_begins.proofs.repairing.mend.Goals as goal

pub items_of-requires-clause-xattrs : goal.items_of-requires-clause-xattrs
items_of-requires-clause-xattrs g c =
    (fits_new g.D.PageDisk (view_of c.args.running.now) c.requires.running c.requires.runs
    (ap (λ o. option_map job_seen o) c.requires.no_job) c.args.head c.requires.due c.requires.order.resolves
    c.requires.kept).0

pub items_of-requires-clause-internal : goal.items_of-requires-clause-internal
items_of-requires-clause-internal g c =
    (fits_new g.D.PageDisk (view_of c.args.running.now) c.requires.running c.requires.runs
    (ap (λ o. option_map job_seen o) c.requires.no_job) c.args.head c.requires.due c.requires.order.resolves
    c.requires.kept).1

pub prepare-requires-clause-there : goal.prepare-requires-clause-there
prepare-requires-clause-there g c = λ _. has_chain g.D.PageDisk (view_of c.args.running.now) c.requires.running
    c.requires.runs (ap (λ o. option_map job_seen o) c.requires.no_job) c.args.head c.requires.due
    c.requires.order.resolves c.requires.kept

pub prepare-requires-clause-xattrs : goal.prepare-requires-clause-xattrs
prepare-requires-clause-xattrs g c =
    (fits_new g.D.PageDisk (view_of c.args.running.now) c.requires.running c.requires.runs
    (ap (λ o. option_map job_seen o) c.requires.no_job) c.args.head c.requires.due c.requires.order.resolves
    c.requires.kept).0

pub prepare-requires-clause-internal : goal.prepare-requires-clause-internal
prepare-requires-clause-internal g c =
    (fits_new g.D.PageDisk (view_of c.args.running.now) c.requires.running c.requires.runs
    (ap (λ o. option_map job_seen o) c.requires.no_job) c.args.head c.requires.due c.requires.order.resolves
    c.requires.kept).1

pub returns-then-has-wants-clause-lack : goal.returns-then-has-wants-clause-lack
returns-then-has-wants-clause-lack g c =
    let some = some_parts 4072 c.in_ok-items.items in
    let wants = c.pages_needed-wants.ensures in
    record {
      due = c.requires.due;
      new = c.args.new;
      given = given g.D.PageDisk (view_of c.args.running.now) c.requires.running c.requires.runs
          (ap (λ o. option_map job_seen o) c.requires.no_job) c.args.head c.requires.due c.requires.order.resolves
          c.requires.kept;
      needs = record {
        items = c.in_ok-items.items;
        are = c.in_ok-items.ensures.are;
        chain = omega (arith, some, wants);
      };
      clear = c.clear_count-has.ensures;
      lacking = c.if-has-wants.true;
    }

pub returns-in-Ok-clause-begins : goal.returns-in-Ok-clause-begins
returns-in-Ok-clause-begins g c =
    let d = g.D.PageDisk in
    let p = view_of c.args.running.now in
    subst (λ (j : JobState). BeginsRepair (state_of d p)
    (state_of d (record p { pages = c.prepare.new.pages.bits; job = Some (marked p.clean j) })))
    (sym c.alone.ensures.seen)
    (mends d p c.requires.running c.requires.runs (ap (λ o. option_map job_seen o) c.requires.no_job) c.args.head
    c.requires.due c.requires.order.resolves c.requires.kept c.prepare.new.pages.bits c.in-Ok.prepared
    c.in-Ok.ensures.prepared)

pub alone-requires : goal.alone-requires
alone-requires g c =
    let chain = c.in-Ok.ensures.prepared.taken.laid_on.chain in
    record { headed = chain ∙ ap (λ l. c.args.head ∷ l) (sym (ap (drop 1) chain)) }

pub returns-in-Ok-clause-kept : goal.returns-in-Ok-clause-kept
returns-in-Ok-clause-kept g c =
    let now = c.args.running.now in
    let p = view_of now in
    subst (CanAllBeKept (blobs_of now)) (sym c.alone.ensures.coming) (
      mends_to g.D.PageDisk p c.requires.running c.requires.runs (ap (λ o. option_map job_seen o) c.requires.no_job)
          c.args.head c.requires.due c.requires.order.resolves c.requires.kept c.prepare.new.pages.bits
          c.in-Ok.prepared c.in-Ok.ensures.prepared,
      tt,
    )
