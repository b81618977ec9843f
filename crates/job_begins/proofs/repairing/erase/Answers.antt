use Rattle.std.proofs.Common.{◌≡◌, List, ◌∷◌, None, Some, sym, ap, ◌∙◌, subst}
use Rattle.std.specs.Prelude.{is_some, option_copied}
use Rattle.std.specs.Option.{option_map}
use Rattle.store_model.specs.StoreState.{marked}
use Rattle.store_model.specs.Cases.BeginRepair.{BeginsRepair}
use Rattle.running_store.specs.Jobs.{erases_laid, job_seen, phases_in, removing_for}
use Rattle.running_store.specs.Blobs.{blobs_of, CanAllBeKept}
use Rattle.running_store.specs.Running.{view_of}
use Rattle.running_store.specs.StoreView.{base_of, state_of}
use Rattle.running_store.specs.declared.job.Serves.TheVariants as whom
use Rattle.running_store.specs.declared.replacements.LaidReplacement.{LaidReplacement}
use Rattle.job_begins.proofs.RepairBegins.{chain_there, chained, removes, removes_to, room, room_for, some_there}
use Rattle.job_begins.proofs.repairing.erase.Goals as goal

pub places_behind-requires : goal.places_behind-requires
places_behind-requires g c = λ _.
    let p = view_of c.args.running.now in
    let m = some_there (base_of p.metas p.marked c.args.head) c.requires.there in
    chain_there g.D.PageDisk p c.requires.running c.requires.runs (ap (λ o. option_map job_seen o) c.requires.no_job)
    c.args.head c.requires.due c.requires.order.resolves c.requires.removed m.0 m.1

pub clusters_beside-requires-clause-room : goal.clusters_beside-requires-clause-room
clusters_beside-requires-clause-room g c =
    room g.D.PageDisk (view_of c.args.running.now) c.requires.running c.requires.runs

pub clusters_beside-requires-clause-chained : goal.clusters_beside-requires-clause-chained
clusters_beside-requires-clause-chained g c =
    chained g.D.PageDisk (view_of c.args.running.now) c.requires.running c.requires.runs

pub missing-requires : goal.missing-requires
missing-requires g c =
    room_for g.D.PageDisk (view_of c.args.running.now) c.requires.running c.requires.runs c.args.head
    c.in-Some.meta.now (sym c.base_at.ensures ∙ ap option_copied c.in-Some.is) _ c.in_ok-beside.ensures.count

pub returns-clause-begins : goal.returns-clause-begins
returns-clause-begins g c =
    let p = view_of c.args.running.now in
    let at : base_of p.metas p.marked c.args.head ≡ Some c.in-Some.meta.now =
    sym c.base_at.ensures ∙ ap option_copied c.in-Some.is in
    let no_job = ap (λ o. option_map job_seen o) c.requires.no_job in
    let chain = chain_there g.D.PageDisk p c.requires.running c.requires.runs no_job c.args.head c.requires.due
    c.requires.order.resolves c.requires.removed c.in-Some.meta.now at in
    subst (λ (l : List LaidReplacement). BeginsRepair (state_of g.D.PageDisk p) (state_of g.D.PageDisk (record p {
      job = Some (marked p.clean
          (removing_for whom.Repair (record { head = c.args.head; commit = None; freed = c.in_ok-freed.freed })
          c.in_ok-old.old (phases_in l)));
    }))) (sym c.new.ensures.items)
    (removes g.D.PageDisk p c.requires.running c.requires.runs no_job c.args.head c.requires.due
    c.requires.order.resolves c.requires.removed c.in-Some.meta.now at c.in_ok-beside.beside
    c.in_ok-beside.ensures.are c.in_ok-freed.freed c.in_ok-freed.ensures.are c.in_ok-old.old
    (c.in_ok-old.ensures.there (ap is_some chain.1)))

pub returns-clause-kept : goal.returns-clause-kept
returns-clause-kept g c =
    let now = c.args.running.now in
    let p = view_of now in
    let at : base_of p.metas p.marked c.args.head ≡ Some c.in-Some.meta.now =
    sym c.base_at.ensures ∙ ap option_copied c.in-Some.is in
    subst (λ (l : List LaidReplacement). CanAllBeKept (blobs_of now)
    (erases_laid (record { head = c.args.head; commit = None; freed = c.in_ok-freed.freed }) c.in_ok-old.old ∷ l))
    (sym c.new.ensures.items) (
      removes_to g.D.PageDisk p c.requires.running c.requires.runs (ap (λ o. option_map job_seen o) c.requires.no_job)
          c.args.head c.requires.due c.requires.order.resolves c.requires.removed c.in-Some.meta.now at
          c.in_ok-freed.freed,
      tt,
    )
