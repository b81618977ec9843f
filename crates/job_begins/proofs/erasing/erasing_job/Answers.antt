use Rattle.std.proofs.Common.{◌≡◌, ◌<◌, ℕ, List, ◌∷◌, None, Some, length, sym, ap, ◌∙◌, subst, arith}
use Rattle.std.specs.Prelude.{is_some, option_copied, slice_set}
use Rattle.std.specs.Option.{option_map}
use Rattle.store_model.specs.StoreState.{marked}
use Rattle.store_model.specs.Cases.{Begins}
use Rattle.store_model.specs.Rows.{InJob, Row}
use Rattle.running_store.specs.Blobs.{blobs_of, CanAllBeKept}
use Rattle.running_store.specs.Jobs.{erases_laid, job_seen, phases_in, removing_for}
use Rattle.running_store.specs.Running.{view_of}
use Rattle.running_store.specs.StoreView.{base_of, rows_of, state_of}
use Rattle.running_store.specs.declared.job.Serves.TheVariants as whom
use Rattle.running_store.specs.declared.replacements.LaidReplacement.{LaidReplacement}
use Rattle.job_begins.proofs.EraseBegins.{begins_erasing, blob_there, chain_there, erasing, keeps_erasing}
use Rattle.job_begins.proofs.RepairBegins.{chained, room, room_for}
use Rattle.job_begins.proofs.erasing.erasing_job.Goals as goal

pub places_behind-requires : goal.places_behind-requires
places_behind-requires g c = λ _.
    let waits = c.requires.can.posted.waits in
    let x = c.requires.asks waits.command waits.rest (ap (λ (r : Row). r.left) waits.row) in
    chain_there g.D.PageDisk (view_of c.args.running.now) c.args.channel c.requires.can.posted c.requires.can.running
    c.requires.can.unmarked c.requires.can.runs (ap (λ o. option_map job_seen o) c.requires.can.no_job) c.args.head
    x.commit
    x.asked

pub clusters_beside-requires-clause-room : goal.clusters_beside-requires-clause-room
clusters_beside-requires-clause-room g c =
    room g.D.PageDisk (view_of c.args.running.now) c.requires.can.running c.requires.can.runs

pub clusters_beside-requires-clause-chained : goal.clusters_beside-requires-clause-chained
clusters_beside-requires-clause-chained g c =
    chained g.D.PageDisk (view_of c.args.running.now) c.requires.can.running c.requires.can.runs

pub missing-requires : goal.missing-requires
missing-requires g c =
    room_for g.D.PageDisk (view_of c.args.running.now) c.requires.can.running c.requires.can.runs c.args.head
    c.in-Some.meta.now (sym c.base_at.ensures ∙ ap option_copied c.in-Some.is) _ c.in_ok-beside.ensures.count

pub unreachable-requires : goal.unreachable-requires
unreachable-requires g c =
    let waits = c.requires.can.posted.waits in
    let x = c.requires.asks waits.command waits.rest (ap (λ (r : Row). r.left) waits.row) in
    let there = blob_there g.D.PageDisk (view_of c.args.running.now) c.args.channel c.requires.can.posted
    c.requires.can.running c.requires.can.unmarked c.requires.can.runs (ap (λ o. option_map job_seen o)
    c.requires.can.no_job)
    c.args.head x.commit x.asked in
    let bad = sym (ap option_copied c.in_default.is) ∙ c.base_at.ensures ∙ there.1 in
    cc bad

pub returns-clause-begins : goal.returns-clause-begins
returns-clause-begins g c =
    let d = g.D.PageDisk in
    let p = view_of c.args.running.now in
    let waits = c.requires.can.posted.waits in
    let x = c.requires.asks waits.command waits.rest (ap (λ (r : Row). r.left) waits.row) in
    let no_job = ap (λ o. option_map job_seen o) c.requires.can.no_job in
    let low : c.args.channel < length p.rows = omega (arith, c.requires.can.within, c.requires.can.order.seventeen) in
    let at : base_of p.metas p.marked c.args.head ≡ Some c.in-Some.meta.now =
    sym c.base_at.ensures ∙ ap option_copied c.in-Some.is in
    let chain = chain_there d p c.args.channel c.requires.can.posted c.requires.can.running c.requires.can.unmarked
    c.requires.can.runs no_job c.args.head x.commit x.asked in
    subst (λ (l : List ℕ). Begins (state_of d p) (state_of d (record p {
      rows = slice_set p.rows c.args.channel (record (rows_of p.rows c.args.channel) { stage = InJob });
      job = Some (marked p.clean (removing_for (whom.Command c.args.channel None) (record {
        head = c.args.head;
        commit = Some (record {
          made = None;
          live = Some (record { head = c.args.head; value = None; room = None });
          renews = l;
          shows = None;
        });
        freed = c.in_ok-freed.freed;
      }) c.in_ok-old.old (phases_in c.new-2.result.items)));
    }))) (sym c.new.ensures)
    (subst (λ (l : List LaidReplacement). Begins (state_of d p) (state_of d (record p {
      rows = slice_set p.rows c.args.channel (record (rows_of p.rows c.args.channel) { stage = InJob });
      job = Some
          (marked p.clean (removing_for (whom.Command c.args.channel None) (erasing c.args.head c.in_ok-freed.freed)
          c.in_ok-old.old (phases_in l)));
    }))) (sym c.new-2.ensures.items)
    (begins_erasing d p c.args.channel c.requires.can.posted c.requires.can.running c.requires.can.unmarked
    c.requires.can.runs no_job
    c.args.head x.commit x.asked c.requires.can.unfilled low c.in-Some.meta.now at c.in_ok-beside.beside
    c.in_ok-beside.ensures.are c.in_ok-freed.freed c.in_ok-freed.ensures.are
    c.in_ok-old.old (c.in_ok-old.ensures.there (ap is_some chain.1))))

pub returns-clause-kept : goal.returns-clause-kept
returns-clause-kept g c =
    let now = c.args.running.now in
    let p = view_of now in
    let waits = c.requires.can.posted.waits in
    let x = c.requires.asks waits.command waits.rest (ap (λ (r : Row). r.left) waits.row) in
    subst (λ (l : List ℕ). CanAllBeKept (blobs_of now) (erases_laid (record {
      head = c.args.head;
      commit = Some (record {
        made = None;
        live = Some (record { head = c.args.head; value = None; room = None });
        renews = l;
        shows = None;
      });
      freed = c.in_ok-freed.freed;
    }) c.in_ok-old.old ∷ c.new-2.result.items)) (sym c.new.ensures)
    (subst (λ (l : List LaidReplacement). CanAllBeKept (blobs_of now)
    (erases_laid (erasing c.args.head c.in_ok-freed.freed) c.in_ok-old.old ∷ l)) (sym c.new-2.ensures.items) (
      keeps_erasing g.D.PageDisk p c.args.channel c.requires.can.posted c.requires.can.running c.requires.can.unmarked
          c.requires.can.runs (ap (λ o. option_map job_seen o) c.requires.can.no_job) c.args.head x.commit x.asked
          c.requires.can.order.resolves c.in_ok-freed.freed,
      tt,
    ))
