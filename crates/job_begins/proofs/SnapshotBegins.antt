-- The job of a snapshot begins, as the model has it, and can be kept in memory, once its pages are taken.
use Rattle.std.proofs.Common.{ℕ, Bool, List, ◌∷◌, Option, Some, refl, ap, subst}
use Rattle.std.specs.Prelude.{is_some, slice_set}
use Rattle.page_disk.specs.declared.disk.PageDisk.{Ghosts}
use Rattle.io_freeze.specs.Guards.{frozen_at}
use Rattle.shown_volumes.specs.JobLaws.{IsClear}
use Rattle.store_model.specs.Cases.{Begins}
use Rattle.store_model.specs.Rows.{InJob}
use Rattle.store_model.specs.Shown.{fixed_of}
use Rattle.store_model.specs.StoreState.{marked, StoreState}
use Rattle.running_store.specs.Blobs.{Blobs, CanAllBeKept}
use Rattle.running_store.specs.Jobs.{job_seen, to_come}
use Rattle.running_store.specs.Places.{HasPlace}
use Rattle.running_store.specs.Running.{view_of}
use Rattle.running_store.specs.Steps.{Asks}
use Rattle.running_store.specs.StoreView.{rows_of, state_of, StoreView}
use Rattle.running_store.specs.declared.job.RunningJob.{RunningJob}
use Rattle.running_store.specs.declared.job.Serves.TheVariants as whom
use Rattle.running_store.specs.declared.running.Running.{Running}
use Rattle.job_views.specs.Replacing.{blobs_in}
use Rattle.job_begins.specs.JobBegins.{CanBegin}
use Rattle.job_begins.specs.JobSteps.{IsJobOn}
use Rattle.job_begins.specs.ListPlaces.{HasSnapshotPlaces}
use Rattle.job_begins.specs.Snapshots.{AreSnapshotSteps, AsksToSnapshot}
use Rattle.job_begins.specs.declared.asking.SnapshotAsk.{SnapshotAsk}
use Rattle.job_begins.specs.declared.steps.Step.{Step}
use Rattle.job_begins.proofs.SnapshotKnown as before
use Rattle.job_begins.proofs.SnapshotPlaces.{snapshot_all_kept}
use Rattle.job_begins.proofs.SnapshotSteps as its
use Rattle.job_begins.proofs.StepsBegin.{begins_so}
use Rattle.job_begins.proofs.StepsMade.{all_made}

module _ {D : Type 0} {d : Ghosts D} {store : Running D} {channel : ℕ} (can : CanBegin d store channel)
    {x : SnapshotAsk}
    (asks_it : Asks (view_of store) channel (λ command. AsksToSnapshot (state_of d (view_of store)) command x))
    (steps : List Step) (are : AreSnapshotSteps (blobs_in (view_of store)) x steps) (after : List Bool)
    (job : RunningJob)
    (made : IsJobOn (state_of d (view_of store)).chains steps (whom.Command channel (Some x.of)) (view_of store).pages
    after job) where
  abbrev p : StoreView D
  p = view_of store

  abbrev s : StoreState
  s = state_of d p

  abbrev list : List Step
  list = its.list can asks_it steps are

  on : IsJobOn s.chains list (whom.Command channel (Some x.of)) p.pages after job
  on = subst (λ (l : List Step). IsJobOn s.chains l (whom.Command channel (Some x.of)) p.pages after job)
      (its.list_is can asks_it steps are) made

  -- It begins, with its pages taken and the volume frozen,
  pub snapshot_begins_so : Begins s (state_of d (record p {
    rows = slice_set p.rows channel (record (rows_of p.rows channel) { stage = InJob });
    job = Some (marked p.clean (job_seen job));
    guards = frozen_at p.guards x.of;
    pages = after;
  }))
  snapshot_begins_so = begins_so can (its.snapped can asks_it steps are) (its.commit can asks_it steps are)
      (its.asked can asks_it steps are) refl list refl (its.over can asks_it steps are)
      (its.moves can asks_it steps are on.pages) (its.next can asks_it steps are)
      (λ _ _ _ _ _ _ _ _ _ _ _ _. (refl, (refl, (refl, (refl, tt))))) after job on

  -- and can be kept in memory.
  pub snapshot_kept_so : CanAllBeKept (record (blobs_in p) { guards = frozen_at p.guards x.of }) (to_come job)
  snapshot_kept_so =
      let known = before.known can asks_it in
      let e = are.effects in
      let room = its.room can asks_it steps are in
      let b : Blobs = record (blobs_in p) { guards = frozen_at p.guards x.of } in
      let has : HasSnapshotPlaces b x.of x.head (Some room.0) e.mark_room e.live_room e.shown_room = record {
        new = refl;
        chain = subst (λ (o : Option ℕ). HasPlace p.chains x.head o) room.1 e.chain;
        mark = e.mark;
        live = e.live;
        shown = e.shown;
        chained = ap is_some known.chain.1;
        numbered = before.numbered can asks_it;
        few = are.few;
        left = are.left;
      } in
      let clear : IsClear (fixed_of p.super) s.base x.head =
      record { none = known.none; low = its.head_low can asks_it steps are on.pages } in
      all_made s.chains list on.taken (to_come job) on.laid (CanAllBeKept b)
      (λ fresh_1 pages_1 old_1 fresh_2 pages_2 old_2 fresh_3 pages_3 old_3 fresh_4 pages_4 old_4.
      snapshot_all_kept (fixed_of p.super) b x.of x.head known.old known.xattrs can.order.resolves known.rest
      known.there clear (Some room.0) e.mark_room e.live_room e.shown_room has (x.head ∷ fresh_1) (x.head ∷ fresh_2)
      (x.of ∷ fresh_3) (x.head ∷ fresh_4) pages_1 pages_2 pages_3 pages_4 old_1 old_2 old_3 old_4)
