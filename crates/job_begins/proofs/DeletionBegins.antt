-- The job of a delete, of a blob with one clone, begins, as the model has it, and can be kept in memory, once its pages
-- are taken.
use Rattle.std.proofs.Common.{◌∙◌, ℕ, Bool, List, ◌∷◌, length, None, refl, ap, subst}
use Rattle.std.specs.Prelude.{is_some}
use Rattle.page_disk.specs.declared.disk.PageDisk.{Ghosts}
use Rattle.store_model.specs.Cases.{Begins}
use Rattle.store_model.specs.RunInvariant.{RunsWell}
use Rattle.store_model.specs.Shown.{fixed_of}
use Rattle.store_model.specs.StoreState.{StoreState}
use Rattle.running_store.specs.Blobs.{CanAllBeKept}
use Rattle.running_store.specs.Jobs.{to_come}
use Rattle.running_store.specs.Running.{view_of}
use Rattle.running_store.specs.Steps.{Asks}
use Rattle.running_store.specs.StoreView.{state_of, StoreView}
use Rattle.running_store.specs.declared.job.RunningJob.{RunningJob}
use Rattle.running_store.specs.declared.job.Serves.TheVariants as whom
use Rattle.running_store.specs.declared.running.Running.{Running}
use Rattle.job_views.specs.Replacing.{blobs_in}
use Rattle.job_begins.specs.Begins.{with_begun}
use Rattle.job_begins.specs.Deletions.{AreDeletionSteps, AsksToDelete}
use Rattle.job_begins.specs.JobBegins.{CanBegin}
use Rattle.job_begins.specs.JobSteps.{IsJobOn}
use Rattle.job_begins.specs.ListPlaces.{HasDeletePlaces}
use Rattle.job_begins.specs.declared.asking.DeletionAsk.{DeletionAsk}
use Rattle.job_begins.specs.declared.steps.Step.{Step}
use Rattle.job_begins.proofs.DeletePlaces.{delete_all_kept}
use Rattle.job_begins.proofs.DeletionAsked.{chain_of, chain_of_clone, rest, unlocked, IsDeletion}
use Rattle.job_begins.proofs.DeletionSteps as its
use Rattle.job_begins.proofs.StepsBegin.{begins_so}
use Rattle.job_begins.proofs.StepsMade.{all_made}

module _ {D : Type 0} {d : Ghosts D} {store : Running D} {channel : ℕ} (can : CanBegin d store channel)
    {x : DeletionAsk}
    (asks_it : Asks (view_of store) channel (λ command. AsksToDelete (state_of d (view_of store)) command x))
    (steps : List Step)
    (are : AreDeletionSteps (view_of store).super.md_len (blobs_in (view_of store)) (length (view_of store).clusters) x
    steps)
    (after : List Bool) (job : RunningJob)
    (made : IsJobOn (state_of d (view_of store)).chains steps (whom.Command channel None) (view_of store).pages after
    job) where
  abbrev p : StoreView D
  p = view_of store

  abbrev s : StoreState
  s = state_of d p

  abbrev list : List Step
  list = its.list can asks_it steps are

  on : IsJobOn s.chains list (whom.Command channel None) p.pages after job
  on = subst (λ (l : List Step). IsJobOn s.chains l (whom.Command channel None) p.pages after job)
      (its.list_is can asks_it steps are) made

  abbrev it : IsDeletion s can.posted.waits.command x
  it = its.it can asks_it

  -- It begins, with its pages taken,
  pub begins_deletion : Begins s (state_of d (with_begun (record p { pages = after }) channel job))
  begins_deletion = begins_so can (its.deleted can asks_it) (its.commit can asks_it) it.asked refl list refl
      (its.over can asks_it steps are) (its.moves can asks_it steps are) (its.next can asks_it steps are)
      (λ _ _ _ _ _ _ _. (refl, (refl, (refl, tt)))) after job on

  well : RunsWell can.running.first s
  well = can.running.facts.well can.runs

  -- and can be kept in memory.
  pub keeps_deletion : CanAllBeKept (blobs_in p) (to_come job)
  keeps_deletion =
      let mark_room = are.effects.mark_room in
      let has : HasDeletePlaces (blobs_in p) x.of x.clone mark_room = record {
        mark = are.effects.mark;
        chained = ap is_some (chain_of can.running can.unmarked can.runs it).1;
        chained_too = ap is_some (chain_of_clone can.running can.unmarked can.runs it).1;
        numbered = well.generations.each x.clone ∙ ap is_some it.there_too;
        left = are.left;
      } in
      all_made s.chains list on.taken (to_come job) on.laid (CanAllBeKept (blobs_in p))
      (λ fresh_1 pages_1 old_1 fresh_2 pages_2 old_2 old_3.
      delete_all_kept (fixed_of s.super) (blobs_in p) x.of x.clone it.old it.heir can.order.resolves
      (rest can.running can.unmarked can.runs it) it.there it.there_too it.one
      (unlocked can.running can.unmarked can.runs it) mark_room has (x.of ∷ fresh_1) (x.clone ∷ fresh_2)
      pages_1 pages_2 are.gone old_1 old_2 old_3)
