-- The job of replacements that are laid begins, as the model has it, whatever the job.
use Rattle.std.proofs.Common.{◌≡◌, ◌∙◌, ℕ, Bool, true, false, List, [], ◌∷◌, map, None, Option, Some, refl, sym, ap, subst}
use Rattle.std.specs.Prelude.{is_some, slice_set}
use Rattle.super_block.specs.Placed.{IsPlaced}
use Rattle.page_disk.specs.declared.disk.PageDisk.{Ghosts}
use Rattle.blob_meta.specs.declared.job.Job.{Job}
use Rattle.blob_meta.specs.declared.job.Replacement.{Replacement}
use Rattle.store_model.specs.Asking.{IsJobFor}
use Rattle.store_model.specs.Cases.{Begins}
use Rattle.store_model.specs.Jobs.{AreLaid}
use Rattle.store_model.specs.Phases.{Committing}
use Rattle.store_model.specs.Places.{all_set, held_by, UsedPages}
use Rattle.store_model.specs.RunInvariant.{RunsWell}
use Rattle.store_model.specs.StoreState.{marked, JobState, StoreState}
use Rattle.store_model.proofs.Sets.{among_first}
use Rattle.running_store.specs.Jobs.{job_seen, phases_in, to_come}
use Rattle.running_store.specs.Running.{view_of}
use Rattle.running_store.specs.StoreView.{rows_of, state_of, StoreView}
use Rattle.running_store.specs.declared.job.RunningJob.{RunningJob}
use Rattle.running_store.specs.declared.job.Serves.TheVariants as whom
use Rattle.running_store.specs.declared.running.Running.{Running}
use Rattle.store_model.specs.Rows.{InJob}
use Rattle.job_begins.specs.JobBegins.{CanBegin}
use Rattle.job_begins.specs.JobSteps.{change_of, IsJobOn, MakesNext}
use Rattle.job_begins.specs.declared.steps.Step.{Step}
use Rattle.job_begins.proofs.BeginKnown.{has_row, no_job}
use Rattle.job_begins.proofs.ListBegins.{replacings, CommitsAt}
use Rattle.job_begins.proofs.ListBegun.{begins_list, frozen_with}
use Rattle.job_begins.proofs.StepsLaid.{list_laid, AllMove, AreChainedOn, AreLaidWell}
use Rattle.job_begins.proofs.StepsMade.{all_made, seen_as, ForAllMade}
use Rattle.job_begins.proofs.StepsOver.{AreOver}

module _ {D : Type 0} {d : Ghosts D} {store : Running D} {channel : ℕ} (can : CanBegin d store channel) where
  abbrev p : StoreView D
  p = view_of store

  abbrev s : StoreState
  s = state_of d p

  well : RunsWell can.running.first s
  well = can.running.facts.well can.runs

  pub placed : IsPlaced p.super
  placed = subst IsPlaced (sym can.running.facts.super) can.running.placed

  pub used : UsedPages p.super.md_len p.pages s.chains []
  used = subst (UsedPages p.super.md_len p.pages s.chains) (ap held_by (no_job can)) well.pages

  some_of : {X : Type 0} (o : Option X) → is_some o ≡ true → (x : X) × (o ≡ Some x)
  some_of None some = absurd (cc some)
  some_of (Some x) some = (x, refl)

  none_of : {X : Type 0} (o : Option X) → is_some o ≡ false → o ≡ None
  none_of None none = refl
  none_of (Some x) none = absurd (cc none)

  -- exactly the blobs that are there have chains
  pub chained_on : AreChainedOn p.super placed s.base s.chains p.pages
  chained_on = record {
    long = used.count;
    there = λ h some. let there = some_of (s.base h) some in well.chains.chain h there.0 there.1;
    none = λ h none. well.chains.none h (none_of (s.base h) none);
    used = λ h some.
        let there = some_of (s.base h) some in
        let chain = well.chains.chain h there.0 there.1 in
        used.linked h (record {
          head = h;
          pages = h ∷ chain.0;
          chain = chain.1;
          among = among_first h chain.0;
        });
  }

  module _ (job : Job) (commit : Committing) (asked : IsJobFor s can.posted.waits.command job commit)
      (no_zeros : job.zero ≡ []) (list : List Step) (list_is : job.list ≡ map change_of list)
      (over : AreOver s.base list) (moves : AllMove p.super placed s.base [] list) (next : MakesNext p.pages list)
      (commits : ForAllMade list (CommitsAt job.commit commit)) (after : List Bool) (begun : RunningJob)
      (on : IsJobOn s.chains list (whom.Command channel job.freeze) p.pages after begun) where
    well_laid : AreLaidWell p.super placed s.base s.chains p.pages [] list on.taken (to_come begun)
    well_laid = list_laid p.super placed s.base s.chains p.pages chained_on [] list over moves next on.taken
        on.pages.least on.pages.long (to_come begun) on.laid

    -- It begins, with its pages taken and the blob frozen.
    pub begins_so : Begins s (state_of d (record p {
      rows = slice_set p.rows channel (record (rows_of p.rows channel) { stage = InJob });
      job = Some (marked p.clean (job_seen begun));
      guards = record p.guards { frozen = frozen_with p.guards.frozen job.freeze };
      pages = after;
    }))
    begins_so = subst (λ (j : JobState). Begins s (state_of d (record p {
      rows = slice_set p.rows channel (record (rows_of p.rows channel) { stage = InJob });
      job = Some (marked p.clean j);
      guards = record p.guards { frozen = frozen_with p.guards.frozen job.freeze };
      pages = after;
    })))
        (sym (seen_as (whom.Command channel job.freeze) (phases_in (to_come begun)) (job_seen begun) on.seen))
        (begins_list d p channel can.posted can.unmarked can.runs (no_job can) job commit asked no_zeros
        (to_come begun)
        (all_made s.chains list on.taken (to_come begun) on.laid (CommitsAt job.commit commit) commits)
        (subst (λ (l : List Replacement). AreLaid p.super s.base s.chains p.pages [] l (replacings (to_come begun)))
        (sym list_is) well_laid.laid) after
        (on.pages.set ∙ ap (λ l. all_set p.pages l true) (sym well_laid.takes)) can.unfilled (has_row can))
