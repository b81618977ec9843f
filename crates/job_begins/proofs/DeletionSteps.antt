-- The replacements of a delete's job, of a blob with one clone, of which drafts are made: what is known of them.
use Rattle.std.proofs.Common.{◌≡◌, ◌∙◌, ℕ, ◌<◌, true, List, [], ◌∷◌, length, None, Some, refl}
use Rattle.std.proofs.Common.{sym, ap, subst, ◌↔◌}
use Rattle.std.specs.Prelude.{is_some}
use Rattle.std.specs.List.{AllByRecursion}
use Rattle.page_disk.specs.declared.disk.PageDisk.{Ghosts}
use Rattle.volume_model.specs.declared.command.Command.{Command}
use Rattle.volume_model.specs.declared.reply.Reply.{Reply}
use Rattle.volume_model.specs.declared.reply.Reply.TheVariants as r
use Rattle.blob_meta.specs.Faults.{clusters_held}
use Rattle.blob_meta.specs.declared.job.Job.{Job}
use Rattle.blob_meta.specs.declared.meta.Meta.{Meta}
use Rattle.md_chain.specs.Chain.{is_among}
use Rattle.inflate_delete.specs.DeleteJobs.{delete_job, going_blob, heir_of}
use Rattle.store_model.specs.Cases.{IsRefusedAtBegin}
use Rattle.store_model.specs.Maps.{with_option, Metas}
use Rattle.store_model.specs.Phases.{Committing}
use Rattle.store_model.specs.Places.{all_set}
use Rattle.store_model.specs.RunInvariant.{RunsWell}
use Rattle.store_model.specs.Shown.{fixed_of}
use Rattle.store_model.specs.Steady.{IsStored}
use Rattle.store_model.specs.StoreState.{shown, StoreState}
use Rattle.store_model.proofs.ChangedLive.{deleted_commit}
use Rattle.store_model.proofs.Sets.{among_first, AllBelow}
use Rattle.store_model.proofs.WithEntry.{option_elsewhere, option_here}
use Rattle.running_store.specs.Running.{view_of}
use Rattle.running_store.specs.Steps.{Asks}
use Rattle.running_store.specs.StoreView.{state_of, StoreView}
use Rattle.running_store.specs.declared.effects.Effects.{Effects}
use Rattle.running_store.specs.declared.job.Serves.TheVariants as whom
use Rattle.running_store.specs.declared.replacements.Erasure.{Erasure}
use Rattle.running_store.specs.declared.running.Running.{Running}
use Rattle.job_views.specs.Replacing.{blobs_in}
use Rattle.job_begins.specs.Alone.{IsMissing}
use Rattle.job_begins.specs.Begins.{no_effects}
use Rattle.job_begins.specs.Deletions.{AreDeletionDrafts, AreDeletionEffects, AreDeletionSteps, AsksToDelete}
use Rattle.job_begins.specs.Drafts.{IsDraft}
use Rattle.job_begins.specs.JobBegins.{CanBegin}
use Rattle.job_begins.specs.JobPages.{IsShort}
use Rattle.job_begins.specs.JobSteps.{needs_together, IsStepFor, MakesNext}
use Rattle.job_begins.specs.ListJobs.{delete_commit, effects_in}
use Rattle.job_begins.specs.declared.asking.DeletionAsk.{DeletionAsk}
use Rattle.job_begins.specs.declared.drafts.Draft.{Draft}
use Rattle.job_begins.specs.declared.steps.Step.{Step}
use Rattle.job_begins.specs.declared.steps.Step.TheVariants as step
use Rattle.job_begins.proofs.BeginKnown.{no_job}
use Rattle.job_begins.proofs.DeletionAsked.{apart, going_stored, is_deletion, taken_stored, taking_low, taking_stored}
use Rattle.job_begins.proofs.DeletionAsked.{IsDeletion}
use Rattle.job_begins.proofs.Lacking.{may_lack}
use Rattle.job_begins.proofs.ListMoves.{erases_moves, marks_moves, takes_moves}
use Rattle.job_begins.proofs.ListParts.{draft_as, draft_of}
use Rattle.job_begins.proofs.StepsBegin.{placed}
use Rattle.job_begins.proofs.StepsLaid.{AllMove}
use Rattle.job_begins.proofs.StepsOver.{stays, steps_short, AreOver}

module _ {D : Type 0} {d : Ghosts D} {store : Running D} {channel : ℕ} (can : CanBegin d store channel)
    {x : DeletionAsk}
    (asks_it : Asks (view_of store) channel (λ command. AsksToDelete (state_of d (view_of store)) command x)) where
  abbrev p : StoreView D
  p = view_of store

  abbrev s : StoreState
  s = state_of d p

  abbrev command : Command
  command = can.posted.waits.command

  -- what the posted command asks for
  pub it : IsDeletion s command x
  it = is_deletion s command x (asks_it command can.posted.waits.rest (ap (λ r. r.left) can.posted.waits.row))

  abbrev pub deleted : Job
  deleted = delete_job x.of it.old x.clone it.heir

  abbrev pub commit : Committing
  commit = deleted_commit x.of (x.clone ∷ [])

  abbrev going : Meta
  going = going_blob it.old x.clone

  abbrev taking : Meta
  taking = heir_of it.heir it.old

  apart_from : x.clone ≡ x.of → ⊥
  apart_from = apart can.running can.unmarked can.runs it

  -- memory may run out
  pub lacks_memory : IsRefusedAtBegin s command r.Memory
  lacks_memory = may_lack (fixed_of s.super) (shown s) s command deleted commit it.asked

  module _ (steps : List Step)
      (are : AreDeletionSteps (view_of store).super.md_len (blobs_in (view_of store)) (length (view_of store).clusters) x
      steps) where
    abbrev drafts : AreDeletionDrafts x are.begin are.commit are.gone steps
    drafts = are.drafts

    abbrev does : AreDeletionEffects p.super.md_len (blobs_in p) (length p.clusters) x are.begin are.commit are.gone
    does = are.effects

    -- ---- the replacements

    abbrev begin_effects : Effects
    begin_effects = effects_in None does.mark_room

    abbrev commit_effects : Effects
    commit_effects = record no_effects { commit = Some (delete_commit x.of it.old x.clone) }

    abbrev first : Draft
    first = draft_of x.of going begin_effects drafts.going.items

    abbrev second : Draft
    second = draft_of x.clone taking commit_effects drafts.taking.items

    abbrev third : Erasure
    third = record { head = x.of; commit = None; freed = are.gone }

    first_is : drafts.going ≡ first
    first_is =
        draft_as x.of x.going going are.begin begin_effects drafts.going drafts.going_of it.going_is does.begin_is

    second_is : drafts.taking ≡ second
    second_is = draft_as x.clone x.taking taking are.commit commit_effects drafts.taking drafts.taking_of it.taking_is
        does.commit_is

    abbrev pub list : List Step
    list = step.Writes first ∷ step.Writes second ∷ step.Erases third ∷ []

    pub list_is : steps ≡ list
    list_is =
        drafts.steps_are ∙ (λ i. step.Writes (first_is i) ∷ step.Writes (second_is i) ∷ step.Erases third ∷ [])

    -- ---- what is known of them

    is_first : IsDraft first
    is_first = subst IsDraft first_is drafts.going_of.draft

    is_second : IsDraft second
    is_second = subst IsDraft second_is drafts.taking_of.draft

    pub for_command : AllByRecursion (IsStepFor (whom.Command channel None)) steps
    for_command = subst (AllByRecursion (IsStepFor (whom.Command channel None))) (sym list_is)
        ((is_first, tt, refl), ((is_second, tt, refl), ((does.once, refl), tt)))

    abbrev marked_base : Metas
    marked_base = with_option s.base x.of (Some going)

    -- both blobs are there
    pub over : AreOver s.base list
    over = (
      (is_first, stays s.base x.of it.there),
      (
        (
          is_second,
          stays marked_base x.clone (option_elsewhere s.base x.of (Some going) x.clone apart_from ∙ it.there_too),
        ),
        (
          ap is_some (option_elsewhere marked_base x.clone (Some taking) x.of (λ same. apart_from (sym same))
              ∙ option_here s.base x.of (Some going) x.of refl),
          tt,
        ),
      ),
    )

    pub next : MakesNext p.pages list
    next = ((λ bad. absurd (cc bad)), (refl, (refl, tt)))

    -- that its pages aren't taken is why it doesn't begin
    pub short : (reply : Reply) → IsShort (needs_together steps) p.pages reply → IsRefusedAtBegin s command reply
    short reply is = steps_short s command deleted commit it.asked (no_job can) refl list refl over reply
        (subst (λ (l : List Step). IsShort (needs_together l) p.pages reply) list_is is)

    -- ---- the clusters

    well : RunsWell can.running.first s
    well = can.running.facts.well can.runs

    clone_low : x.clone < s.super.md_len
    clone_low =
        let chain = well.chains.chain x.clone it.heir it.there_too in
        well.chains.low x.clone x.clone (x.clone ∷ chain.0) chain.1 (among_first x.clone chain.0)

    below : AllBelow (length does.beside) (clusters_held taking.map)
    below = subst (λ (m : Meta). AllBelow (length does.beside) (clusters_held m.map)) it.taking_is
        (subst (λ n. AllBelow n (clusters_held x.taking.map)) (sym does.count)
        (taking_low can.running can.unmarked can.runs it))

    freed_are : (c : ℕ) → (is_among c are.gone ≡ true)
        ↔ IsMissing (all_set does.beside (clusters_held taking.map) true) it.old.map c
    freed_are c = subst (λ (m : Meta). (is_among c are.gone ≡ true)
        ↔ IsMissing (all_set does.beside (clusters_held taking.map) true) m.map c) it.going_is
        (subst (λ (m : Meta). (is_among c are.gone ≡ true)
        ↔ IsMissing (all_set does.beside (clusters_held m.map) true) x.going.map c) it.taking_is (does.freed c))

    pub moves : AllMove p.super (placed can) s.base [] list
    moves = (
      (
        subst (IsStored s.super x.of) it.going_is (going_stored can.running can.unmarked can.runs it),
        marks_moves s.super s.base x.of x.clone it.old it.heir it.there it.there_too apart_from,
      ),
      (
        (
          subst (IsStored s.super x.clone) it.taking_is (taking_stored can.running can.unmarked can.runs it),
          takes_moves s.super s.base x.of x.clone it.old it.heir it.there it.there_too apart_from,
        ),
        (
          erases_moves s.super s.base x.of x.clone it.old it.heir it.there it.there_too apart_from clone_low
              does.beside does.beside_are below (taken_stored can.running can.unmarked can.runs it) are.gone
              freed_are,
          tt,
        ),
      ),
    )
