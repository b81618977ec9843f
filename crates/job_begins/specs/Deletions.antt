-- What the delete of a blob with one clone asks a job to do, and the replacements of its job.
use Rattle.std.specs.Prelude.{◌≡◌, ◌↔◌, ◌-◌, ◌<◌, ◌^◌, ℕ, Bool, true, Option, Some, None, List, [], ◌∷◌}
use Rattle.std.specs.Prelude.{length}
use Rattle.bit_array.specs.Bits.{is_in}
use Rattle.volume_model.specs.declared.command.Command.{Command}
use Rattle.blob_meta.specs.Faults.{clusters_held}
use Rattle.blob_meta.specs.declared.job.Job.{Job}
use Rattle.blob_meta.specs.declared.job.Replacement.{Replacement}
use Rattle.md_chain.specs.Chain.{is_among}
use Rattle.store_model.specs.Asking.{IsJobFor}
use Rattle.store_model.specs.Phases.{Committing}
use Rattle.store_model.specs.Places.{all_set, AreDistinct}
use Rattle.store_model.specs.StoreState.{StoreState}
use Rattle.running_store.specs.Blobs.{Blobs}
use Rattle.running_store.specs.Places.{HasPlace}
use Rattle.running_store.specs.declared.effects.Effects.{Effects}
use Rattle.running_store.specs.StoreView.{base_of}
use Rattle.job_begins.specs.Alone.{IsMappedBeside, IsMissing}
use Rattle.job_begins.specs.Begins.{no_effects}
use Rattle.job_begins.specs.Drafts.{IsDraftOf}
use Rattle.job_begins.specs.ListJobs.{effects_in}
use Rattle.job_begins.specs.declared.asking.DeletionAsk.{DeletionAsk}
use Rattle.job_begins.specs.declared.drafts.Draft.{Draft}
use Rattle.job_begins.specs.declared.steps.Step.{Step}
use Rattle.job_begins.specs.declared.steps.Step.TheVariants as step

-- the changes of metadata, in their order
abbrev pub deletion_changes : DeletionAsk → List Replacement
deletion_changes x =
    record { head = x.of; new = Some x.going }
    ∷ record { head = x.clone; new = Some x.taking }
    ∷ record { head = x.of; new = None }
    ∷ []

-- These are the changes of the job that a command asks for.
pub record AsksToDelete (p : StoreState) (command : Command) (x : DeletionAsk) : Type 0 where
  pub job : Job
  pub commit : Committing
  pub asked : IsJobFor p command job commit
  pub changes : job.list ≡ deletion_changes x

-- The blob has room among the marked ones, and the commit makes it gone and renews its clone. Its clusters that neither
-- another blob nor the clone's new metadata has are freed, each once; of so many clusters.
pub record AreDeletionEffects (md_len : ℕ) (b : Blobs) (clusters : ℕ) (ask : DeletionAsk) (begin commit : Effects)
    (gone : List ℕ) : Type 0 where
  pub mark_room : Option ℕ
  pub mark : HasPlace b.marked ask.of mark_room
  pub begin_is : begin ≡ effects_in None mark_room
  pub commit_is : commit ≡ record no_effects {
    commit = Some (record {
      made = None;
      live = Some (record { head = ask.of; value = None; room = None });
      renews = ask.clone ∷ [];
      shows = Some (record { head = ask.of; value = None; room = None });
    });
  }
  -- the clusters that other blobs had
  pub beside : List Bool
  pub count : length beside ≡ clusters
  pub beside_are : (c : ℕ) → (is_in beside c ≡ true) ↔ IsMappedBeside md_len (base_of b.metas b.marked) ask.of c
  pub once : AreDistinct gone
  pub freed : (c : ℕ)
      → (is_among c gone ≡ true) ↔ IsMissing (all_set beside (clusters_held ask.taking.map) true) ask.going.map c

-- new metadata of two drafts, with this done besides, and the blob is erased, and these clusters are free then
pub record AreDeletionDrafts (ask : DeletionAsk) (begin commit : Effects) (gone : List ℕ) (steps : List Step)
    : Type 0 where
  pub going : Draft
  pub taking : Draft
  pub going_of : IsDraftOf ask.of ask.going begin going
  pub taking_of : IsDraftOf ask.clone ask.taking commit taking
  pub steps_are : steps
      ≡ step.Writes going
      ∷ step.Writes taking
      ∷ step.Erases (record { head = ask.of; commit = None; freed = gone })
      ∷ []

-- The replacements of its job. A number is left.
pub record AreDeletionSteps (md_len : ℕ) (b : Blobs) (clusters : ℕ) (ask : DeletionAsk) (steps : List Step)
    : Type 0 where
  pub begin : Effects
  pub commit : Effects
  pub gone : List ℕ
  pub effects : AreDeletionEffects md_len b clusters ask begin commit gone
  pub left : b.guards.drawn < 2 ^ 64 - 1
  pub drafts : AreDeletionDrafts ask begin commit gone steps
