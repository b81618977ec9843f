-- What a snapshot asks a job to do, and the replacements of its job.
use Rattle.std.specs.Prelude.{◌≡◌, ◌+◌, ◌<◌, ◌^◌, ℕ, Option, Some, None, List, [], ◌∷◌}
use Rattle.std.specs.Prelude.{IsSome}
use Rattle.std.specs.FinMap as map
use Rattle.volume_model.specs.declared.command.Command.{Command}
use Rattle.blob_meta.specs.declared.job.Job.{Job}
use Rattle.blob_meta.specs.declared.job.Replacement.{Replacement}
use Rattle.store_model.specs.Asking.{IsJobFor}
use Rattle.store_model.specs.Phases.{Committing}
use Rattle.store_model.specs.StoreState.{StoreState}
use Rattle.running_store.specs.Blobs.{Blobs}
use Rattle.running_store.specs.Places.{HasPlace}
use Rattle.running_store.specs.declared.effects.Effects.{Effects}
use Rattle.job_begins.specs.Begins.{no_effects, IsFreshHead}
use Rattle.job_begins.specs.Drafts.{IsDraftOf}
use Rattle.job_begins.specs.ListJobs.{effects_in}
use Rattle.job_begins.specs.declared.asking.SnapshotAsk.{SnapshotAsk}
use Rattle.job_begins.specs.declared.drafts.Draft.{Draft}
use Rattle.job_begins.specs.declared.steps.Step.{Step}
use Rattle.job_begins.specs.declared.steps.Step.TheVariants as step

-- the changes of metadata, in their order
abbrev pub snapshot_changes : SnapshotAsk → List Replacement
snapshot_changes x =
    record { head = x.head; new = Some x.begun }
    ∷ record { head = x.head; new = Some x.filled }
    ∷ record { head = x.of; new = Some x.emptied }
    ∷ record { head = x.head; new = Some x.made }
    ∷ []

-- These are the changes of the job that a command asks for, and the new blob's head is the page that is next.
pub record AsksToSnapshot (p : StoreState) (command : Command) (x : SnapshotAsk) : Type 0 where
  pub job : Job
  pub commit : Committing
  pub asked : IsJobFor p command job commit
  pub changes : job.list ≡ snapshot_changes x
  pub next : p.base x.head ≡ None → IsFreshHead p.pages x.head

-- the new blob has room in the maps of blobs, and the commit shows it with these attributes, and renews both
pub record AreSnapshotEffects (b : Blobs) (ask : SnapshotAsk) (begin commit : Effects) : Type 0 where
  pub chain_room : Option ℕ
  pub mark_room : Option ℕ
  pub live_room : Option ℕ
  pub shown_room : Option ℕ
  pub chain : HasPlace b.chains ask.head chain_room
  pub makes : map.get b.chains ask.head ≡ None → IsSome chain_room
  pub mark : HasPlace b.marked ask.head mark_room
  pub live : HasPlace b.live ask.head live_room
  pub shown : HasPlace b.metas ask.head shown_room
  pub begin_is : begin ≡ effects_in chain_room mark_room
  pub commit_is : commit ≡ record no_effects {
    commit = Some (record {
      made = Some ask.head;
      live = Some (record { head = ask.head; value = Some ask.made.xattrs; room = live_room });
      renews = ask.of ∷ ask.head ∷ [];
      shows = Some (record { head = ask.head; value = Some ask.made; room = shown_room });
    });
  }

-- new metadata of four drafts, with this done besides
pub record AreSnapshotDrafts (ask : SnapshotAsk) (begin commit : Effects) (steps : List Step) : Type 0 where
  pub begun : Draft
  pub filled : Draft
  pub emptied : Draft
  pub made : Draft
  pub begun_of : IsDraftOf ask.head ask.begun begin begun
  pub filled_of : IsDraftOf ask.head ask.filled no_effects filled
  pub emptied_of : IsDraftOf ask.of ask.emptied commit emptied
  pub made_of : IsDraftOf ask.head ask.made no_effects made
  pub steps_are : steps
      ≡ step.Writes begun ∷ step.Writes filled ∷ step.Writes emptied ∷ step.Writes made ∷ []

-- The replacements of its job. The blobs have room for the generation of one more, and three numbers are left.
pub record AreSnapshotSteps (b : Blobs) (ask : SnapshotAsk) (steps : List Step) : Type 0 where
  pub begin : Effects
  pub commit : Effects
  pub effects : AreSnapshotEffects b ask begin commit
  pub few : map.len b.guards.generations < b.guards.room
  pub left : b.guards.drawn + 3 < 2 ^ 64
  pub drafts : AreSnapshotDrafts ask begin commit steps
