-- The command that asks for a job is one for the metadata thread, and the job has few replacements.
use Rattle.std.proofs.Common.{◌≡◌, ℕ, ◌<◌, ◌≤◌, List, [], ◌∷◌, length, refl, sym, ap, ◌∙◌, subst, arith}
use Rattle.volume_model.specs.declared.command.Command.{Command}
use Rattle.volume_model.specs.declared.command.Command.TheVariants as c
use Rattle.volume_model.specs.declared.command.VolumeRef.{VolumeRef}
use Rattle.blob_meta.specs.declared.job.Job.{Job as Changes}
use Rattle.inflate_delete.specs.DeletePlans.{IsJobBeside}
use Rattle.inflate_delete.specs.Fills.{command_of}
use Rattle.inflate_delete.specs.declared.filling.FillKind.{FillKind}
use Rattle.inflate_delete.specs.declared.filling.FillKind.TheVariants.{Inflate, Decouple}
use Rattle.store_model.specs.Asking.{clones, creates, deletes, fills, IsJobFor, IsSyncing, resizes, snapshots, syncs}
use Rattle.store_model.specs.Phases.{Committing}
use Rattle.store_model.specs.StoreState.{StoreState}
use Rattle.run_work.specs.RunState.{MetadataCommand}
use Rattle.run_moves.specs.Projection.{command_in_run}
use Rattle.run_moves.specs.Sizes.{most_replacements}

module _ (p : StoreState) where
  syncing_asks : (command : Command) → IsSyncing command → command_in_run p.super command ≡ MetadataCommand
  syncing_asks (c.Put volume key value) is = refl
  syncing_asks (c.Sync volume) is = refl
  syncing_asks (c.ReadOnly volume) is = refl
  syncing_asks (c.Rename volume name) is = refl
  syncing_asks _ is = absurd is

  fill_asks : (kind : FillKind) (volume : VolumeRef) → command_in_run p.super (command_of kind volume) ≡ MetadataCommand
  fill_asks Inflate volume = refl
  fill_asks Decouple volume = refl

  -- a job's command is one for the metadata thread
  pub job_asks : (command : Command) (changes : Changes) (commit : Committing) → IsJobFor p command changes commit
      → command_in_run p.super command ≡ MetadataCommand
  job_asks command changes commit (syncs x) = syncing_asks command x.asks.syncing
  job_asks command changes commit (creates x) = ap (command_in_run p.super) x.command_is
  job_asks command changes commit (resizes x) = ap (command_in_run p.super) x.command_is
  job_asks command changes commit (clones x) = ap (command_in_run p.super) x.command_is
  job_asks command changes commit (snapshots x) = ap (command_in_run p.super) x.command_is
  job_asks command changes commit (deletes x) = ap (command_in_run p.super) x.command_is
  job_asks command changes commit (fills x) = ap (command_in_run p.super) x.command_is ∙ fill_asks x.kind x.volume

  -- it has few replacements, of which one is its commit
  pub record AreFew (changes : Changes) : Type 0 where
    pub some : 0 < changes.commit
    pub within : changes.commit ≤ length changes.list
    pub few : length changes.list ≤ most_replacements

  few_as : (changes other : Changes) → changes ≡ other → AreFew other → AreFew changes
  few_as changes other is few = subst AreFew (sym is) few

  pub job_few : (command : Command) (changes : Changes) (commit : Committing) → IsJobFor p command changes commit
      → AreFew changes
  job_few command changes commit (syncs x) = few_as changes _ x.is
      (record { some = omega arith; within = omega arith; few = omega arith })
  job_few command changes commit (creates x) = few_as changes _ x.is
      (record { some = omega arith; within = omega arith; few = omega arith })
  job_few command changes commit (resizes x) = few_as changes _ x.is
      (record { some = omega arith; within = omega arith; few = omega arith })
  job_few command changes commit (clones x) = few_as changes _ x.is
      (record { some = omega arith; within = omega arith; few = omega arith })
  job_few command changes commit (snapshots x) = few_as changes _ x.is
      (record { some = omega arith; within = omega arith; few = omega arith })
  job_few command changes commit (deletes x) = by x.clones x.is
    where
      by : (clones_of : List ℕ) → IsJobBeside p.base x.of x.old clones_of changes → AreFew changes
      by [] is = few_as changes _ is (record { some = omega arith; within = omega arith; few = omega arith })
      by (clone ∷ []) is =
          few_as changes _ is.2 (record { some = omega arith; within = omega arith; few = omega arith })
      by (clone ∷ other ∷ rest) is = absurd is
  job_few command changes commit (fills x) = few_as changes _ x.is
      (record { some = omega arith; within = omega arith; few = omega arith })
