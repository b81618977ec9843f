-- Want of memory may come of each command that asks for a job.
use Rattle.std.proofs.Common.{sym, subst}
use Rattle.volume_model.specs.Volumes.{Fixed, Volumes}
use Rattle.volume_model.specs.Steps.{MayLackMemory}
use Rattle.volume_model.specs.declared.command.Command.{Command}
use Rattle.volume_model.specs.declared.command.Command.TheVariants as c
use Rattle.volume_model.specs.declared.command.VolumeRef.{VolumeRef}
use Rattle.blob_meta.specs.declared.job.Job.{Job}
use Rattle.inflate_delete.specs.Fills.{command_of}
use Rattle.inflate_delete.specs.declared.filling.FillKind.{FillKind}
use Rattle.inflate_delete.specs.declared.filling.FillKind.TheVariants.{Inflate, Decouple}
use Rattle.store_model.specs.Asking.{clones, creates, deletes, fills, IsJobFor, IsSyncing, resizes, snapshots}
use Rattle.store_model.specs.Asking.{syncs}
use Rattle.store_model.specs.Phases.{Committing}
use Rattle.store_model.specs.StoreState.{StoreState}

module _ (f : Fixed) (v : Volumes) where
  of_syncing : (command : Command) → IsSyncing command → MayLackMemory f v command
  of_syncing (c.Put volume key value) is = tt
  of_syncing (c.Sync volume) is = tt
  of_syncing (c.ReadOnly volume) is = tt
  of_syncing (c.Rename volume name) is = tt
  of_syncing _ is = absurd is

  of_fill : (kind : FillKind) (volume : VolumeRef) → MayLackMemory f v (command_of kind volume)
  of_fill Inflate volume = tt
  of_fill Decouple volume = tt

  pub may_lack : (p : StoreState) (command : Command) (changes : Job) (commit : Committing)
      → IsJobFor p command changes commit → MayLackMemory f v command
  may_lack p command changes commit (syncs x) = of_syncing command x.asks.syncing
  may_lack p command changes commit (creates x) = subst (MayLackMemory f v) (sym x.command_is) tt
  may_lack p command changes commit (resizes x) = subst (MayLackMemory f v) (sym x.command_is) tt
  may_lack p command changes commit (clones x) = subst (MayLackMemory f v) (sym x.command_is) tt
  may_lack p command changes commit (snapshots x) = subst (MayLackMemory f v) (sym x.command_is) tt
  may_lack p command changes commit (deletes x) = subst (MayLackMemory f v) (sym x.command_is) tt
  may_lack p command changes commit (fills x) = subst (MayLackMemory f v) (sym x.command_is) (of_fill x.kind x.volume)
