-- What the commands that bring attributes to the disk make of metadata.
use Rattle.std.specs.Prelude.{◌≡◌, ◌⊎◌, ℕ, Option, Some}
use Rattle.std.specs.Ordering.{nat_cmp}
use Rattle.std.specs.FinMap as map
use Rattle.super_block.specs.declared.page.Super.{Super}
use Rattle.volume_model.specs.Xattrs.{Xattrs, with_value}
use Rattle.volume_model.specs.declared.command.VolumeRef.{VolumeRef}
use Rattle.volume_model.specs.declared.command.Command.{Command}
use Rattle.volume_model.specs.declared.command.Command.TheVariants as c
use Rattle.volume_model.specs.declared.reply.Reply.{Reply}
use Rattle.volume_model.specs.declared.reply.Reply.TheVariants as r
use Rattle.blob_meta.specs.declared.meta.Meta.{Meta}
use Rattle.blob_meta.specs.declared.job.Job.{Job}
use Rattle.blob_meta.specs.Find.{is_meant, IsLeast}
use Rattle.blob_meta.specs.Jobs.{job_of_one}
use Rattle.blob_meta.specs.Asked.{IsAttributeCause, IsFirstCause}
use Rattle.blob_meta.specs.Parents.{read_only}

-- it sets an attribute, and syncs
abbrev pub IsPut : Command → Type 0
IsPut (c.Put volume key value) = Unit {0}
IsPut _ = ⊥

-- it brings the attributes to the disk
abbrev pub IsSync : Command → Type 0
IsSync (c.Sync volume) = Unit {0}
IsSync _ = ⊥

-- it brings the attributes to the disk, and makes the volume read-only
abbrev pub IsReadOnlyCommand : Command → Type 0
IsReadOnlyCommand (c.ReadOnly volume) = Unit {0}
IsReadOnlyCommand _ = ⊥

module _ (metas : map.FinMap nat_cmp Meta) (sup : Super) where
  -- The metadata of the volume that is meant is replaced by what is made of it.
  pub record Remakes (volume : VolumeRef) (made : Meta → Meta) (job : Job) : Type 0 where
    pub head : ℕ
    pub old : Meta
    pub meant : IsLeast (is_meant sup.super_blob metas volume) head
    pub there : map.get metas head ≡ Some old
    pub job_is : job ≡ job_of_one head (made old)

  -- it has these attributes, and all else that it says stays
  abbrev pub GivesXattrs : VolumeRef → Xattrs → Job → Type 0
  GivesXattrs volume xattrs job = Remakes volume (λ old. record old { xattrs = xattrs }) job

  -- it has these attributes, and is read-only
  abbrev pub MakesReadOnly : VolumeRef → Xattrs → Job → Type 0
  MakesReadOnly volume xattrs job =
      Remakes volume (λ old. record old { xattrs = xattrs; flags = read_only old.flags }) job

  -- the live attributes with one of them set
  abbrev pub PlansPut : Option Xattrs → Command → Job → Type 0
  PlansPut (Some live) (c.Put volume key value) job = GivesXattrs volume (with_value live key value) job
  PlansPut _ _ job = ⊥

  -- the live attributes
  abbrev pub PlansSync : Option Xattrs → Command → Job → Type 0
  PlansSync (Some live) (c.Sync volume) job = GivesXattrs volume live job
  PlansSync _ _ job = ⊥

  -- the live attributes, and it is read-only
  abbrev pub PlansReadOnly : Option Xattrs → Command → Job → Type 0
  PlansReadOnly (Some live) (c.ReadOnly volume) job = MakesReadOnly volume live job
  PlansReadOnly _ _ job = ⊥

  -- want of memory, or the first cause
  abbrev pub RefusesPlan : Option Xattrs → Command → Reply → Type 0
  RefusesPlan live command reply = (reply ≡ r.Memory) ⊎
      (IsAttributeCause reply × IsFirstCause metas sup live command (Some reply))
