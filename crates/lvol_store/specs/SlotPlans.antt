-- What the commands that make a volume, or give it another number of slots, make of metadata.
use Rattle.std.specs.Prelude.{◌≡◌, ◌⊎◌, ℕ, Bool, Option, Some, List}
use Rattle.std.specs.Ordering.{nat_cmp}
use Rattle.std.specs.FinMap as map
use Rattle.super_block.specs.declared.page.Super.{Super}
use Rattle.volume_model.specs.Names.{IsName}
use Rattle.volume_model.specs.Xattrs.{Text, Xattrs}
use Rattle.volume_model.specs.Volumes.{Volumes, Fixed, store_uuid, two_xattrs}
use Rattle.volume_model.specs.Machine.{IsCauseOfRefusal}
use Rattle.volume_model.specs.declared.command.VolumeRef.{VolumeRef}
use Rattle.volume_model.specs.declared.command.Command.{Command}
use Rattle.volume_model.specs.declared.command.Command.TheVariants as c
use Rattle.volume_model.specs.declared.reply.Reply.{Reply}
use Rattle.volume_model.specs.declared.reply.Reply.TheVariants as r
use Rattle.blob_meta.specs.declared.meta.Meta.{Meta}
use Rattle.blob_meta.specs.declared.job.Job.{Job}
use Rattle.blob_meta.specs.Find.{is_meant, IsLeast}
use Rattle.blob_meta.specs.Jobs.{create_job, resize_job}
use Rattle.blob_meta.specs.ShownBy.{IsFirstRefusal, ShowsMetas}

module _ (metas : map.FinMap nat_cmp Meta) (sup : Super) where
  -- the store's uuid, in all volumes that show the metadata
  abbrev pub IsStoreUuid : List ℕ → Type 0
  IsStoreUuid uuid = (f : Fixed) (v : Volumes) → ShowsMetas f sup metas v → store_uuid f v ≡ uuid

  -- A new blob, with the attributes that a new volume has beside all volumes that show the metadata.
  pub record Creates (head : ℕ) (name : Text) (slots : ℕ) (thick : Bool) (uuid : Option (List ℕ)) (job : Job)
      : Type 0 where
    pub is_name : IsName name
    pub xattrs : Xattrs
    pub named : (f : Fixed) (v : Volumes) → ShowsMetas f sup metas v → two_xattrs f v name uuid ≡ xattrs
    pub job_is : job ≡ create_job head xattrs thick slots

  -- the same, as the command asks it
  abbrev pub PlansCreate : ℕ → Command → Job → Type 0
  PlansCreate head (c.Create name slots thick uuid) job = Creates head name slots thick uuid job
  PlansCreate head _ job = ⊥

  -- The blob that is meant, with so many slots.
  pub record Resizes (volume : VolumeRef) (slots : ℕ) (job : Job) : Type 0 where
    pub head : ℕ
    pub old : Meta
    pub meant : IsLeast (is_meant sup.super_blob metas volume) head
    pub there : map.get metas head ≡ Some old
    pub job_is : job ≡ resize_job head old slots

  -- the same, as the command asks it
  abbrev pub PlansResize : Command → Job → Type 0
  PlansResize (c.Resize volume slots) job = Resizes volume slots job
  PlansResize _ job = ⊥

  -- want of memory, or the first cause
  abbrev pub RefusesFirst : Command → Reply → Type 0
  RefusesFirst command reply = (reply ≡ r.Memory) ⊎
      (IsCauseOfRefusal reply × IsFirstRefusal metas sup command (Some reply))
