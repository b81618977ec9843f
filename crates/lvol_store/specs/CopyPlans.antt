-- What the commands that copy a volume make of metadata.
use Rattle.std.specs.Prelude.{◌≡◌, ℕ, None, Some}
use Rattle.std.specs.Ordering.{nat_cmp}
use Rattle.std.specs.FinMap as map
use Rattle.super_block.specs.declared.page.Super.{Super}
use Rattle.volume_model.specs.Names.{IsName}
use Rattle.volume_model.specs.Xattrs.{Text, Xattrs}
use Rattle.volume_model.specs.Volumes.{Volumes, Fixed, two_xattrs}
use Rattle.volume_model.specs.declared.command.VolumeRef.{VolumeRef}
use Rattle.volume_model.specs.declared.command.Command.{Command}
use Rattle.volume_model.specs.declared.command.Command.TheVariants as c
use Rattle.blob_meta.specs.declared.meta.Meta.{Meta}
use Rattle.blob_meta.specs.declared.job.Job.{Job}
use Rattle.blob_meta.specs.ShownBy.{IsHeadMeant, ShowsMetas}
use Rattle.snapshots.specs.SnapshotJobs.{clone_job, snapshot_job}

-- it makes a clone of a volume, or a snapshot
abbrev pub IsClone : Command → Type 0
IsClone (c.Clone volume name) = Unit {0}
IsClone _ = ⊥

abbrev pub IsSnapshot : Command → Type 0
IsSnapshot (c.Snapshot volume name) = Unit {0}
IsSnapshot _ = ⊥

module _ (metas : map.FinMap nat_cmp Meta) (sup : Super) where
  -- A copy of the blob that is meant, made at a head, with the attributes that a new volume has beside all volumes that
  -- show the metadata.
  pub record CopiesMeant (job_of : ℕ → Meta → ℕ → Xattrs → Job) (head : ℕ) (volume : VolumeRef) (name : Text)
      (job : Job)
      : Type 0 where
    pub of : ℕ
    pub old : Meta
    pub meant : IsHeadMeant metas sup volume (Some of)
    pub there : map.get metas of ≡ Some old
    pub is_name : IsName name
    pub xattrs : Xattrs
    pub named : (f : Fixed) (v : Volumes) → ShowsMetas f sup metas v → two_xattrs f v name None ≡ xattrs
    pub job_is : job ≡ job_of of old head xattrs

  -- a clone, as the command asks it
  abbrev pub ClonesAsAsked : ℕ → Command → Job → Type 0
  ClonesAsAsked head (c.Clone volume name) job = CopiesMeant clone_job head volume name job
  ClonesAsAsked head _ job = ⊥

  -- and a snapshot
  abbrev pub SnapshotsAsAsked : ℕ → Command → Job → Type 0
  SnapshotsAsAsked head (c.Snapshot volume name) job = CopiesMeant snapshot_job head volume name job
  SnapshotsAsAsked head _ job = ⊥
