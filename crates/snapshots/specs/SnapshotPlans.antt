-- What the commands that copy a volume make of metadata.
use Rattle.std.specs.Prelude.{◌≡◌, ℕ, Some, List}
use Rattle.std.specs.Ordering.{nat_cmp}
use Rattle.std.specs.FinMap as map
use Rattle.volume_model.specs.Names.{IsName}
use Rattle.volume_model.specs.Xattrs.{Text, Xattrs}
use Rattle.volume_model.specs.Volumes.{Volumes, Fixed, two_xattrs}
use Rattle.blob_meta.specs.declared.meta.Meta.{Meta}
use Rattle.blob_meta.specs.declared.job.Job.{Job}
use Rattle.snapshots.specs.SnapshotJobs.{snapshot_job, clone_job}

-- A copy of the blob at a head, with the attributes `name` and `uuid` alone: the job makes it of what the blob is.
pub record CopiesBlob (metas : map.FinMap nat_cmp Meta) (volume head : ℕ) (name : Text) (uuid : List ℕ)
    (job_of : ℕ → Meta → ℕ → Xattrs → Job) (job : Job) : Type 0 where
  pub old : Meta
  pub there : map.get metas volume ≡ Some old
  pub is_name : IsName name
  pub xattrs : Xattrs
  pub named : (f : Fixed) (v : Volumes) → two_xattrs f v name (Some uuid) ≡ xattrs
  pub job_is : job ≡ job_of volume old head xattrs

-- a snapshot of the blob at a head, at another
abbrev pub PlansSnapshot : map.FinMap nat_cmp Meta → ℕ → ℕ → Text → List ℕ → Job → Type 0
PlansSnapshot metas volume head name uuid job = CopiesBlob metas volume head name uuid snapshot_job job

-- a clone of the blob at a head, at another
abbrev pub PlansClone : map.FinMap nat_cmp Meta → ℕ → ℕ → Text → List ℕ → Job → Type 0
PlansClone metas volume head name uuid job = CopiesBlob metas volume head name uuid clone_job job
