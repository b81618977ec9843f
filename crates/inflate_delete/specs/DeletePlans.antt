-- What a delete makes of metadata.
use Rattle.std.specs.Prelude.{◌≡◌, ℕ, Option, Some, List, [], ◌∷◌}
use Rattle.std.specs.Ordering.{nat_cmp}
use Rattle.std.specs.FinMap as map
use Rattle.blob_meta.specs.declared.meta.Meta.{Meta}
use Rattle.blob_meta.specs.declared.job.Job.{Job}
use Rattle.inflate_delete.specs.Clones.{AreClones}
use Rattle.inflate_delete.specs.DeleteJobs.{erase_job, delete_job}

-- a blob without clones is erased; one with one clone, which is there, hands on to it
abbrev pub IsJobBeside : (ℕ → Option Meta) → ℕ → Meta → List ℕ → Job → Type 0
IsJobBeside metas volume old [] job = job ≡ erase_job volume
IsJobBeside metas volume old (clone ∷ []) job = (heir : Meta) × (metas clone ≡ Some heir)
    × (job ≡ delete_job volume old clone heir)
IsJobBeside metas volume old _ job = ⊥

-- The blob at the head is there, and the job is that of its clones.
pub record IsDeleteJob (metas : map.FinMap nat_cmp Meta) (volume : ℕ) (job : Job) : Type 0 where
  pub old : Meta
  pub there : map.get metas volume ≡ Some old
  pub clones : List ℕ
  pub clones_are : AreClones metas volume clones
  pub job_is : IsJobBeside (map.get metas) volume old clones job
