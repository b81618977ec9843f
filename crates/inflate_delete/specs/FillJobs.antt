-- What the ends of inflates and decouples make of metadata, and their jobs.
use Rattle.std.specs.Prelude.{◌≡◌, ℕ, ◌*◌, ◌/◌, Option, Some, codes}
use Rattle.std.specs.Option.{option_map_or}
use Rattle.std.specs.Ordering.{nat_cmp}
use Rattle.std.specs.FinMap as map
use Rattle.volume_model.specs.Xattrs.{without}
use Rattle.blob_meta.specs.declared.meta.Meta.{Meta}
use Rattle.blob_meta.specs.declared.job.Job.{Job}
use Rattle.blob_meta.specs.Jobs.{job_of_one}
use Rattle.snapshots.specs.Marks.{with_parent_of}
use Rattle.inflate_delete.specs.Fills.{parent_blob}
use Rattle.inflate_delete.specs.declared.filling.FillKind.{FillKind}
use Rattle.inflate_delete.specs.declared.filling.FillKind.TheVariants.{Inflate, Decouple}

-- a blob without its parent and without the mark that it is thin, bit 0 of `invalid`
abbrev pub inflated_blob : Meta → Meta
inflated_blob old = record old {
  flags = record old.flags { invalid = old.flags.invalid / 2 * 2 };
  internal = without old.internal (codes "SNAP");
}

-- a blob with the parent of its parent, or without one where that has none, or isn't there
abbrev pub decoupled_blob : Meta → Option Meta → Meta
decoupled_blob old parent = record old {
  internal = option_map_or (λ p. with_parent_of old.internal p) parent (without old.internal (codes "SNAP"));
}

-- a blob whose slots are filled, over its direct parent
abbrev pub filled_blob : FillKind → Meta → Option Meta → Meta
filled_blob Inflate old parent = inflated_blob old
filled_blob Decouple old parent = decoupled_blob old parent

-- one replacement, which is the commit
abbrev pub fill_job : FillKind → ℕ → Meta → Option Meta → Job
fill_job kind volume old parent = job_of_one volume (filled_blob kind old parent)

-- The blob at the head is there, and the job is that of it and of its direct parent.
pub record IsFillJob (metas : map.FinMap nat_cmp Meta) (volume : ℕ) (kind : FillKind) (job : Job) : Type 0 where
  pub old : Meta
  pub there : map.get metas volume ≡ Some old
  pub job_is : job ≡ fill_job kind volume old (parent_blob (map.get metas) old)
