-- Each new metadata of the jobs of snapshots, clones and deletes, and of those at the ends of fills, can be stored.
use Rattle.std.specs.Prelude.{◌≡◌, ℕ, ◌<◌, ◌≤◌, ◌^◌, Some}
use Rattle.std.specs.List.{AllByRecursion}
use Rattle.volume_model.specs.Xattrs.{Xattrs}
use Rattle.super_block.specs.declared.page.Super.{Super}
use Rattle.super_block.specs.Numbers.{cluster_pages_of}
use Rattle.blob_meta.specs.declared.job.Job.{Job}
use Rattle.blob_meta.specs.declared.job.Replacement.{Replacement}
use Rattle.blob_meta.specs.declared.meta.Meta.{Meta}
use Rattle.blob_meta.specs.Parents.{parent_of}
use Rattle.blob_meta.specs.Resolving as resolving
use Rattle.blob_meta.specs.Resolving.{IsLawful}
use Rattle.snapshots.specs.SnapshotJobs.{clone_job, snapshot_job}
use Rattle.inflate_delete.specs.DeleteJobs.{delete_job, erase_job}
use Rattle.inflate_delete.specs.FillJobs.{fill_job}
use Rattle.inflate_delete.specs.Fills.{IsFilled, parent_blob}
use Rattle.inflate_delete.specs.declared.filling.FillKind.{FillKind}
use Rattle.shown_volumes.specs.Maps.{Metas}
use Rattle.shown_volumes.specs.Shown.{fixed_of}
use Rattle.shown_volumes.specs.ShowsStep.{IsAtRest, part_of}
use Rattle.shown_volumes.specs.Steady.{AreSteady, CanBeWritten, IsStored, NamesHead}

-- The store can hold the metadata, and its SNAP, if it has one, names a head: it is steady but for a mark.
pub record IsStoredWell (s : Super) (head : ℕ) (m : Meta) : Type 0 where
  pub stored : IsStored s head m
  pub named : NamesHead m

-- so it is of each new metadata of a job
abbrev pub AreStoredWell : Super → Job → Type 0
AreStoredWell s job =
    AllByRecursion (λ (x : Replacement). (m : Meta) → x.new ≡ Some m → IsStoredWell s x.head m) job.list

-- each blob is so
abbrev pub AllStoredWell : Super → Metas → Type 0
AllStoredWell s metas = (head : ℕ) (m : Meta) → metas head ≡ Some m → IsStoredWell s head m

-- Each new metadata of a job is stored well where the blobs that it is on are, a new one's head is a place of the
-- region, and its attributes can be written; at the end of a fill no slot is left to fill.
pub record StoreJobs (s : Super) : Type 0 where
  pub snapshot : (of head : ℕ) (old : Meta) (xattrs : Xattrs) → IsStoredWell s of old → head < s.md_len
      → CanBeWritten xattrs → s.md_len ≤ 2 ^ 32 → AreStoredWell s (snapshot_job of old head xattrs)
  pub clone : (of head : ℕ) (old : Meta) (xattrs : Xattrs) → IsStoredWell s of old → head < s.md_len
      → CanBeWritten xattrs → s.md_len ≤ 2 ^ 32 → AreStoredWell s (clone_job of old head xattrs)
  pub erase : (of : ℕ) → AreStoredWell s (erase_job of)
  pub delete : (of clone : ℕ) (old heir : Meta) → IsStoredWell s of old → IsStoredWell s clone heir
      → AreStoredWell s (delete_job of old clone heir)
  pub fill : (kind : FillKind) (base : Metas) (of : ℕ) (old : Meta) → base of ≡ Some old → IsStoredWell s of old
      → ((p : ℕ) (m : Meta) → parent_of old ≡ Some p → base p ≡ Some m → IsStoredWell s p m) → IsFilled base of kind
      → AreStoredWell s (fill_job kind of old (parent_blob base old))

-- After any number of a job's replacements each blob is stored well still, and each is steady once they are resolved.
-- Steady blobs are stored well, and a job may begin on them where they are lawful.
pub record StayStored (s : Super) : Type 0 where
  pub parts : (base : Metas) (job : Job) → AllStoredWell s base → AreStoredWell s job → (count : ℕ)
      → AllStoredWell s (part_of job base count)
  pub resolved : (metas : Metas) → AllStoredWell s metas → AreSteady s (resolving.resolved metas)
  pub steady : (metas : Metas) → AreSteady s metas → AllStoredWell s metas
  pub rest : (metas : Metas) → AreSteady s metas → IsLawful s.md_len metas → 0 < cluster_pages_of s
      → s.md_len ≤ 2 ^ 32 → IsAtRest (fixed_of s) metas
