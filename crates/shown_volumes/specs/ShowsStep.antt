-- What the metadata of each part of a job shows: the volumes as they were up to its commit, and then those of its
-- command's step.
use Rattle.std.specs.Prelude.{◌≡◌, ℕ, ◌^◌, ◌<◌, ◌≤◌, ◌==◌, Bool, false, length, take, Some, None}
use Rattle.std.specs.List.{list_any}
use Rattle.page_disk.specs.Disk.{Image}
use Rattle.volume_model.specs.Volumes.{Fixed, Volumes}
use Rattle.volume_model.specs.Xattrs.{Xattrs}
use Rattle.volume_model.specs.Refusals.{refusal}
use Rattle.volume_model.specs.Steps.{change, named_head}
use Rattle.volume_model.specs.declared.command.Command.{Command}
use Rattle.volume_model.specs.declared.reply.Reply.{Reply}
use Rattle.blob_meta.specs.declared.job.Job.{Job}
use Rattle.blob_meta.specs.declared.meta.Meta.{Meta}
use Rattle.blob_meta.specs.Repairs.{after, HasHeadsBelow, HasNoMarks}
use Rattle.blob_meta.specs.Resolving.{IsLawful, resolved, slots_together}
use Rattle.shown_volumes.specs.EmptySlots.{Anything, LeavesEmpty}
use Rattle.shown_volumes.specs.Maps.{Map, Metas}
use Rattle.shown_volumes.specs.Shown.{live_of, shown_by}

-- Metadata between jobs: it is lawful and has no mark, and its heads are below a number of metadata pages that 32 bits
-- can count. A cluster has pages.
pub record IsAtRest (f : Fixed) (base : Metas) : Type 0 where
  pub some_pages : 0 < f.cluster_pages
  pub few_heads : f.md_len ≤ 2 ^ 32
  pub lawful : IsLawful f.md_len base
  pub unmarked : HasNoMarks base
  pub heads_below : HasHeadsBelow f.md_len base

-- what an image shows by metadata once that is resolved
abbrev pub shown_in : Fixed → Metas → Map Xattrs → Image → Volumes
shown_in f base live image = shown_by f image (resolved base) live

-- the metadata after so many replacements of a job
abbrev pub part_of : Job → Metas → ℕ → Metas
part_of job base count = after base (take count job.list)

-- one of the job's replacements is of the blob at this head
abbrev pub replaces : Job → ℕ → Bool
replaces job h = list_any (λ x. x.head == h) job.list

-- In these volumes the command is one on the blob at a head, and isn't refused.
pub record IsAskedOf (f : Fixed) (v : Volumes) (base : Metas) (command : Command) (head : ℕ) (old : Meta) : Type 0 where
  pub found : named_head f v command ≡ Some head
  pub there : base head ≡ Some old
  pub passed : refusal f v command ≡ None

-- After any number of a job's replacements the metadata is lawful, and shows what was shown, or, from the commit on,
-- the volumes of the command's step, whose attributes are live as the step leaves them: recovery undoes what is done of
-- the job before the commit, and finishes what is left of it from then on. An empty slot of a blob that the job doesn't
-- replace was empty, and shows what it showed. In the end no blob is marked.
pub record ShowsStep (f : Fixed) (base : Metas) (live : Map Xattrs) (command : Command) (reply : Reply) (job : Job)
    : Type 0 where
  pub lawful : (count : ℕ) → count ≤ length job.list → IsLawful f.md_len (resolved (part_of job base count))
  -- marked blobs counted too
  pub few : (count : ℕ) → count ≤ length job.list → slots_together f.md_len (part_of job base count) ≤ 2 ^ 24
  pub before : (count : ℕ) → count < job.commit → (image : Image)
      → shown_in f (part_of job base count) live image ≡ shown_in f base live image
  pub since : (count : ℕ) → job.commit ≤ count → count ≤ length job.list → (image : Image)
      → shown_in f (part_of job base count) (live_of (change f (shown_in f base live image) command reply)) image
      ≡ change f (shown_in f base live image) command reply
  pub undone : (count : ℕ) → count < job.commit → resolved (part_of job base count) ≡ resolved base
  pub finished : (count : ℕ) → job.commit ≤ count → count ≤ length job.list
      → resolved (part_of job base count) ≡ resolved (part_of job base job.commit)
  pub unmarked : HasNoMarks (part_of job base (length job.list))
  pub leaves : (count : ℕ) → count ≤ length job.list → (h : ℕ) → replaces job h ≡ false
      → LeavesEmpty f (resolved base) (resolved (part_of job base count)) Anything h
