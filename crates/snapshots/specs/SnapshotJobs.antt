-- What snapshots and clones make of metadata, and their jobs.
use Rattle.std.specs.Prelude.{ℕ, ◌+◌, ◌*◌, ◌/◌, not, false, Some, None, [], ◌∷◌, length, replicate, codes}
use Rattle.volume_model.specs.Xattrs.{Xattrs}
use Rattle.blob_meta.specs.declared.meta.Meta.{Meta}
use Rattle.blob_meta.specs.declared.job.Job.{Job}
use Rattle.blob_meta.specs.Faults.{is_thin}
use Rattle.blob_meta.specs.Jobs.{job_of_one, new_meta}
use Rattle.blob_meta.specs.Resolving.{without_marks}
use Rattle.snapshots.specs.Marks.{with_named, with_parent_of}

-- of the volume at a head, a snapshot at another, with these attributes
module _ (volume : ℕ) (old : Meta) (head : ℕ) (xattrs : Xattrs) where
  -- as it begins: thin, with the volume's slots, all empty, and marked as one that is being made of the volume
  abbrev pub begun_snapshot : Meta
  begun_snapshot = record (new_meta head xattrs false (length old.map)) {
    internal = with_named [] (codes "SNAPTMP") volume;
  }

  -- with the volume's map and parent, thin where the volume is, and still marked
  abbrev pub filled_snapshot : Meta
  filled_snapshot = record (new_meta head xattrs (not (is_thin old.flags)) (length old.map)) {
    internal = with_parent_of (with_named [] (codes "SNAPTMP") volume) old;
    map = old.map;
  }

-- a volume of which a snapshot at a head was made: thin, with empty slots, and the snapshot for its parent
abbrev pub emptied_volume : Meta → ℕ → Meta
emptied_volume old head = record old {
  flags = record old.flags { invalid = old.flags.invalid / 2 * 2 + 1 };
  internal = with_named old.internal (codes "SNAP") head;
  map = replicate (length old.map) None;
}

-- The snapshot takes the map and the parent of the volume, which is frozen meanwhile. It is made with the third
-- replacement, by which the volume lets them go, and at last it is read-only and without its mark.
abbrev pub snapshot_job : ℕ → Meta → ℕ → Xattrs → Job
snapshot_job volume old head xattrs = record {
  list = record { head = head; new = Some (begun_snapshot volume old head xattrs) }
      ∷ record { head = head; new = Some (filled_snapshot volume old head xattrs) }
      ∷ record { head = volume; new = Some (emptied_volume old head) }
      ∷ record { head = head; new = Some (without_marks (filled_snapshot volume old head xattrs)) }
      ∷ [];
  commit = 3;
  zero = [];
  freeze = Some volume;
}

-- a clone of the blob at a head: thin, with its slots, all empty, and that blob for its parent
abbrev pub new_clone : ℕ → Meta → ℕ → Xattrs → Meta
new_clone parent old head xattrs = record (new_meta head xattrs false (length old.map)) {
  internal = with_named [] (codes "SNAP") parent;
}

-- one replacement
abbrev pub clone_job : ℕ → Meta → ℕ → Xattrs → Job
clone_job parent old head xattrs = job_of_one head (new_clone parent old head xattrs)
