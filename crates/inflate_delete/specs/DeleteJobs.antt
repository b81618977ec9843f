-- What deletes make of metadata, and their jobs.
use Rattle.std.specs.Prelude.{ℕ, Some, None, [], ◌∷◌, List, Option, length, map, codes}
use Rattle.std.specs.List.{range_with_len}
use Rattle.std.specs.Option.{option_or}
use Rattle.blob_meta.specs.declared.meta.Meta.{Meta}
use Rattle.blob_meta.specs.declared.job.Job.{Job}
use Rattle.blob_meta.specs.Parents.{slot}
use Rattle.snapshots.specs.Marks.{with_named, with_parent_of}

-- one replacement, which erases the blob
abbrev pub erase_job : ℕ → Job
erase_job head = record {
  list = record { head = head; new = None } ∷ [];
  commit = 1;
  zero = [];
  freeze = None;
}

-- so many slots of a blob, of which those that are empty take what another has at the same places
abbrev pub first_slots_over : Meta → Meta → ℕ → List (Option ℕ)
first_slots_over m other count = map (λ i. option_or (slot m i) (slot other i)) (range_with_len 0 count)

-- all slots of a blob, in the same way
abbrev pub slots_over : Meta → Meta → List (Option ℕ)
slots_over m other = first_slots_over m other (length m.map)

-- a blob that is being removed, while its clone takes over from it
abbrev pub going_blob : Meta → ℕ → Meta
going_blob old clone = record old { internal = with_named old.internal (codes "SNAPRM") clone }

-- the clone with the clusters and the parent of the blob
abbrev pub heir_of : Meta → Meta → Meta
heir_of clone old = record clone {
  internal = with_parent_of clone.internal old;
  map = slots_over clone old;
}

-- The blob is marked, its one clone takes over from it, and then it is erased. It is deleted with the second
-- replacement.
abbrev pub delete_job : ℕ → Meta → ℕ → Meta → Job
delete_job head old clone heir = record {
  list = record { head = head; new = Some (going_blob old clone) }
      ∷ record { head = clone; new = Some (heir_of heir old) }
      ∷ record { head = head; new = None }
      ∷ [];
  commit = 2;
  zero = [];
  freeze = None;
}
