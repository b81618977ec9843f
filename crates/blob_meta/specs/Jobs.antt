-- Changes of metadata: what the commands make of it, and their jobs.
use Rattle.std.specs.Prelude.{ℕ, ◌+◌, ◌-◌, ◌^◌, Bool, if◌then◌else◌, Some, None, [], ◌∷◌, ◌++◌, length, take, replicate}
use Rattle.std.specs.List.{range_with_len}
use Rattle.volume_model.specs.Xattrs.{Xattrs}
use Rattle.blob_meta.specs.declared.meta.Meta.{Meta}
use Rattle.blob_meta.specs.declared.job.Job.{Job}
use Rattle.blob_meta.specs.Faults.{is_thin}

-- one replacement, which is the commit
abbrev pub job_of_one : ℕ → Meta → Job
job_of_one head new = record {
  list = record { head = head; new = Some new } ∷ [];
  commit = 1;
  zero = [];
  freeze = None;
}

-- a new blob at a head, with these attributes and so many empty slots; thin by bit 0 of `invalid`, or thick
abbrev pub new_meta : ℕ → Xattrs → Bool → ℕ → Meta
new_meta head xattrs thick slots = record {
  id = 2 ^ 32 + head;
  flags = record { invalid = if thick then 0 else 1; data_ro = 0; md_ro = 0 };
  xattrs = xattrs;
  internal = [];
  map = replicate slots None;
}

-- a new blob, whose slots all get a cluster of zeros where it is thick
abbrev pub create_job : ℕ → Xattrs → Bool → ℕ → Job
create_job head xattrs thick slots = record (job_of_one head (new_meta head xattrs thick slots)) {
  zero = if thick then range_with_len 0 slots else [];
}

-- cut to so many slots, or with empty slots added behind
abbrev pub resized_meta : Meta → ℕ → Meta
resized_meta m slots = record m { map = take slots m.map ++ replicate (slots - length m.map) None }

-- a blob with so many slots; those that are added get a cluster of zeros each where it isn't thin
abbrev pub resize_job : ℕ → Meta → ℕ → Job
resize_job head m slots = record (job_of_one head (resized_meta m slots)) {
  zero = if is_thin m.flags then [] else range_with_len (length m.map) (slots - length m.map);
}
