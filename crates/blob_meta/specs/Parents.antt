-- What a blob's flags and internal attributes say of it: its parent, the cluster in each slot, and who may write it.
use Rattle.std.specs.Prelude.{ℕ, ◌-◌, ◌^◌, nat_lt, nat_le, if◌then◌else◌, Bool, ◌||◌, Option, Some, None, List}
use Rattle.std.specs.Prelude.{slice_get, codes, ◌+◌, ◌*◌, ◌/◌}
use Rattle.std.specs.Option.{option_and_then}
use Rattle.page_fields.specs.Fields.{number}
use Rattle.volume_model.specs.Xattrs.{value_of}
use Rattle.blob_meta.specs.declared.meta.Flags.{Flags}
use Rattle.blob_meta.specs.declared.meta.Meta.{Meta}

-- the head that an id names
abbrev pub head_of_id : ℕ → Option ℕ
head_of_id id = if nat_lt id (2 ^ 32) then None else Some (id - 2 ^ 32)

-- the head that an internal attribute names, by an id
abbrev pub named_in : List ℕ → Option ℕ
named_in bytes = head_of_id (number 8 bytes)

-- the parent is named by the internal attribute SNAP
abbrev pub parent_of : Meta → Option ℕ
parent_of m = option_and_then named_in (value_of m.internal (codes "SNAP"))

-- the cluster in a slot
abbrev pub slot : Meta → ℕ → Option ℕ
slot m i = option_and_then (λ s. s) (slice_get m.map i)

-- read-only by bit 0 of `data_ro`, or by a bit that isn't known; by such a bit it is locked too
abbrev pub is_read_only : Flags → Bool
is_read_only f = nat_le 1 f.data_ro || nat_le 4 f.md_ro

-- the same flags, with bit 0 of `data_ro` set
abbrev pub read_only : Flags → Flags
read_only f = record f { data_ro = f.data_ro / 2 * 2 + 1 }

-- locked by a bit that isn't known
abbrev pub is_locked : Flags → Bool
is_locked f = nat_le 2 f.data_ro || nat_le 4 f.md_ro
