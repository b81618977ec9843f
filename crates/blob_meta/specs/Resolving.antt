-- What recovery makes of metadata in which a snapshot may be half made or half removed, and which metadata a store can
-- be loaded from. Metadata is given by heads.
use Rattle.std.specs.Prelude.{◌≡◌, ℕ, ◌^◌, ◌<◌, ◌≤◌, Bool, true, false, if◌then◌else◌, List, length}
use Rattle.std.specs.Prelude.{Option, Some, None, codes}
use Rattle.std.specs.List.{range_with_len, sum_by}
use Rattle.std.specs.Option.{option_map_or, option_and_then}
use Rattle.volume_model.specs.Volumes.{is_given_head}
use Rattle.volume_model.specs.Xattrs.{value_of, without}
use Rattle.blob_meta.specs.declared.meta.Meta.{Meta}
use Rattle.blob_meta.specs.Parents.{named_in, parent_of, slot, is_read_only, read_only}

-- the mark of a snapshot that is being made or removed: SNAPRM, else SNAPTMP
abbrev pub mark_of : Meta → Option (List ℕ)
mark_of m = option_map_or (λ bytes. Some bytes) (value_of m.internal (codes "SNAPRM"))
    (value_of m.internal (codes "SNAPTMP"))

-- without both marks, and read-only
abbrev pub without_marks : Meta → Meta
without_marks m = record m {
  internal = without (without m.internal (codes "SNAPRM")) (codes "SNAPTMP");
  flags = read_only m.flags;
}

-- A marked blob is kept exactly where the blob that its mark names is there, and has it for its parent.
abbrev pub is_kept : (ℕ → Option Meta) → ℕ → List ℕ → Bool
is_kept metas head mark =
    option_map_or (λ m. is_given_head head (parent_of m)) (option_and_then metas (named_in mark)) false

-- what becomes of one blob
abbrev pub resolved_one : (ℕ → Option Meta) → ℕ → Meta → Option Meta
resolved_one metas head m = option_map_or (λ mark. if is_kept metas head mark then Some (without_marks m) else None)
    (mark_of m) (Some m)

-- Marked blobs are kept without their marks, or are gone; all others are as they are. Every choice is by the metadata
-- as given.
abbrev pub resolved : (ℕ → Option Meta) → ℕ → Option Meta
resolved metas head = option_and_then (resolved_one metas head) (metas head)

-- the slots of all maps together, of a store with so many metadata pages
abbrev pub slots_together : ℕ → (ℕ → Option Meta) → ℕ
slots_together md_len metas = sum_by (λ head. option_map_or (λ m. length m.map) (metas head) 0)
    (range_with_len 0 md_len)

-- No cluster stands in two slots; every parent is there and read-only, and following parents never comes back; there
-- are at most 2^24 slots.
pub record IsLawful (md_len : ℕ) (metas : ℕ → Option Meta) : Type 0 where
  pub alone : (h k i j cluster : ℕ) (m n : Meta) → metas h ≡ Some m → metas k ≡ Some n → slot m i ≡ Some cluster
      → slot n j ≡ Some cluster → (h ≡ k) × (i ≡ j)
  pub parents : (h p : ℕ) (m : Meta) → metas h ≡ Some m → parent_of m ≡ Some p
      → (parent : Meta) × (metas p ≡ Some parent) × (is_read_only parent.flags ≡ true)
  pub rank : ℕ → ℕ
  pub falls : (h p : ℕ) (m : Meta) → metas h ≡ Some m → parent_of m ≡ Some p → rank p < rank h
  pub few : slots_together md_len metas ≤ 2 ^ 24
