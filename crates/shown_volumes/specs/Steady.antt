-- Which metadata the store can hold, and which of it is no blob that is being made or removed.
use Rattle.std.specs.Prelude.{◌≡◌, ℕ, ◌+◌, ◌^◌, ◌<◌, ◌≤◌, length, codes, is_some, Some, None}
use Rattle.std.specs.List.{AllByRecursion}
use Rattle.volume_model.specs.Xattrs.{Xattrs, value_of}
use Rattle.volume_model.specs.declared.text.Xattr.{Xattr}
use Rattle.super_block.specs.declared.page.Super.{Super}
use Rattle.super_block.specs.Numbers.{clusters_of, fixed_clusters_of}
use Rattle.blob_meta.specs.declared.meta.Meta.{Meta}
use Rattle.blob_meta.specs.Says.{without_bit_1}
use Rattle.blob_meta.specs.Faults.{meta_fault}
use Rattle.blob_meta.specs.Parents.{parent_of}
use Rattle.blob_meta.specs.Resolving.{mark_of}
use Rattle.blob_meta.specs.Items.{HasDistinctNames}
use Rattle.shown_volumes.specs.Maps.{Metas}

-- attributes that can be written: no two of one name, and each fits the body of a page
pub record CanBeWritten (xattrs : Xattrs) : Type 0 where
  pub names : HasDistinctNames xattrs
  pub short : AllByRecursion (λ (x : Xattr). length x.key + length x.value ≤ 4063) xattrs

-- the metadata of a blob that the store can hold: of a head in the region, without fault
pub record IsStored (s : Super) (head : ℕ) (m : Meta) : Type 0 where
  pub low : head < s.md_len
  pub id : m.id ≡ 2 ^ 32 + head
  pub clear : without_bit_1 m.flags.invalid ≡ m.flags.invalid
  pub xattrs : CanBeWritten m.xattrs
  pub internal : CanBeWritten m.internal
  pub faultless : meta_fault (fixed_clusters_of s) (clusters_of s) m ≡ None

-- an attribute SNAP, where the blob has one, names a head
abbrev pub NamesHead : Meta → Type 0
NamesHead m = is_some (value_of m.internal (codes "SNAP")) ≡ is_some (parent_of m)

-- a blob that is no snapshot which is being made or removed
abbrev pub IsUnmarked : Meta → Type 0
IsUnmarked m = mark_of m ≡ None

-- A blob is steady if the store can hold it, its SNAP names a head, and it isn't being made or removed.
pub record IsSteady (s : Super) (head : ℕ) (m : Meta) : Type 0 where
  pub stored : IsStored s head m
  pub named : NamesHead m
  pub unmarked : IsUnmarked m

-- each blob is steady: then the metadata is resolved as it is
abbrev pub AreSteady : Super → Metas → Type 0
AreSteady s metas = (head : ℕ) (m : Meta) → metas head ≡ Some m → IsSteady s head m
