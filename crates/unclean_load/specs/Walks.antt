-- Walks along parents, while each blob of metadata is tested.
use Rattle.std.specs.Prelude.{◌≡◌, ℕ, ◌<◌, Bool, false, not, List, length, Option, Some, None, codes, slice_index_or}
use Rattle.std.specs.Option.{option_map_or}
use Rattle.volume_model.specs.Xattrs.{value_of}
use Rattle.blob_meta.specs.declared.meta.Meta.{Meta}
use Rattle.blob_meta.specs.Parents.{is_read_only}
use Rattle.store_model.specs.Maps.{Metas}
use Rattle.unclean_load.specs.declared.fault.LoadFault.{LoadFault}
use Rattle.unclean_load.specs.declared.fault.LoadFault.TheVariants as fault
use Rattle.unclean_load.specs.Parents.{ancestor, parent_at, HasWritableParent, NamesNoBlob}

-- Following parents from a head ends: after so many steps it has come to a place from which it goes no further.
pub record ParentsEnd (metas : Metas) (head : ℕ) : Type 0 where
  pub steps : ℕ
  pub last : ℕ
  pub comes : ancestor metas head steps ≡ Some last
  pub no_further : parent_at metas last ≡ None

-- each SNAP has 8 bytes
abbrev pub HaveLongMarks : Metas → Type 0
HaveLongMarks metas =
    (head : ℕ) (m : Meta) (bytes : List ℕ) → metas head ≡ Some m → value_of m.internal (codes "SNAP") ≡ Some bytes
    → length bytes ≡ 8

-- a blob is there that isn't read-only
abbrev pub is_writable_at : Metas → ℕ → Bool
is_writable_at metas place = option_map_or (λ m. not (is_read_only m.flags)) (metas place) false

-- the head from which the first walk began that came to a place
abbrev pub first_walk : List (Option ℕ) → ℕ → Option ℕ
first_walk begun place = slice_index_or begun place None

-- From each place to which walks came so far following parents ends; the walks began below a head.
pub record AreWalked (metas : Metas) (begun : List (Option ℕ)) (head : ℕ) : Type 0 where
  pub low : (place first : ℕ) → first_walk begun place ≡ Some first → first < head
  pub ends : (place first : ℕ) → first_walk begun place ≡ Some first → ParentsEnd metas place

-- the fault that a blob's own parent shows
abbrev pub ShowsOwnParent : Metas → ℕ → Meta → LoadFault → Type 0
ShowsOwnParent metas head m (fault.NoParentBlob blob parent) = (blob ≡ head) × NamesNoBlob metas m parent
ShowsOwnParent metas head m (fault.WritableParent blob parent) = (blob ≡ head) × HasWritableParent metas m parent
ShowsOwnParent metas head m _ = ⊥
