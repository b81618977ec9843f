-- The parents of blobs: what a store needs of them, and the first blob that shows a fault of its own.
use Rattle.std.specs.Prelude.{◌≡◌, ℕ, zero, suc, ◌<◌, true, false, Option, Some, None, codes}
use Rattle.std.specs.Option.{option_and_then, option_map}
use Rattle.page_fields.specs.Fields.{number}
use Rattle.volume_model.specs.Xattrs.{value_of}
use Rattle.blob_meta.specs.declared.meta.Meta.{Meta}
use Rattle.blob_meta.specs.Parents.{parent_of, is_read_only}
use Rattle.store_model.specs.Maps.{Metas}
use Rattle.store_model.specs.Steady.{NamesHead}
use Rattle.unclean_load.specs.declared.fault.LoadFault.{LoadFault}
use Rattle.unclean_load.specs.declared.fault.LoadFault.TheVariants as fault

-- the number that a blob's attribute SNAP gives, if it has one
abbrev pub snap_number : Meta → Option ℕ
snap_number m = option_map (number 8) (value_of m.internal (codes "SNAP"))

-- the parent of the blob at a place, if there is a blob and it has one
abbrev pub parent_at : Metas → ℕ → Option ℕ
parent_at metas place = option_and_then parent_of (metas place)

-- the place to which following parents from a head comes in so many steps, where it goes on so far
abbrev pub ancestor : Metas → ℕ → ℕ → Option ℕ
ancestor metas head zero = Some head
ancestor metas head (suc steps) = option_and_then (parent_at metas) (ancestor metas head steps)

-- Following parents from a head comes to some place a second time.
pub record ComesBack (metas : Metas) (head : ℕ) : Type 0 where
  pub place : ℕ
  pub first : ℕ
  pub second : ℕ
  pub later : first < second
  pub at_first : ancestor metas head first ≡ Some place
  pub at_second : ancestor metas head second ≡ Some place

-- SNAP, where a blob has it, names a blob that is there and read-only.
pub record HasRightParent (metas : Metas) (m : Meta) : Type 0 where
  pub named : NamesHead m
  pub there : (p : ℕ) → parent_of m ≡ Some p
      → (parent : Meta) × (metas p ≡ Some parent) × (is_read_only parent.flags ≡ true)

-- Every blob's parent is right, and ranks fall from each blob to its parent: so following parents never comes back.
pub record HaveRightParents (metas : Metas) : Type 0 where
  pub right : (head : ℕ) (m : Meta) → metas head ≡ Some m → HasRightParent metas m
  pub rank : ℕ → ℕ
  pub falls : (h p : ℕ) (m : Meta) → metas h ≡ Some m → parent_of m ≡ Some p → rank p < rank h

-- ---- faults

-- SNAP gives this number, which names no blob that is there.
pub record NamesNoBlob (metas : Metas) (m : Meta) (parent : ℕ) : Type 0 where
  pub gives : snap_number m ≡ Some parent
  pub none : option_and_then metas (parent_of m) ≡ None

-- The parent is there, and isn't read-only.
pub record HasWritableParent (metas : Metas) (m : Meta) (parent : ℕ) : Type 0 where
  pub named : parent_of m ≡ Some parent
  pub blob : Meta
  pub there : metas parent ≡ Some blob
  pub writable : is_read_only blob.flags ≡ false

-- The fault of its parents that the blob at a head shows.
abbrev pub ShowsParent : Metas → ℕ → Meta → LoadFault → Type 0
ShowsParent metas head m (fault.NoParentBlob blob parent) = (blob ≡ head) × NamesNoBlob metas m parent
ShowsParent metas head m (fault.WritableParent blob parent) = (blob ≡ head) × HasWritableParent metas m parent
ShowsParent metas head m (fault.ParentLoop blob) = (blob ≡ head) × HasRightParent metas m × ComesBack metas head
ShowsParent metas head m _ = ⊥

-- The first head whose blob shows a fault of its parents shows this one.
pub record ShowsParentFirst (metas : Metas) (why : LoadFault) : Type 0 where
  pub head : ℕ
  pub meta : Meta
  pub is : metas head ≡ Some meta
  pub before : (k : ℕ) (m : Meta) → k < head → metas k ≡ Some m → HasRightParent metas m
  pub ends : (k : ℕ) (m : Meta) → k < head → metas k ≡ Some m → ComesBack metas k → ⊥
  pub shows : ShowsParent metas head meta why

-- want of memory, or a fault of the parents
abbrev pub IsParentFault : Metas → LoadFault → Type 0
IsParentFault metas fault.Memory = Unit {0}
IsParentFault metas why = ShowsParentFirst metas why
