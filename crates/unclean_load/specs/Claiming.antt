-- What the chains of a store claim of its metadata pages, and when a place is claimed twice.
use Rattle.std.specs.Prelude.{◌≡◌, ◌≢◌, ℕ, ◌<◌, Bool, true, false, ◌||◌, List, Some}
use Rattle.bit_array.specs.Bits.{is_in}
use Rattle.blob_meta.specs.Resolving.{resolved}
use Rattle.md_chain.specs.Chain.{is_among}
use Rattle.md_chain.specs.declared.fault.ChainFault.{ChainFault}
use Rattle.md_chain.specs.declared.fault.ChainFault.TheVariants as chain
use Rattle.store_model.specs.Maps.{Metas, Chains}
use Rattle.unclean_load.specs.declared.fault.LoadFault.{LoadFault}
use Rattle.unclean_load.specs.declared.fault.LoadFault.TheVariants as fault
use Rattle.unclean_load.specs.Reading.{IsChainOf}
use Rattle.unclean_load.specs.Parents.{HaveRightParents, ShowsParentFirst}
use Rattle.unclean_load.specs.Sharing.{IsShared}

-- each head and each chain is of the region
abbrev pub AreChains : ℕ → Chains → Type 0
AreChains md_len chains =
    (head : ℕ) (pages : List ℕ) → chains head ≡ Some pages → (head < md_len) × IsChainOf md_len head pages

-- no place stands in two chains
abbrev pub ChainsAreApart : Chains → Type 0
ChainsAreApart chains =
    (h k place : ℕ) (ps qs : List ℕ) → chains h ≡ Some ps → chains k ≡ Some qs → is_among place ps ≡ true
    → is_among place qs ≡ true → h ≡ k

-- The place stands in this head's chain, and in that of another.
pub record IsInTwo (chains : Chains) (head place : ℕ) : Type 0 where
  pub pages : List ℕ
  pub chain : chains head ≡ Some pages
  pub among : is_among place pages ≡ true
  pub other : ℕ
  pub differs : other ≢ head
  pub others : List ℕ
  pub other_chain : chains other ≡ Some others
  pub other_among : is_among place others ≡ true

-- A head's chain comes back to a place that another's has.
abbrev pub IsTwice : (ℕ → ℕ → Type 0) → ℕ → ChainFault → Type 0
IsTwice twice head (chain.Loop place) = twice head place
IsTwice twice head _ = ⊥

-- want of memory, or a place in two chains, of which this holds
abbrev pub IsPageFault : (ℕ → ℕ → Type 0) → LoadFault → Type 0
IsPageFault twice (fault.Chain head why) = IsTwice twice head why
IsPageFault twice fault.Memory = Unit {0}
IsPageFault twice _ = ⊥

-- the places of a list, below a length
abbrev pub AreBelow : ℕ → List ℕ → Type 0
AreBelow length places = (place : ℕ) → is_among place places ≡ true → place < length

-- none of them was in the set
abbrev pub AreNew : List Bool → List ℕ → Type 0
AreNew bits places = (place : ℕ) → is_among place places ≡ true → is_in bits place ≡ false

-- they were put into it
abbrev pub AreAdded : List Bool → List ℕ → List Bool → Type 0
AreAdded bits places new = (place : ℕ) → is_in new place ≡ (is_in bits place || is_among place places)

-- ---- the three masks

-- the least cluster that stands in two slots
abbrev pub IsClusterFault : ℕ → Metas → LoadFault → Type 0
IsClusterFault md_len metas (fault.Shared cluster a b) = IsShared md_len metas cluster a b
IsClusterFault md_len metas fault.Memory = Unit {0}
IsClusterFault md_len metas _ = ⊥

-- a place in two chains, or a cluster in two slots
abbrev pub IsMaskFault : ℕ → Metas → Chains → LoadFault → Type 0
IsMaskFault md_len metas chains (fault.Chain head why) = IsTwice (IsInTwo chains) head why
IsMaskFault md_len metas chains (fault.Shared cluster a b) = IsShared md_len metas cluster a b
IsMaskFault md_len metas chains fault.Memory = Unit {0}
IsMaskFault md_len metas chains _ = ⊥

-- ---- what recovery makes of the blobs

-- a place in two chains; or, once the metadata is resolved, a fault of parents, or, where there is none, a cluster in
-- two slots
abbrev pub IsRecoveryFault : ℕ → Metas → Chains → LoadFault → Type 0
IsRecoveryFault md_len read chains (fault.Chain head why) = IsTwice (IsInTwo chains) head why
IsRecoveryFault md_len read chains (fault.NoParentBlob blob parent) =
    ShowsParentFirst (resolved read) (fault.NoParentBlob blob parent)
IsRecoveryFault md_len read chains (fault.WritableParent blob parent) =
    ShowsParentFirst (resolved read) (fault.WritableParent blob parent)
IsRecoveryFault md_len read chains (fault.ParentLoop blob) = ShowsParentFirst (resolved read) (fault.ParentLoop blob)
IsRecoveryFault md_len read chains (fault.Shared cluster a b) =
    HaveRightParents (resolved read) × IsShared md_len (resolved read) cluster a b
IsRecoveryFault md_len read chains fault.Memory = Unit {0}
IsRecoveryFault md_len read chains _ = ⊥
