-- What a device gives while its heads are read.
use Rattle.std.specs.Prelude.{◌≡◌, ℕ, ◌+◌, ◌^◌, ◌<◌, ◌≤◌, Bool, true, List, ◌∷◌, length, Option, Some, None}
use Rattle.std.specs.Option.{option_map}
use Rattle.page_disk.specs.Disk.{Rose}
use Rattle.page_disk.specs.declared.disk.PageDisk.{Ghosts}
use Rattle.super_block.specs.declared.page.Super.{Super}
use Rattle.descriptors.specs.declared.item.Item.{Item}
use Rattle.blob_meta.specs.declared.meta.Meta.{Meta}
use Rattle.blob_meta.specs.Says.{meta_of}
use Rattle.blob_meta.specs.Faults.{meta_fault}
use Rattle.md_chain.specs.Chain.{Look, is_among, IsBroken}
use Rattle.md_chain.specs.Reading.{WasSeen}
use Rattle.store_model.specs.Maps.{Metas, Chains}
use Rattle.store_model.specs.Regions.{MdRegion, region_of}
use Rattle.store_model.specs.Steady.{IsStored}
use Rattle.store_model.specs.Places.{AreDistinct}
use Rattle.unclean_load.specs.declared.heads.Blob.{Blob}
use Rattle.unclean_load.specs.declared.heads.Heads.{Heads}
use Rattle.unclean_load.specs.declared.fault.LoadFault.{LoadFault}
use Rattle.unclean_load.specs.declared.fault.LoadFault.TheVariants as fault
use Rattle.unclean_load.specs.Heads.{PlaceSays, Shows, has_head}

-- whether a place is a head, by the page that the device gave there, where that is asked
pub record GaveHead {D : Type 0} (d : Ghosts D) (s : Super) (disk : D) (heads : Heads) (place : ℕ) (is : Bool)
    : Type 0 where
  pub look : Look
  pub seen : WasSeen d s disk look
  pub is_it : is ≡ has_head heads look s.md_len place

-- the blob's metadata
abbrev pub meta_in : Option Blob → Option Meta
meta_in blob = option_map (λ (b : Blob). b.meta) blob

-- the places of the blob's chain
abbrev pub chain_in : Option Blob → Option (List ℕ)
chain_in blob = option_map (λ (b : Blob). b.pages) blob

-- the blob that the pages which the device gave say of a place
pub record SaysAt {D : Type 0} (d : Ghosts D) (s : Super) (disk : D) (heads : Heads) (place : ℕ) (blob : Option Blob)
    : Type 0 where
  pub look : Look
  pub seen : WasSeen d s disk look
  pub says : PlaceSays look (region_of s) heads place (meta_in blob) (chain_in blob)

-- the place is a head, and the fault is that of its chain or of its metadata
pub record IsBlobFault (look : Look) (r : MdRegion) (heads : Heads) (place : ℕ) (why : LoadFault) : Type 0 where
  pub head : has_head heads look r.len place ≡ true
  pub shows : (before : Metas) → Shows look r before place why

-- a failed read and want of memory have other causes
abbrev pub IsPlaceFault : Look → MdRegion → Heads → ℕ → LoadFault → Type 0
IsPlaceFault look r heads place fault.ReadFault = Unit {0}
IsPlaceFault look r heads place fault.Memory = Unit {0}
IsPlaceFault look r heads place why = IsBlobFault look r heads place why

-- the first fault of a head's chain
abbrev pub IsChainFault : Look → MdRegion → ℕ → LoadFault → Type 0
IsChainFault look r head fault.ReadFault = Unit {0}
IsChainFault look r head fault.Memory = Unit {0}
IsChainFault look r head (fault.Chain at why) = (at ≡ head) × IsBroken look r.len head why
IsChainFault look r head _ = ⊥

-- the fault of the metadata that the items say
abbrev pub IsItemsFault : MdRegion → ℕ → List Item → LoadFault → Type 0
IsItemsFault r head items fault.Memory = Unit {0}
IsItemsFault r head items (fault.Meta at why) =
    (at ≡ head) × (meta_fault r.fixed r.clusters (meta_of head items) ≡ Some why)
IsItemsFault r head items _ = ⊥

-- A failed read, which was counted; or another fault, and no read has failed. A load never answers `NoRoom`.
abbrev pub IsOnlyFault : ℕ → ℕ → LoadFault → Type 0
IsOnlyFault old new fault.ReadFault = Rose old new
IsOnlyFault old new (fault.NoRoom head has wants) = ⊥
IsOnlyFault old new _ = new ≡ old

-- ---- the blobs of a region, whatever the device tells

-- a chain of the region: it begins with its head, and no place stands in it twice
pub record IsChainOf (md_len head : ℕ) (pages : List ℕ) : Type 0 where
  pub rest : List ℕ
  pub first : pages ≡ head ∷ rest
  pub low : (place : ℕ) → is_among place pages ≡ true → place < md_len
  pub differ : AreDistinct pages

-- The store can hold the blobs, and each has a chain.
pub record AreRead (s : Super) (metas : Metas) (chains : Chains) : Type 0 where
  pub stored : (head : ℕ) (m : Meta) → metas head ≡ Some m → IsStored s head m
  pub chain : (head : ℕ) (m : Meta) → metas head ≡ Some m → (pages : List ℕ) × (chains head ≡ Some pages)
      × IsChainOf s.md_len head pages
  pub none : (head : ℕ) → metas head ≡ None → chains head ≡ None

-- no head from a place on has metadata
abbrev pub HasNoneFrom : Metas → ℕ → Type 0
HasNoneFrom metas end = (head : ℕ) → end ≤ head → metas head ≡ None

-- why a blob isn't added to others with so many slots
abbrev pub IsBlobRefused : ℕ → ℕ → Meta → LoadFault → Type 0
IsBlobRefused before head m fault.Memory = Unit {0}
IsBlobRefused before head m (fault.MapsTooLarge slots) = (slots ≡ before + length m.map) × (2 ^ 24 < slots)
IsBlobRefused before head m _ = ⊥
