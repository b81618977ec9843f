-- Which images are loaded, and the fault of one that isn't.
use Rattle.std.specs.Prelude.{◌≡◌, ◌⊎◌, ℕ, ◌^◌, ◌<◌, ◌≤◌, None, Some}
use Rattle.clean_stop.specs.Masks.{HasMasks}
use Rattle.page_disk.specs.Disk.{Image}
use Rattle.running_store.specs.LoadedWhole.{AreMasks}
use Rattle.super_block.specs.declared.masks.Masks.{Masks}
use Rattle.super_block.specs.declared.page.Super.{Super}
use Rattle.super_block.specs.declared.fault.SuperFault.{SuperFault}
use Rattle.super_block.specs.declared.fault.SuperFault.TheVariants.{BadSignature}
use Rattle.super_block.specs.Page.{super_of}
use Rattle.super_block.specs.Faults.{super_fault}
use Rattle.store_model.specs.Maps.{Metas, Chains}
use Rattle.store_model.specs.Regions.{region_of, look_of}
use Rattle.store_model.specs.Scans.{Says}
use Rattle.store_model.specs.StateLaws.{HasFixedPagesOf}
use Rattle.store_model.specs.Steady.{AreNamed}
use Rattle.blob_meta.specs.Resolving.{IsLawful, resolved, slots_together}
use Rattle.unclean_load.specs.declared.fault.LoadFault.{LoadFault}
use Rattle.unclean_load.specs.declared.fault.LoadFault.TheVariants as fault
use Rattle.unclean_load.specs.declared.heads.Heads.{Heads}
use Rattle.unclean_load.specs.Heads.{AreWhole, ShowsFirst}
use Rattle.unclean_load.specs.Parents.{HaveRightParents, ShowsParentFirst}
use Rattle.unclean_load.specs.Quick.{AreHeads, HasNoFaultByMask, HasNoHeadBesideMask, IsQuick}
use Rattle.unclean_load.specs.Sharing.{IsShared}

-- the super block of a device with so many pages, without fault
pub record SuperAt (pages : ℕ) (image : Image) (s : Super) : Type 0 where
  pub some_pages : 0 < pages
  pub faultless : super_fault (image 0) pages ≡ None
  pub is : s ≡ super_of (image 0) pages

-- By these heads the store is loaded: each is whole, what recovery makes of the metadata is lawful, and each SNAP in it
-- names a head.
pub record LoadsBy (s : Super) (image : Image) (heads : Heads) : Type 0 where
  pub metas : Metas
  pub chains : Chains
  pub whole : AreWhole (look_of (region_of s) image) (region_of s) heads metas chains
  pub named : AreNamed (resolved metas)
  pub lawful : IsLawful s.md_len (resolved metas)

-- A device of so many pages is accepted: its super block has no fault, and by its heads the store is loaded.
pub record IsAccepted (pages : ℕ) (image : Image) : Type 0 where
  pub sup : Super
  pub super_at : SuperAt pages image sup
  pub heads : Heads
  pub are : AreHeads sup image heads
  pub loads : LoadsBy sup image heads

-- ---- faults

-- The super block has this fault; that of a device without pages has no signature.
abbrev pub SuperFails : ℕ → Image → SuperFault → Type 0
SuperFails pages image why =
    ((pages ≡ 0) × (why ≡ BadSignature)) ⊎ ((0 < pages) × (super_fault (image 0) pages ≡ Some why))

-- The first head that shows a fault shows this one.
abbrev pub HeadFails : Super → Image → Heads → LoadFault → Type 0
HeadFails s image heads why = ShowsFirst (look_of (region_of s) image) (region_of s) heads why

-- Each head is whole, but once the metadata is resolved the first blob that shows a fault of its parents shows this
-- one.
pub record ParentFails (s : Super) (image : Image) (heads : Heads) (why : LoadFault) : Type 0 where
  pub metas : Metas
  pub chains : Chains
  pub whole : AreWhole (look_of (region_of s) image) (region_of s) heads metas chains
  pub shows : ShowsParentFirst (resolved metas) why

-- Each head is whole, and once the metadata is resolved every blob's parents are right, but this is the least cluster
-- that stands in two slots; the first two are in the maps of these heads.
pub record ClusterFails (s : Super) (image : Image) (heads : Heads) (cluster a b : ℕ) : Type 0 where
  pub metas : Metas
  pub chains : Chains
  pub whole : AreWhole (look_of (region_of s) image) (region_of s) heads metas chains
  pub parents : HaveRightParents (resolved metas)
  pub shared : IsShared s.md_len (resolved metas) cluster a b

-- the fault that these heads show
abbrev pub FailsBy : Super → Image → Heads → LoadFault → Type 0
FailsBy s image heads (fault.NoParentBlob blob parent) = ParentFails s image heads (fault.NoParentBlob blob parent)
FailsBy s image heads (fault.WritableParent blob parent) = ParentFails s image heads (fault.WritableParent blob parent)
FailsBy s image heads (fault.ParentLoop blob) = ParentFails s image heads (fault.ParentLoop blob)
FailsBy s image heads (fault.Shared cluster a b) = ClusterFails s image heads cluster a b
FailsBy s image heads why = HeadFails s image heads why

-- The super block has no fault, but the heads of the store show this one.
pub record StoreFails (pages : ℕ) (image : Image) (why : LoadFault) : Type 0 where
  pub sup : Super
  pub super_at : SuperAt pages image sup
  pub heads : Heads
  pub are : AreHeads sup image heads
  pub fails : FailsBy sup image heads why

-- The fault of an image; a failed read and want of memory are none of it. Marks are no fault.
abbrev pub IsFaultOf : ℕ → Image → LoadFault → Type 0
IsFaultOf pages image (fault.Super why) = SuperFails pages image why
IsFaultOf pages image (fault.NoRoom head has wants) = ⊥
IsFaultOf pages image fault.ReadFault = Unit {0}
IsFaultOf pages image fault.Memory = Unit {0}
IsFaultOf pages image why = StoreFails pages image why

-- a fault of what the device holds
abbrev pub IsImageFault : LoadFault → Type 0
IsImageFault fault.ReadFault = ⊥
IsImageFault fault.Memory = ⊥
IsImageFault _ = Unit {0}

-- what may come of the super block
abbrev pub IsSuperFault : ℕ → Image → LoadFault → Type 0
IsSuperFault pages image (fault.Super why) = SuperFails pages image why
IsSuperFault pages image fault.ReadFault = Unit {0}
IsSuperFault pages image _ = ⊥

-- ---- laws

-- A super block without fault that says this, and metadata of at most 2^24 slots together by a scan; once that is
-- resolved it is lawful, and each SNAP in it names a head.
pub record CanBeScanned (s : Super) (image : Image) (metas : Metas) (chains : Chains) : Type 0 where
  pub faultless : super_fault (image 0) s.device_pages ≡ None
  pub is : s ≡ super_of (image 0) s.device_pages
  pub says : Says (region_of s) metas chains image
  pub few : slots_together s.md_len metas ≤ 2 ^ 24
  pub named : AreNamed (resolved metas)
  pub lawful : IsLawful s.md_len (resolved metas)

-- An image that says metadata by a scan is accepted by the heads that it has: by those of its masks where these name
-- all heads, and none with a fault.
abbrev pub StoresAreAccepted : Type 0
StoresAreAccepted =
    (s : Super) (image : Image) (metas : Metas) (chains : Chains) → CanBeScanned s image metas chains
    → (heads : Heads) → AreHeads s image heads → HasNoFaultByMask s image → HasNoHeadBesideMask s image
    → IsAccepted s.device_pages image

-- A store that isn't clean has no masks that are trusted.
abbrev pub InUseAreAccepted : Type 0
InUseAreAccepted =
    (s : Super) (image : Image) (metas : Metas) (chains : Chains) → CanBeScanned s image metas chains
    → (s.clean ≡ 1 → ⊥) → IsAccepted s.device_pages image × HasNoHeadBesideMask s image

-- An unloaded store, which has the masks that its metadata claims, is accepted; they are trusted, and no head stands
-- beside them.
abbrev pub UnloadedAreAccepted : Type 0
UnloadedAreAccepted =
    (s : Super) (masks : Masks) (image : Image) (metas : Metas) (chains : Chains) → CanBeScanned s image metas chains
    → s.clean ≡ 1 → HasMasks s masks image → AreMasks s metas chains masks
    → IsAccepted s.device_pages image × IsQuick s masks image × HasNoHeadBesideMask s image

-- An image is accepted where one with the same pages in the fixed clusters is.
abbrev pub AcceptedAreKept : Type 0
AcceptedAreKept =
    (pages : ℕ) (image other : Image) → HasFixedPagesOf (super_of (image 0) pages) image other → IsAccepted pages image
    → IsAccepted pages other
