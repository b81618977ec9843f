-- Which places of a metadata region are heads: those of the blob-id mask, where the masks can be trusted, or else those
-- that a scan finds.
use Rattle.std.specs.Prelude.{◌≡◌, ◌⊎◌, ℕ, ◌^◌, ◌≤◌, Bool, true, List}
use Rattle.bit_array.specs.Bits.{is_in}
use Rattle.blob_meta.specs.Resolving.{slots_together}
use Rattle.clean_stop.specs.Masks.{HasMasks, SaysMasks}
use Rattle.md_chain.specs.Chain.{Look}
use Rattle.page_disk.specs.Disk.{Image}
use Rattle.running_store.specs.LoadedWhole.{AreMasks}
use Rattle.store_model.specs.Maps.{Metas, Chains}
use Rattle.store_model.specs.Regions.{MdRegion, look_of, region_of}
use Rattle.store_model.specs.Scans.{Says, head_at}
use Rattle.store_model.specs.StateLaws.{HasFixedPagesOf}
use Rattle.super_block.specs.Faults.{IsFaultless}
use Rattle.super_block.specs.declared.masks.Masks.{Masks}
use Rattle.super_block.specs.declared.page.Super.{Super}
use Rattle.unclean_load.specs.Heads.{AreWhole, ShowsFirst, is_listed}
use Rattle.unclean_load.specs.declared.fault.LoadFault.{LoadFault}
use Rattle.unclean_load.specs.declared.fault.LoadFault.TheVariants as fault
use Rattle.unclean_load.specs.declared.heads.Heads.{Heads}
use Rattle.unclean_load.specs.declared.heads.Heads.TheVariants.{Listed, ByScan}

-- the places of the set have blobs with this metadata and these chains, without fault
abbrev pub AreListed : Look → MdRegion → List Bool → Metas → Chains → Type 0
AreListed look r places metas chains = AreWhole look r (Listed places) metas chains

-- some place of the set shows a fault, or their maps have more than 2^24 slots together
abbrev pub AreFaulty : Look → MdRegion → List Bool → Type 0
AreFaulty look r places = (metas : Metas) (chains : Chains) → AreListed look r places metas chains → ⊥

-- The masks are what the blobs of the blob-id mask claim.
pub record AreClaimed (s : Super) (masks : Masks) (image : Image) : Type 0 where
  pub metas : Metas
  pub chains : Chains
  pub blobs : AreListed (look_of (region_of s) image) (region_of s) masks.blobs metas chains
  pub claims : AreMasks s metas chains masks

-- The masks are trusted: the store is clean, they can be read, and they are what their blobs claim; or one of these
-- shows a fault, which is the image's then.
pub record IsQuick (s : Super) (masks : Masks) (image : Image) : Type 0 where
  pub clean : s.clean ≡ 1
  pub says : SaysMasks s masks image
  pub trusted : AreClaimed s masks image ⊎ AreFaulty (look_of (region_of s) image) (region_of s) masks.blobs

-- The heads of a store: those of the blob-id mask, where the masks are trusted, or else those that a scan finds.
abbrev pub AreHeads : Super → Image → Heads → Type 0
AreHeads s image (Listed places) = (masks : Masks) × IsQuick s masks image × (places ≡ masks.blobs)
AreHeads s image ByScan = (masks : Masks) → IsQuick s masks image → ⊥

-- The metadata and the chains are those of the heads of the store; the load was a quick one, where these are those of
-- its mask.
pub record IsReadBy (quick : Bool) (s : Super) (image : Image) (metas : Metas) (chains : Chains) : Type 0 where
  pub heads : Heads
  pub are : AreHeads s image heads
  pub quick_is : quick ≡ is_listed heads
  pub whole : AreWhole (look_of (region_of s) image) (region_of s) heads metas chains

-- Of the heads of the store the first that shows a fault shows this one.
pub record ShowsBy (s : Super) (image : Image) (why : LoadFault) : Type 0 where
  pub heads : Heads
  pub are : AreHeads s image heads
  pub shows : ShowsFirst (look_of (region_of s) image) (region_of s) heads why

-- a failed read and want of memory have causes elsewhere
abbrev pub IsFaultFound : Super → Image → LoadFault → Type 0
IsFaultFound s image fault.ReadFault = Unit {0}
IsFaultFound s image fault.Memory = Unit {0}
IsFaultFound s image why = ShowsBy s image why

-- ---- heads beside the mask

-- no place outside the set is a head by a scan
abbrev pub HasNoOtherHead : Look → MdRegion → List Bool → Type 0
HasNoOtherHead look r places = (place : ℕ) → head_at look r.len place ≡ true → is_in places place ≡ true

-- Where the masks are trusted no page outside the blob-id mask is a head: what is loaded is then what a scan says.
abbrev pub HasNoHeadBesideMask : Super → Image → Type 0
HasNoHeadBesideMask s image =
    (masks : Masks) → IsQuick s masks image → HasNoOtherHead (look_of (region_of s) image) (region_of s) masks.blobs

-- where the masks are trusted, no head that they name shows a fault
abbrev pub HasNoFaultByMask : Super → Image → Type 0
HasNoFaultByMask s image =
    (masks : Masks) → IsQuick s masks image → AreFaulty (look_of (region_of s) image) (region_of s) masks.blobs → ⊥

-- ---- laws

-- A clean store with the masks that its metadata claims is loaded by them, and no head stands beside them.
abbrev pub UnloadedAreQuick : Type 0
UnloadedAreQuick =
    (s : Super) (masks : Masks) (image : Image) (metas : Metas) (chains : Chains) → IsFaultless s → s.clean ≡ 1
    → HasMasks s masks image → Says (region_of s) metas chains image → slots_together s.md_len metas ≤ 2 ^ 24
    → AreMasks s metas chains masks → IsQuick s masks image × HasNoHeadBesideMask s image

-- Where no other place is a head, the blobs of the set are those of a scan.
abbrev pub ListedAreScanned : Type 0
ListedAreScanned =
    (s : Super) (image : Image) (places : List Bool) (metas : Metas) (chains : Chains)
    → AreListed (look_of (region_of s) image) (region_of s) places metas chains
    → HasNoOtherHead (look_of (region_of s) image) (region_of s) places → Says (region_of s) metas chains image

-- The masks of an image are trusted where those of one with the same pages in the fixed clusters are.
abbrev pub QuickIsKept : Type 0
QuickIsKept =
    (s : Super) (image other : Image) → IsFaultless s → HasFixedPagesOf s image other → (masks : Masks)
    → IsQuick s masks image → IsQuick s masks other

-- An image has no head beside its mask where one with the same pages in the fixed clusters has none.
abbrev pub NoHeadIsKept : Type 0
NoHeadIsKept =
    (s : Super) (image other : Image) → IsFaultless s → HasFixedPagesOf s image other → HasNoHeadBesideMask s image
    → HasNoHeadBesideMask s other
