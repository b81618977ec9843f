-- Which places of a metadata region are heads, what these say, from the first place upwards, and the first one that
-- shows a fault.
use Rattle.std.specs.Prelude.{◌≡◌, ◌⊎◌, ℕ, ◌+◌, ◌^◌, ◌<◌, ◌≤◌, Bool, true, false, List, length, Option, Some, None}
use Rattle.bit_array.specs.Bits.{is_in}
use Rattle.descriptors.specs.declared.item.Item.{Item}
use Rattle.blob_meta.specs.declared.meta.Meta.{Meta}
use Rattle.blob_meta.specs.declared.fault.MetaFault.{MetaFault}
use Rattle.blob_meta.specs.Says.{meta_of}
use Rattle.blob_meta.specs.Faults.{meta_fault}
use Rattle.blob_meta.specs.Resolving.{slots_together}
use Rattle.md_chain.specs.Chain.{Look, Chain, IsBroken}
use Rattle.store_model.specs.Maps.{Metas, Chains}
use Rattle.store_model.specs.Regions.{MdRegion}
use Rattle.store_model.specs.Scans.{head_at, MetaAt, SomeBlob}
use Rattle.unclean_load.specs.declared.fault.LoadFault.{LoadFault}
use Rattle.unclean_load.specs.declared.fault.LoadFault.TheVariants as fault
use Rattle.unclean_load.specs.declared.heads.Heads.{Heads}
use Rattle.unclean_load.specs.declared.heads.Heads.TheVariants.{Listed, ByScan}

-- whether a place is a head: by a scan, where its page is one; or else where it is in the set
abbrev pub has_head : Heads → Look → ℕ → ℕ → Bool
has_head ByScan look len place = head_at look len place
has_head (Listed places) look len place = is_in places place

-- whether heads are those of a set
abbrev pub is_listed : Heads → Bool
is_listed ByScan = false
is_listed (Listed places) = true

-- the set has a bit for each place
abbrev pub PlacesFit : ℕ → Heads → Type 0
PlacesFit md_len ByScan = Unit {0}
PlacesFit md_len (Listed places) = length places ≡ md_len

-- The place is a head, with this metadata and chain, and without fault.
pub record IsHeadOf (look : Look) (r : MdRegion) (heads : Heads) (place : ℕ) (m : Option Meta) (c : Option (List ℕ))
    : Type 0 where
  pub head : has_head heads look r.len place ≡ true
  pub blob : SomeBlob look r place m c

-- The place is no head, and nothing is said of it.
pub record IsNoHead (look : Look) (r : MdRegion) (heads : Heads) (place : ℕ) (m : Option Meta) (c : Option (List ℕ))
    : Type 0 where
  pub no_head : has_head heads look r.len place ≡ false
  pub no_meta : m ≡ None
  pub no_chain : c ≡ None

-- what is said of a place
abbrev pub PlaceSays : Look → MdRegion → Heads → ℕ → Option Meta → Option (List ℕ) → Type 0
PlaceSays look r heads place m c = IsHeadOf look r heads place m c ⊎ IsNoHead look r heads place m c

-- Each head below a place has its chain and metadata without fault, and their maps have at most 2^24 slots together.
pub record AreWholeBelow (look : Look) (r : MdRegion) (heads : Heads) (end : ℕ) (metas : Metas) (chains : Chains)
    : Type 0 where
  pub blobs : (place : ℕ) → place < end → PlaceSays look r heads place (metas place) (chains place)
  pub few : slots_together end metas ≤ 2 ^ 24

-- The head has a chain, and the metadata that its items say has this fault.
pub record SaysWrong (look : Look) (r : MdRegion) (head : ℕ) (why : MetaFault) : Type 0 where
  pub items : List Item
  pub pages : List ℕ
  pub chain : Chain look r.len head items pages
  pub is : meta_fault r.fixed r.clusters (meta_of head items) ≡ Some why

-- The head has metadata without fault, whose map and those of the heads before it have this many slots, more than 2^24.
pub record IsTooMuch (look : Look) (r : MdRegion) (before : Metas) (head slots : ℕ) : Type 0 where
  pub meta : Meta
  pub pages : List ℕ
  pub says : MetaAt look r head meta pages
  pub count : slots ≡ slots_together head before + length meta.map
  pub many : 2 ^ 24 < slots

-- The fault that a head shows, where the heads before it have this metadata.
abbrev pub Shows : Look → MdRegion → Metas → ℕ → LoadFault → Type 0
Shows look r before head (fault.Chain at why) = (at ≡ head) × IsBroken look r.len head why
Shows look r before head (fault.Meta at why) = (at ≡ head) × SaysWrong look r head why
Shows look r before head (fault.MapsTooLarge slots) = IsTooMuch look r before head slots
Shows look r before head _ = ⊥

-- The first head that shows a fault shows this one: all before it are whole.
pub record ShowsFirst (look : Look) (r : MdRegion) (heads : Heads) (why : LoadFault) : Type 0 where
  pub head : ℕ
  pub low : head < r.len
  pub is : has_head heads look r.len head ≡ true
  pub metas : Metas
  pub chains : Chains
  pub before : AreWholeBelow look r heads head metas chains
  pub shows : Shows look r metas head why

-- A fault that comes of the heads is the first that one shows; a failed read and want of memory have causes elsewhere.
abbrev pub IsHeadsFault : Look → MdRegion → Heads → LoadFault → Type 0
IsHeadsFault look r heads fault.ReadFault = Unit {0}
IsHeadsFault look r heads fault.Memory = Unit {0}
IsHeadsFault look r heads why = ShowsFirst look r heads why

-- Every head of the region has this chain and this metadata, without fault; no other place has any; and their maps have
-- at most 2^24 slots together.
pub record AreWhole (look : Look) (r : MdRegion) (heads : Heads) (metas : Metas) (chains : Chains) : Type 0 where
  pub says : (place : ℕ) → PlaceSays look r heads place (metas place) (chains place)
  pub few : slots_together r.len metas ≤ 2 ^ 24
