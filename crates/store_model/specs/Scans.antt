-- What a scan of the metadata region says: the blobs of a store, each with its metadata and its chain.
use Rattle.std.specs.Prelude.{◌≡◌, ◌⊎◌, ℕ, ◌&&◌, ◌==◌, nat_lt, Bool, false, List, Option, Some, None}
use Rattle.crc32c.specs.Crc.{is_sound}
use Rattle.page_disk.specs.Disk.{Image}
use Rattle.md_page.specs.Page.{id_of, sequence_of}
use Rattle.descriptors.specs.declared.item.Item.{Item}
use Rattle.blob_meta.specs.declared.meta.Meta.{Meta}
use Rattle.blob_meta.specs.Says.{meta_of}
use Rattle.blob_meta.specs.Faults.{meta_fault}
use Rattle.md_chain.specs.Chain.{Look, Chain, blob_id, is_among}
use Rattle.store_model.specs.Maps.{Metas, Chains}
use Rattle.store_model.specs.Regions.{MdRegion, look_of}

-- a sound page of sequence 0 with the id of its own place
abbrev pub is_head : ℕ → List ℕ → Bool
is_head place page = is_sound page && (sequence_of page == 0) && (id_of page == blob_id place)

abbrev pub head_at : Look → ℕ → ℕ → Bool
head_at look len place = nat_lt place len && is_head place (look place)

-- The head has a chain of these pages, whose items say this metadata, and it has no fault.
pub record MetaAt (look : Look) (r : MdRegion) (head : ℕ) (meta : Meta) (pages : List ℕ) : Type 0 where
  pub items : List Item
  pub chain : Chain look r.len head items pages
  pub meta_is : meta ≡ meta_of head items
  pub faultless : meta_fault r.fixed r.clusters meta ≡ None

-- a blob, with its metadata and the places of its chain
pub record SomeBlob (look : Look) (r : MdRegion) (head : ℕ) (m : Option Meta) (c : Option (List ℕ)) : Type 0 where
  pub meta : Meta
  pub pages : List ℕ
  pub says : MetaAt look r head meta pages
  pub meta_is : m ≡ Some meta
  pub pages_are : c ≡ Some pages

-- no head, and nothing said of it
pub record NoBlob (look : Look) (r : MdRegion) (head : ℕ) (m : Option Meta) (c : Option (List ℕ)) : Type 0 where
  pub no_head : head_at look r.len head ≡ false
  pub no_meta : m ≡ None
  pub no_chain : c ≡ None

abbrev pub BlobAt : Look → MdRegion → ℕ → Option Meta → Option (List ℕ) → Type 0
BlobAt look r head m c = SomeBlob look r head m c ⊎ NoBlob look r head m c

-- The maps have the metadata and the chain of each head, and nothing else.
abbrev pub Scanned : Look → MdRegion → Metas → Chains → Type 0
Scanned look r metas chains = (head : ℕ) → BlobAt look r head (metas head) (chains head)

-- An image says this metadata, by these chains.
abbrev pub Says : MdRegion → Metas → Chains → Image → Type 0
Says r metas chains image = Scanned (look_of r image) r metas chains

-- no chain has the place
abbrev pub Unlinked : Chains → ℕ → Type 0
Unlinked chains place = (head : ℕ) (pages : List ℕ) → chains head ≡ Some pages → is_among place pages ≡ false
