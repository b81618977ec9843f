-- The super blob of a new logical volume store: what it says, and its page.
use Rattle.std.specs.Prelude.{◌≡◌, ◌<◌, ◌^◌, ℕ, zero, suc, true, List, [], ◌∷◌, Option, Some, None}
use Rattle.std.specs.Option.{option_map}
use Rattle.volume_model.specs.Names.{IsName}
use Rattle.volume_model.specs.Uuids.{uuid_text}
use Rattle.volume_model.specs.Xattrs.{name_key, uuid_key, with_nul, Xattrs}
use Rattle.descriptors.specs.declared.item.Item.{Item}
use Rattle.blob_meta.specs.declared.meta.Meta.{Meta}
use Rattle.blob_meta.specs.Items.{flags_item, xattr_items}
use Rattle.blob_meta.specs.Jobs.{new_meta}
use Rattle.md_chain.specs.Chain.{chain_end, Chain, Look}
use Rattle.md_chain.specs.Planned.{page_written}
use Rattle.store_model.specs.Maps.{Metas, Chains}
use Rattle.store_format.specs.declared.super_blob.StoreName.{StoreName}

-- the store's name and its uuid, each with a NUL
abbrev pub store_xattrs : StoreName → Xattrs
store_xattrs named =
    record { key = name_key; value = with_nul named.name }
    ∷ record { key = uuid_key; value = with_nul (uuid_text named.uuid) } ∷ []

-- a blob at the first metadata page with these two attributes, with flags of zeros and without slots
abbrev pub super_meta : StoreName → Meta
super_meta named = new_meta 0 (store_xattrs named) true 0

-- the descriptors by which it is written
abbrev pub super_items : StoreName → List Item
super_items named = flags_item (super_meta named) ∷ xattr_items (store_xattrs named)

-- its page, which is its whole chain
abbrev pub super_blob_page : StoreName → List ℕ
super_blob_page named = page_written 0 0 (super_items named) chain_end

-- the page of the super blob, if the store has a name
abbrev pub super_blob_page_of : Option StoreName → Option (List ℕ)
super_blob_page_of named = option_map super_blob_page named

-- the super blob alone has metadata, if the store has a name
abbrev pub new_metas : Option StoreName → Metas
new_metas None head = None
new_metas (Some named) zero = Some (super_meta named)
new_metas (Some named) (suc head) = None

-- and its chain is that page
abbrev pub new_chains : Option StoreName → Chains
new_chains None head = None
new_chains (Some named) zero = Some (0 ∷ [])
new_chains (Some named) (suc head) = None

-- The store's name is one, and the super blob's page, where it is the first of a metadata region, is a chain.
pub record IsReadable (named : StoreName) : Type 0 where
  pub is_name : IsName named.name
  pub chain : (look : Look) (md_len : ℕ) → 0 < md_len → md_len < 2 ^ 32 → look 0 ≡ super_blob_page named
      → Chain look md_len 0 (super_items named) (0 ∷ [])

-- the same of a store that may have no name
abbrev pub AreReadable : Option StoreName → Type 0
AreReadable None = Unit {0}
AreReadable (Some named) = IsReadable named
