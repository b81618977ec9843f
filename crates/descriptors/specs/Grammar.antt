-- Which items a body spells, by cases on the bytes.
use Rattle.std.specs.Prelude.{◌≡◌, ℕ, ◌+◌, ◌<◌, ◌≤◌, List, [], ◌∷◌, length, take, drop, get_or, Some, None}
use Rattle.descriptors.specs.declared.item.Item.{Item}
use Rattle.descriptors.specs.declared.item.ItemFault.{ItemFault}
use Rattle.descriptors.specs.declared.item.ItemFault.TheVariants.{BadItem, Memory}
use Rattle.descriptors.specs.Numbers.{number_from}
use Rattle.descriptors.specs.Rows.{row}

-- a head stands at the front, with the bytes that it counts
pub record Descriptor (bytes : List ℕ) (kind : ℕ) (body rest : List ℕ) : Type 0 where
  pub head : 5 ≤ length bytes
  pub fits : 5 + length body ≤ length bytes
  pub kind_is : kind ≡ get_or bytes 0 0
  pub size_is : length body ≡ number_from 1 4 bytes
  pub body_is : body ≡ take (length body) (drop 5 bytes)
  pub rest_is : rest ≡ drop (5 + length body) bytes

-- the bytes spell this list of items
pub data Spells : List ℕ → List Item → Type 0 where
  -- fewer than five bytes are left
  short : (bytes : List ℕ) → length bytes < 5 → Spells bytes []
  -- a padding descriptor of no bytes ends the list, whatever follows
  ends : (bytes body rest : List ℕ) → Descriptor bytes 0 body rest → length body ≡ 0 → Spells bytes []
  -- another padding descriptor adds nothing
  padding : (bytes body rest : List ℕ) (items : List Item) → Descriptor bytes 0 body rest → 0 < length body
      → Spells rest items → Spells bytes items
  -- any other adds the item of its row
  adds : (bytes : List ℕ) (kind : ℕ) (body rest : List ℕ) (item : Item) (items : List Item)
      → Descriptor bytes kind body rest → 0 < kind → row kind body ≡ Some item → Spells rest items
      → Spells bytes (item ∷ items)

-- the first fault is at this place, at a descriptor of this type
pub data Spoils : List ℕ → ℕ → ℕ → Type 0 where
  -- its end is past the bytes
  past : (bytes : List ℕ) → 5 ≤ length bytes → length bytes < 5 + number_from 1 4 bytes
      → Spoils bytes 0 (get_or bytes 0 0)
  -- its bytes don't fit its row
  bad : (bytes : List ℕ) (kind : ℕ) (body rest : List ℕ) → Descriptor bytes kind body rest → 0 < kind
      → row kind body ≡ None → Spoils bytes 0 kind
  -- it comes after padding
  after_padding : (bytes body rest : List ℕ) (at kind : ℕ) → Descriptor bytes 0 body rest → 0 < length body
      → Spoils rest at kind → Spoils bytes (5 + length body + at) kind
  -- it comes after an item
  after_item : (bytes : List ℕ) (first : ℕ) (body rest : List ℕ) (item : Item) (at kind : ℕ)
      → Descriptor bytes first body rest → 0 < first → row first body ≡ Some item → Spoils rest at kind
      → Spoils bytes (5 + length body + at) kind

-- a fault that is answered is the first one; want of memory may come anywhere
abbrev pub FaultAt : List ℕ → ItemFault → Type 0
FaultAt bytes (BadItem at kind) = Spoils bytes at kind
FaultAt bytes Memory = Unit {0}
