-- The items by which metadata is written.
use Rattle.std.specs.Prelude.{◌≡◌, ℕ, ◌+◌, false, List, [], ◌∷◌, ◌++◌, map}
use Rattle.std.specs.List.{AllByRecursion}
use Rattle.std.specs.Str.{bytes_eq}
use Rattle.volume_model.specs.declared.lists.SlotRun.{SlotRun}
use Rattle.volume_model.specs.declared.text.Xattr.{Xattr}
use Rattle.descriptors.specs.declared.item.Item.{Item}
use Rattle.descriptors.specs.declared.item.Item.TheVariants as item
use Rattle.descriptors.specs.Runs.{slots_in, IsLongest}
use Rattle.blob_meta.specs.declared.meta.Meta.{Meta}
use Rattle.blob_meta.specs.Says.{without_bit_1}

-- bit 1 of `invalid` is set exactly where there is an internal attribute
abbrev pub internal_bit : List Xattr → ℕ
internal_bit [] = 0
internal_bit (x ∷ xs) = 2

-- the flags, of which bit 1 of `invalid` tells of internal attributes
abbrev pub flags_item : Meta → Item
flags_item m = item.Flags (without_bit_1 m.flags.invalid + internal_bit m.internal) m.flags.data_ro m.flags.md_ro

-- an item for each attribute
abbrev pub xattr_items : List Xattr → List Item
xattr_items xs = map (λ x. item.Xattr x.key x.value) xs

-- an item for each internal attribute
abbrev pub internal_items : List Xattr → List Item
internal_items xs = map (λ x. item.InternalXattr x.key x.value) xs

-- a map without slots has no item
abbrev pub run_items : List SlotRun → List Item
run_items [] = []
run_items (r ∷ rs) = item.Rle (r ∷ rs) ∷ []

-- flags, attributes, internal attributes and runs, in this order
abbrev pub items_of : Meta → List SlotRun → List Item
items_of m runs = flags_item m ∷ (xattr_items m.xattrs ++ (internal_items m.internal ++ run_items runs))

-- the items of the metadata, with the longest runs of its map
pub record IsItemsOf (m : Meta) (items : List Item) : Type 0 where
  pub runs : List SlotRun
  pub spelt : slots_in runs ≡ m.map
  pub longest : IsLongest runs
  pub items_are : items ≡ items_of m runs

-- no two names are equal
abbrev pub HasDistinctNames : List Xattr → Type 0
HasDistinctNames [] = Unit {0}
HasDistinctNames (x ∷ xs) = AllByRecursion (λ y. bytes_eq x.key y.key ≡ false) xs × HasDistinctNames xs
