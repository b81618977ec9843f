-- The one spelling of each item.
use Rattle.std.specs.Prelude.{ℕ, ◌+◌, ◌*◌, ◌<◌, ◌^◌, List, [], ◌∷◌, ◌++◌, length}
use Rattle.std.specs.List.{flat_map, sum_by, All}
use Rattle.page_fields.specs.Fields.{number_bytes}
use Rattle.volume_model.specs.declared.lists.SlotRun.{SlotRun}
use Rattle.descriptors.specs.declared.item.Item.{Item}
use Rattle.descriptors.specs.declared.item.Item.TheVariants.{Rle, Xattr, Flags, InternalXattr, Unknown}

-- a run in eight bytes
abbrev pub run_bytes : SlotRun → List ℕ
run_bytes r = number_bytes 4 r.cluster ++ number_bytes 4 r.length

-- the lengths of both texts, and then the texts
unfoldable pub pair_bytes : List ℕ → List ℕ → List ℕ
pair_bytes name value = number_bytes 2 (length name) ++ (number_bytes 2 (length value) ++ (name ++ value))

-- three words of flags
unfoldable pub flags_bytes : ℕ → ℕ → ℕ → List ℕ
flags_bytes invalid data_ro md_ro = number_bytes 8 invalid ++ (number_bytes 8 data_ro ++ number_bytes 8 md_ro)

-- the type of an item's descriptor
abbrev pub kind_of_item : Item → ℕ
kind_of_item (Rle runs) = 1
kind_of_item (Xattr key value) = 2
kind_of_item (Flags invalid data_ro md_ro) = 3
kind_of_item (InternalXattr key value) = 4
kind_of_item (Unknown kind) = kind

-- the bytes after the head; those of an unknown type aren't known
abbrev pub item_body : Item → List ℕ
item_body (Rle runs) = flat_map run_bytes runs
item_body (Xattr key value) = pair_bytes key value
item_body (Flags invalid data_ro md_ro) = flags_bytes invalid data_ro md_ro
item_body (InternalXattr key value) = pair_bytes key value
item_body (Unknown kind) = []

-- a head and its bytes
abbrev pub framed : ℕ → List ℕ → List ℕ
framed kind body = kind ∷ (number_bytes 4 (length body) ++ body)

-- the descriptor of an item
abbrev pub item_bytes : Item → List ℕ
item_bytes item = framed (kind_of_item item) (item_body item)

-- how many bytes it takes
abbrev pub item_size : Item → ℕ
item_size (Rle runs) = 5 + 8 * length runs
item_size (Xattr key value) = 9 + length key + length value
item_size (Flags invalid data_ro md_ro) = 29
item_size (InternalXattr key value) = 9 + length key + length value
item_size (Unknown kind) = 5

-- the descriptors of items, one behind the other
abbrev pub spelling : List Item → List ℕ
spelling items = flat_map item_bytes items

-- how many bytes the items take
abbrev pub spelled_size : List Item → ℕ
spelled_size items = sum_by item_size items

-- The numbers are of the program's widths.
abbrev pub RunFits : SlotRun → Type 0
RunFits r = (r.cluster < 2 ^ 32) × (r.length < 2 ^ 32)

-- the item's numbers fit their fields
abbrev pub ItemFits : Item → Type 0
ItemFits (Rle runs) = All RunFits runs
ItemFits (Xattr key value) = Unit {0}
ItemFits (Flags invalid data_ro md_ro) = (invalid < 2 ^ 64) × (data_ro < 2 ^ 64) × (md_ro < 2 ^ 64)
ItemFits (InternalXattr key value) = Unit {0}
ItemFits (Unknown kind) = kind < 256

-- what can be written: runs, if there is one, and anything else of a known type
abbrev pub IsWritable : Item → Type 0
IsWritable (Rle runs) = 0 < length runs
IsWritable (Xattr key value) = Unit {0}
IsWritable (Flags invalid data_ro md_ro) = Unit {0}
IsWritable (InternalXattr key value) = Unit {0}
IsWritable (Unknown kind) = ⊥
