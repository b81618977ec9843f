-- Laying items on pages one by one.
use Rattle.std.specs.Prelude.{◌<◌, ◌≤◌, ◌+◌, List, ◌++◌, length}
use Rattle.descriptors.specs.declared.item.Item.{Item}
use Rattle.descriptors.specs.declared.item.Item.TheVariants as item
use Rattle.md_chain.specs.Packing.{on_first}

-- an item of runs
abbrev pub IsRuns : Item → Type 0
IsRuns (item.Rle runs) = Unit {0}
IsRuns _ = ⊥

-- flags, some runs, or an attribute that one page takes
abbrev pub CanPack : Item → Type 0
CanPack (item.Rle runs) = 0 < length runs
CanPack (item.Flags invalid data_ro md_ro) = Unit {0}
CanPack (item.Xattr key value) = length key + length value ≤ 4063
CanPack (item.InternalXattr key value) = length key + length value ≤ 4063
CanPack (item.Unknown kind) = ⊥

-- the pages that are full, and then those to come, of which the first has these items already
abbrev pub laid : List (List Item) → List Item → List (List Item) → List (List Item)
laid full current parts = full ++ on_first current parts
