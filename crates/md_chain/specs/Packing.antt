-- How items are laid on the pages of a chain: a list of items for each page's body.
use Rattle.std.specs.Prelude.{ℕ, zero, suc, ◌+◌, ◌-◌, ◌/◌, ◌^◌, ◌<◌, ◌≤◌, nat_lt, nat_le, if◌then◌else◌, List, [], ◌∷◌}
use Rattle.std.specs.Prelude.{◌++◌, length, map}
use Rattle.std.specs.List.{flat_map}
use Rattle.volume_model.specs.declared.lists.SlotRun.{SlotRun}
use Rattle.volume_model.specs.declared.text.Xattr.{Xattr}
use Rattle.descriptors.specs.declared.item.Item.{Item}
use Rattle.descriptors.specs.declared.item.Item.TheVariants as item
use Rattle.descriptors.specs.Writing.{item_size}
use Rattle.blob_meta.specs.Says.{runs_in}

-- ---- which items can be laid

-- attributes, and then at most one item of runs, which has some
abbrev pub AreAttributes : List Item → Type 0
AreAttributes [] = Unit {0}
AreAttributes (item.Rle runs ∷ []) = 0 < length runs
AreAttributes (item.Xattr key value ∷ items) = (length key + length value ≤ 4063) × AreAttributes items
AreAttributes (item.InternalXattr key value ∷ items) = (length key + length value ≤ 4063) × AreAttributes items
AreAttributes _ = ⊥

-- flags, then attributes, then at most one item of runs
abbrev pub ArePlannable : List Item → Type 0
ArePlannable (item.Flags invalid data_ro md_ro ∷ items) = AreAttributes items
ArePlannable _ = ⊥

-- one page takes the attribute
abbrev pub FitsPage : Xattr → Type 0
FitsPage x = length x.key + length x.value ≤ 4063

-- the items and the runs in them are few together
abbrev pub AreFew : List Item → Type 0
AreFew items = length items + length (flat_map runs_in items) < 2 ^ 31

-- ---- the pages

-- one run more on the first of these pages
abbrev pub with_run : SlotRun → List (List SlotRun) → List (List SlotRun)
with_run run [] = (run ∷ []) ∷ []
with_run run (piece ∷ pieces) = (run ∷ piece) ∷ pieces

-- The runs in pieces: the first has as many as are left to it, each later one 508, which is what a whole body takes.
abbrev pub pieces : ℕ → List SlotRun → List (List SlotRun)
pieces left [] = [] ∷ []
pieces zero (run ∷ runs) = [] ∷ with_run run (pieces 507 runs)
pieces (suc left) (run ∷ runs) = with_run run (pieces left runs)

-- the item of a page's runs, if it has any
abbrev pub on_page : List SlotRun → List Item
on_page piece = item.Rle piece ∷ []

-- Where 13 bytes are left of the current page it takes as many runs as fit; the others follow on pages of their own.
abbrev pub run_parts : ℕ → List SlotRun → List (List Item)
run_parts room runs = if nat_lt room 13 then [] ∷ map on_page (pieces 508 runs) else map on_page
    (pieces ((room - 5) / 8) runs)

-- before what is already on the first page
abbrev pub on_first : List Item → List (List Item) → List (List Item)
on_first items [] = items ∷ []
on_first items (page ∷ pages) = (items ++ page) ∷ pages

-- What goes to the current page, which has so many bytes left, and to the pages after it. An item that doesn't fit
-- begins a new page. The runs are the last item.
abbrev pub parts_from : ℕ → List Item → List (List Item)
parts_from room [] = [] ∷ []
parts_from room (item.Rle runs ∷ _) = run_parts room runs
parts_from room (one ∷ items) =
    if nat_le (item_size one) room then on_first (one ∷ []) (parts_from (room - item_size one) items)
    else [] ∷ on_first (one ∷ []) (parts_from (4072 - item_size one) items)

-- the items of each page, from the first on
abbrev pub parts_of : List Item → List (List Item)
parts_of items = parts_from 4072 items
