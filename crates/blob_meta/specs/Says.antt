-- The metadata that the items of a chain say.
use Rattle.std.specs.Prelude.{ℕ, ◌+◌, ◌-◌, ◌*◌, ◌/◌, ◌%◌, ◌^◌, not, if◌then◌else◌, List, [], ◌∷◌, ◌++◌, filter, Option}
use Rattle.std.specs.Prelude.{Some, None}
use Rattle.std.specs.List.{filter_map, flat_map, list_any}
use Rattle.std.specs.Option.{option_map}
use Rattle.std.specs.Borrow.{Bor}
use Rattle.std.specs.Str.{bytes_eq}
use Rattle.volume_model.specs.declared.lists.SlotRun.{SlotRun}
use Rattle.volume_model.specs.declared.text.Xattr.{Xattr}
use Rattle.descriptors.specs.declared.item.Item.{Item}
use Rattle.descriptors.specs.declared.item.Item.TheVariants as item
use Rattle.descriptors.specs.Runs.{slots_in}
use Rattle.blob_meta.specs.declared.meta.Flags.{Flags}
use Rattle.blob_meta.specs.declared.meta.Meta.{Meta}

-- ---- flags: those of the last flags item, or zeros

-- the flags after these items
abbrev pub last_flags : Flags → List Item → Flags
last_flags before [] = before
last_flags before (item.Flags invalid data_ro md_ro ∷ items) =
    last_flags (record { invalid = invalid; data_ro = data_ro; md_ro = md_ro }) items
last_flags before (_ ∷ items) = last_flags before items

-- bit 1 of `invalid` follows from the internal attributes, and is given as 0
abbrev pub without_bit_1 : ℕ → ℕ
without_bit_1 invalid = invalid - 2 * (invalid / 2 % 2)

-- the flags that items say
abbrev pub flags_in : List Item → Flags
flags_in items = let f = last_flags (record { invalid = 0; data_ro = 0; md_ro = 0 }) items in
    record f { invalid = without_bit_1 f.invalid }

-- ---- attributes: of equal names the first

-- of equal names the first
abbrev pub firsts : List Xattr → List Xattr
firsts [] = []
firsts (x ∷ xs) = x ∷ filter (λ y. not (bytes_eq y.key x.key)) (firsts xs)

-- one more, unless one of its name is there
abbrev pub with_first : List Xattr → Xattr → List Xattr
with_first xs y = if list_any (λ x. bytes_eq x.key y.key) xs then xs else xs ++ y ∷ []

-- one more, if one was found
abbrev pub with_found : List Xattr → Option Xattr → List Xattr
with_found xs None = xs
with_found xs (Some y) = with_first xs y

-- the attribute of two texts that were found
abbrev pub found_xattr : Option (Bor (List ℕ) × Bor (List ℕ)) → Option Xattr
found_xattr found = option_map (λ p. record { key = p.0.now; value = p.1.now }) found

-- the attribute that an item says
abbrev pub xattr_in : Item → Option Xattr
xattr_in (item.Xattr key value) = Some (record { key = key; value = value })
xattr_in _ = None

-- the internal attribute that an item says
abbrev pub internal_in : Item → Option Xattr
internal_in (item.InternalXattr key value) = Some (record { key = key; value = value })
internal_in _ = None

-- ---- the map: the runs of all descriptors, one after another, written out slot by slot

-- the runs that an item says
abbrev pub runs_in : Item → List SlotRun
runs_in (item.Rle runs) = runs
runs_in _ = []

-- the slots that items say
abbrev pub map_in : List Item → List (Option ℕ)
map_in items = slots_in (flat_map runs_in items)

-- the metadata that the items of the chain at a head say
abbrev pub meta_of : ℕ → List Item → Meta
meta_of head items =
    record {
      id = 2 ^ 32 + head;
      flags = flags_in items;
      xattrs = firsts (filter_map xattr_in items);
      internal = firsts (filter_map internal_in items);
      map = map_in items;
    }
