-- What the bytes of one descriptor say, by its type.
use Rattle.std.specs.Prelude.{ℕ, zero, suc, ◌+◌, ◌/◌, ◌%◌, ◌||◌, nat_lt, ◌==◌, not, List, [], ◌∷◌, length, take, drop}
use Rattle.std.specs.Prelude.{Option, Some, None, if◌then◌else◌}
use Rattle.volume_model.specs.declared.lists.SlotRun.{SlotRun}
use Rattle.descriptors.specs.declared.item.Item.{Item}
use Rattle.descriptors.specs.declared.item.Item.TheVariants.{Rle, Xattr, Flags, InternalXattr, Unknown}
use Rattle.descriptors.specs.Numbers.{number_from}

-- the first `count` runs, eight bytes each
abbrev pub spelled_runs : ℕ → List ℕ → List SlotRun
spelled_runs zero bytes = []
spelled_runs (suc count) bytes = record { cluster = number_from 0 4 bytes; length = number_from 4 4 bytes }
    ∷ spelled_runs count (drop 8 bytes)

-- a list of runs, whole and not empty
unfoldable pub rle : List ℕ → Option Item
rle body = if (length body == 0) || not (length body % 8 == 0) then None else Some
    (Rle (spelled_runs (length body / 8) body))

-- two lengths, a name and a value
unfoldable pub pair_in : List ℕ → Option (List ℕ × List ℕ)
pair_in body =
    if nat_lt (length body) 4 then None
    else (if length body == 4 + number_from 0 2 body + number_from 2 2 body
    then Some (take (number_from 0 2 body) (drop 4 body), drop (4 + number_from 0 2 body) body)
    else None)

-- an attribute of these two texts
abbrev pub xattr_of : Option (List ℕ × List ℕ) → Option Item
xattr_of None = None
xattr_of (Some p) = Some (Xattr p.0 p.1)

-- an internal attribute of these two texts
abbrev pub internal_of : Option (List ℕ × List ℕ) → Option Item
internal_of None = None
internal_of (Some p) = Some (InternalXattr p.0 p.1)

-- three words of flags in 24 bytes
unfoldable pub flags : List ℕ → Option Item
flags body = if length body == 24 then Some (Flags (number_from 0 8 body) (number_from 8 8 body)
    (number_from 16 8 body)) else None

-- the item that the bytes after the head say, or None where they are bad; type 0 is padding and has no row
abbrev pub row : ℕ → List ℕ → Option Item
row kind body =
    if kind == 1 then rle body
    else (if kind == 2 then xattr_of (pair_in body)
    else (if kind == 3 then flags body
    else (if kind == 4 then internal_of (pair_in body)
    else Some (Unknown kind))))
