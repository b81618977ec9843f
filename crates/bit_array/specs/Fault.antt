-- Why a mask isn't read: its first page has another type, or else another number of bits.
use Rattle.std.specs.Prelude.{ℕ, ◌==◌, if◌then◌else◌, Option, Some, None, List, length, take, drop, slice_index}
use Rattle.std.specs.Int.{from_le_bytes, w32}
use Rattle.bit_array.specs.Reading.{MaskReading}
use Rattle.bit_array.specs.declared.reader.MaskFault.{MaskFault}
use Rattle.bit_array.specs.declared.reader.MaskFault.TheVariants.{BadType, BadLength}

-- the number of bits that a first page gives
abbrev pub length_in : List ℕ → ℕ
length_in page = from_le_bytes w32 (take 4 (drop 1 page))

-- the fault of a mask's first page: its type is tested before its number of bits
abbrev pub head_fault : ℕ → ℕ → List ℕ → Option MaskFault
head_fault kind len page =
    if slice_index page 0 == kind
    then (if length_in page == len then None else Some (BadLength (length_in page) len))
    else Some (BadType (slice_index page 0))

-- the fault that the next page shows: only the first one has a head
abbrev pub next_fault : MaskReading → List ℕ → Option MaskFault
next_fault reading page =
    if reading.fed == 0 then head_fault reading.kind (length reading.bits) page else None
