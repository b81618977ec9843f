-- A mask on disk: a set written as whole pages of 4096 bytes. A mask is its type in one byte, the number of its bits in
-- four bytes with the lowest first, and then the bits, the lowest of each byte first.
use Rattle.std.specs.Prelude.{ℕ, ◌+◌, ◌-◌, ◌*◌, ◌/◌, ◌%◌, zero, suc, Bool, ◌==◌, if◌then◌else◌, List, ◌∷◌, ◌++◌, length}
use Rattle.std.specs.Prelude.{take, drop, map, slice_index}
use Rattle.std.specs.List.{range_with_len}
use Rattle.std.specs.Int.{bit_at, to_le_bytes, w32}
use Rattle.bit_array.specs.Bits.{is_in}

-- how many pages a mask of this many bits takes
abbrev pub mask_pages : ℕ → ℕ
mask_pages len = (5 + (len + 7) / 8 + 4095) / 4096

-- the bit of a place: a place past the last one is clear
abbrev pub bit_value : List Bool → ℕ → ℕ
bit_value bits at = if is_in bits at then 1 else 0

-- so many bits from a place on as a number, the lowest first
unfoldable pub packed : List Bool → ℕ → ℕ → ℕ
packed bits at zero = 0
packed bits at (suc n) = bit_value bits at + 2 * packed bits (at + 1) n

-- the byte that holds the bits 8 i to 8 i + 7
unfoldable pub packed_byte : List Bool → ℕ → ℕ
packed_byte bits i = packed bits (8 * i) 8

-- the whole text of a mask, up to the end of its last page
unfoldable pub mask_text : ℕ → List Bool → List ℕ
mask_text kind bits =
    (kind ∷ to_le_bytes w32 (length bits)) ++
    map (packed_byte bits) (range_with_len 0 (4096 * mask_pages (length bits) - 5))

-- a page of a text, counted from 0
abbrev pub text_page : ℕ → List ℕ → List ℕ
text_page index text = take 4096 (drop (4096 * index) text)

-- whether a text has the bit of a place set
abbrev pub text_bit : List ℕ → ℕ → Bool
text_bit text at = bit_at (slice_index text (5 + at / 8)) (at % 8) == 1

-- the set that a text says: its first bits, as many as asked, whatever stands after them
unfoldable pub bits_in : ℕ → List ℕ → List Bool
bits_in len text = map (text_bit text) (range_with_len 0 len)
