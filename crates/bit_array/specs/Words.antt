-- A set as the program holds it: 64 places a word, the lowest bit first. Clauses see none of it.
use Rattle.std.specs.Prelude.{◌≡◌, ℕ, ◌+◌, ◌/◌, ◌%◌, Bool, ◌==◌, List, length, slice_index, map}
use Rattle.std.specs.List.{range_with_len}
use Rattle.std.specs.Int.{bit_at}
use Rattle.bit_array.specs.Bits.{member_count}

-- whether the words have the bit of a place set
abbrev pub is_set : List ℕ → ℕ → Bool
is_set words at = bit_at (slice_index words (at / 64)) (at % 64) == 1

-- the set that the words hold, of the places below a length
unfoldable pub bits_of : List ℕ → ℕ → List Bool
bits_of words len = map (is_set words) (range_with_len 0 len)

-- there is a word for each place, and the count is the set's
pub record IsCounted (words : List ℕ) (len count : ℕ) : Type 0 where
  pub words_len : length words ≡ (len + 63) / 64
  pub counted : count ≡ member_count (bits_of words len)
