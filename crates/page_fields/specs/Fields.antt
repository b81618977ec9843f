-- A field of a page: its bytes, and the number in them, the lowest byte first.
use Rattle.std.specs.Prelude.{ℕ, List, take, drop}
use Rattle.byteorder.specs.Endian.{little_number, little_bytes}

-- the len bytes from place at
unfoldable pub field : ℕ → ℕ → List ℕ → List ℕ
field at len page = take len (drop at page)

-- the number in the first n bytes
unfoldable pub number : ℕ → List ℕ → ℕ
number n bytes = little_number n bytes

-- the n bytes of a number
unfoldable pub number_bytes : ℕ → ℕ → List ℕ
number_bytes n x = little_bytes n x

-- the number in the n bytes from place at
abbrev pub number_at : ℕ → ℕ → List ℕ → ℕ
number_at at n page = number n (field at n page)
