-- What a volume may be called, as a test.
use Rattle.std.specs.Prelude.{ℕ, ◌==◌, nat_le, ◌&&◌, ◌||◌, not, List, Bool, length, slice_index}
use Rattle.std.specs.List.{list_all}

-- bytes from 0x21 to 0x7E
abbrev pub is_graphic : List ℕ → Bool
is_graphic text = list_all (λ b. nat_le 33 b && nat_le b 126) text

-- nothing, or a first byte `@` or `#`
abbrev pub begins_no_name : List ℕ → Bool
begins_no_name text = (length text == 0) || (slice_index text 0 == 64) || (slice_index text 0 == 35)

-- 1 to 63 bytes from 0x21 to 0x7E, the first neither `@` nor `#`
abbrev pub is_name : List ℕ → Bool
is_name text = not (begins_no_name text) && nat_le (length text) 63 && is_graphic text
