-- Numbers at a place in bytes, the lowest byte first.
use Rattle.std.specs.Prelude.{ℕ, List, drop}
use Rattle.page_fields.specs.Fields.{number}

-- the number in the n bytes from place at
unfoldable pub number_from : ℕ → ℕ → List ℕ → ℕ
number_from at n bytes = number n (drop at bytes)
