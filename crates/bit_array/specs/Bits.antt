-- A set of numbers below a length, as a list of that length: the element at a place says whether the place is in the
-- set.
use Rattle.std.specs.Prelude.{◌≡◌, ℕ, ◌-◌, ◌<◌, Bool, true, false, List, ◌++◌, length, replicate, slice_index_or}
use Rattle.std.specs.Prelude.{count_by}

-- whether a place is in the set; no place at or past the length is
abbrev pub is_in : List Bool → ℕ → Bool
is_in bits at = slice_index_or bits at false

-- how many places are in the set
abbrev pub member_count : List Bool → ℕ
member_count bits = count_by (λ b. b) bits

-- so many places from 0 on, below a length
abbrev pub first_of : ℕ → ℕ → List Bool
first_of count len = replicate count true ++ replicate (len - count) false

-- every place below the length is in the set
abbrev pub IsFull : List Bool → Type 0
IsFull bits = (k : ℕ) → k < length bits → is_in bits k ≡ true

-- the least place below the length that isn't in the set
pub record IsLeastClear (bits : List Bool) (at : ℕ) : Type 0 where
  pub within : at < length bits
  pub clear : is_in bits at ≡ false
  pub below : (k : ℕ) → k < at → is_in bits k ≡ true
