-- What was taken from the bytes that a source has left.
use Rattle.std.specs.Prelude.{◌≡◌, ℕ, ◌≤◌, List, length, drop}

-- the first n bytes are taken
pub record Takes (left left_now : List ℕ) (n : ℕ) : Type 0 where
  pub within : n ≤ length left
  pub rest : left_now ≡ drop n left
