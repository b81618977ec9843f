-- What one call of a source or a sink does to its bytes and to its count of faults.
use Rattle.std.specs.Prelude.{◌≡◌, ℕ, ◌<◌, ◌≤◌, List, [], ◌++◌, length, take, drop, Result, IsErr}
use Rattle.page_disk.specs.Disk.{Rose}

-- a fault has a cause: the count never falls, and a fault comes only where it rose
pub record Caused {T E : Type 0} (before after : ℕ) (result : Result T E) : Type 0 where
  pub later : before ≤ after
  pub cause : IsErr result → Rose before after

-- The first n bytes that were left stand at the head of the buffer, and are left no longer. None for a buffer that
-- isn't empty is the end.
pub record MovesBytes (left left_now buffer : List ℕ) (n : ℕ) : Type 0 where
  pub within : n ≤ length left
  pub bytes : take n buffer ≡ take n left
  pub rest : left_now ≡ drop n left
  pub end : n ≡ 0 → 0 < length buffer → left ≡ []

-- the first n bytes of the piece are appended
abbrev pub AppendsBytes : List ℕ → List ℕ → List ℕ → ℕ → Type 0
AppendsBytes written written_now piece n = written_now ≡ written ++ take n piece

-- at most so many bytes are taken from the front
pub record TakesAtMost (left left_now : List ℕ) (most : ℕ) : Type 0 where
  pub count : ℕ
  pub within : count ≤ most
  pub rest : left_now ≡ drop count left
