-- What contracts see of a source and of a sink in memory.
use Rattle.std.specs.Prelude.{ℕ, ◌==◌, Bool, List}
use Rattle.std.specs.List.{list_any}

-- The bytes that are left, the numbers of the reads that fail, from 1, how many reads there have been, and how many
-- faults.
pub record SourceState : Type 0 where
  pub left : List ℕ
  pub fails : List ℕ
  pub calls : ℕ
  pub faults : ℕ

-- The bytes that were taken, for how many there is room, the numbers of the writes that fail, from 1, how many writes
-- there have been, and how many faults.
pub record SinkState : Type 0 where
  pub written : List ℕ
  pub room : ℕ
  pub fails : List ℕ
  pub calls : ℕ
  pub faults : ℕ

-- the call with this number is to fail
abbrev pub is_failing : List ℕ → ℕ → Bool
is_failing fails call = list_any (λ n. n == call) fails
