-- The rows in which the program keeps guards, in the order of their heads. Clauses of public calls see none of them.
use Rattle.std.specs.Prelude.{◌≡◌, ℕ, ◌<◌, ◌≤◌, List, length, map as mapped, filter, All, AllPairs}
use Rattle.std.specs.List.{AllWithin, HoldsAt}
use Rattle.std.specs.Ordering.{nat_cmp}
use Rattle.std.specs.FinMap as map
use Rattle.std.specs.FinSet as set
use Rattle.io_freeze.specs.declared.rows.Row.{Row}

-- the heads rise
abbrev pub Rises : List Row → Type 0
Rises rows = AllPairs (λ a b. a.head < b.head) rows

-- the row of a head stands at this place
pub record IsAt (rows : List Row) (head place : ℕ) : Type 0 where
  pub within : place < length rows
  pub there : HoldsAt (λ row. row.head ≡ head) rows place

-- no row has the head, and one would go to this place
pub record IsGap (rows : List Row) (head place : ℕ) : Type 0 where
  pub within : place ≤ length rows
  pub before : AllWithin (λ row. row.head < head) rows 0 place
  pub behind : AllWithin (λ row. head < row.head) rows place (length rows)

-- the generations that the rows hold, by head
abbrev pub generations_in : List Row → map.FinMap nat_cmp ℕ
generations_in rows = map.from_entries (mapped (λ row. (row.head, row.generation)) rows)

-- the heads of the rows that are frozen
abbrev pub frozen_in : List Row → set.FinSet nat_cmp
frozen_in rows = set.from_list (mapped (λ row. row.head) (filter (λ row. row.frozen) rows))

-- the rows' heads rise, their generations were drawn, and they fit into the room, for which there is memory
pub record AreGuardRows (rows : List Row) (capacity drawn room : ℕ) : Type 0 where
  pub rises : Rises rows
  pub numbered : All (λ row. row.generation ≤ drawn) rows
  pub within : length rows ≤ room
  pub reserved : room ≤ capacity
