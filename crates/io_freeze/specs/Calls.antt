-- Lists of calls of guards, and the numbers that they draw.
use Rattle.std.specs.Prelude.{ℕ, ◌+◌, List, [], ◌∷◌, ◌++◌}
use Rattle.io_freeze.specs.Guards.{GuardsState, renewed, guard_removed, frozen_at, released}

-- a call that changes guards, with its head
pub data GuardsCall : Type 0 where
  Add : ℕ → GuardsCall
  Remove : ℕ → GuardsCall
  Freeze : ℕ → GuardsCall
  Release : ℕ → GuardsCall
  Renew : ℕ → GuardsCall

-- the guards after a call; adding a head draws its first number as a renewal draws its next
abbrev pub guards_after : GuardsState → GuardsCall → GuardsState
guards_after g (Add head) = renewed g head
guards_after g (Remove head) = guard_removed g head
guards_after g (Freeze head) = frozen_at g head
guards_after g (Release head) = released g head
guards_after g (Renew head) = renewed g head

-- the numbers that a call draws: one where it makes a new generation, else none
abbrev pub drawn_by : GuardsState → GuardsCall → List ℕ
drawn_by g (Add head) = (g.drawn + 1) ∷ []
drawn_by g (Remove head) = []
drawn_by g (Freeze head) = []
drawn_by g (Release head) = []
drawn_by g (Renew head) = (g.drawn + 1) ∷ []

-- the guards after a list of calls
abbrev pub guards_after_all : GuardsState → List GuardsCall → GuardsState
guards_after_all g [] = g
guards_after_all g (call ∷ calls) = guards_after_all (guards_after g call) calls

-- the numbers that a list of calls draws, in their order
abbrev pub all_drawn_by : GuardsState → List GuardsCall → List ℕ
all_drawn_by g [] = []
all_drawn_by g (call ∷ calls) = drawn_by g call ++ all_drawn_by (guards_after g call) calls
