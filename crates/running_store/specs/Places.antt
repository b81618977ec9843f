-- Places in maps of blobs, which are taken while want of memory can still be answered.
use Rattle.std.specs.Prelude.{ℕ, ◌<◌, IfSome, IsSome, List, [], ◌∷◌, Option, None, Some, ◌≡◌, ◌^◌, ◌-◌}
use Rattle.std.specs.Ordering.{nat_cmp}
use Rattle.std.specs.FinMap as map
use Rattle.io_freeze.specs.Guards.{GuardsState, renewed, released}
use Rattle.running_store.specs.declared.entries.EntryChange.{EntryChange}

-- A map takes a value at a head without memory: it has the head, or there is this room for one head more.
abbrev pub HasPlace : {V : Type 0} → map.FinMap nat_cmp V → ℕ → Option ℕ → Type 0
HasPlace m head None = IsSome (map.get m head)
HasPlace m head (Some room) = map.len m < room

-- the map with a value at a head, or without the head
abbrev pub changed_at : {V : Type 0} → map.FinMap nat_cmp V → ℕ → Option V → map.FinMap nat_cmp V
changed_at m head None = map.remove m head
changed_at m head (Some value) = map.insert m head value

abbrev pub with_change : {V : Type 0} → map.FinMap nat_cmp V → EntryChange V → map.FinMap nat_cmp V
with_change m x = changed_at m x.head x.value

-- it takes the value of a change, if that has one
abbrev pub HasPlaceFor : {V : Type 0} → map.FinMap nat_cmp V → EntryChange V → Type 0
HasPlaceFor m x = IfSome x.value (λ value. HasPlace m x.head x.room)

-- the same of a change, if there is one
abbrev pub with_changes : {V : Type 0} → map.FinMap nat_cmp V → Option (EntryChange V) → map.FinMap nat_cmp V
with_changes m None = m
with_changes m (Some x) = with_change m x

-- ---- guards

-- these heads get the next numbers as their generations, one after another
abbrev pub with_numbers : GuardsState → List ℕ → GuardsState
with_numbers guards [] = guards
with_numbers guards (head ∷ heads) = with_numbers (renewed guards head) heads

-- there is room for each that has none so far, and a number is left for each
abbrev pub CanNumber : GuardsState → List ℕ → Type 0
CanNumber guards [] = Unit {0}
CanNumber guards (head ∷ heads) =
    (map.get guards.generations head ≡ None → map.len guards.generations < guards.room)
    × (guards.drawn < 2 ^ 64 - 1) × CanNumber (renewed guards head) heads

-- the blob that a job froze isn't frozen any more
abbrev pub thawed : GuardsState → Option ℕ → GuardsState
thawed guards None = guards
thawed guards (Some head) = released guards head
