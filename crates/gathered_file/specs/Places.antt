-- Where a page lies beside a run of pages that is kept.
use Rattle.std.specs.Prelude.{◌≡◌, ◌⊎◌, ◌+◌, ◌*◌, ◌<◌, ◌≤◌, ℕ}
use Rattle.gathered_file.specs.declared.place.Place.{Place}
use Rattle.gathered_file.specs.declared.place.Place.TheVariants.{Kept, Outside, Across}

-- the 4096 bytes from this offset on, and a run of so many pages from its start on
abbrev pub IsPlace : (start count offset : ℕ) → Place → Type 0
IsPlace start count offset (Kept index) = (index < count) × (offset ≡ start + index * 4096)
IsPlace start count offset Outside = (offset + 4096 ≤ start) ⊎ (start + count * 4096 ≤ offset)
IsPlace start count offset Across = Unit {0}
