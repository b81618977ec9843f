-- Runs of slots: what they spell, and which are the longest.
use Rattle.std.specs.Prelude.{◌≡◌, ℕ, ◌+◌, ◌<◌, ◌≤◌, ◌^◌, Bool, false, ◌==◌, if◌then◌else◌, List, [], ◌∷◌, Option}
use Rattle.std.specs.Prelude.{Some, None, nat_lt, ◌-◌, sum_by}
use Rattle.std.specs.List.{flat_map}
use Rattle.volume_model.specs.declared.lists.SlotRun.{SlotRun}
use Rattle.descriptors.specs.Slots.{run_slots}
use Rattle.descriptors.specs.declared.runs.MapFault.{MapFault}
use Rattle.descriptors.specs.declared.runs.MapFault.TheVariants.{TooLarge, Memory}

-- 0 stands for no cluster
abbrev pub cluster_of : ℕ → Option ℕ
cluster_of c = if c == 0 then None else Some c

-- the slots that a run spells
abbrev pub slots_of_run : SlotRun → List (Option ℕ)
slots_of_run r = run_slots (cluster_of r.cluster) r.length

-- the slots that the runs spell, one after another
abbrev pub slots_in : List SlotRun → List (Option ℕ)
slots_in runs = flat_map slots_of_run runs

-- a slot with this cluster goes on with the run
abbrev pub goes_on : SlotRun → ℕ → Bool
goes_on r c = if r.cluster == 0 then c == 0 else c == r.cluster + r.length

-- no run is empty, and no run goes on with the one before it
abbrev pub IsLongest : List SlotRun → Type 0
IsLongest [] = Unit {0}
IsLongest (r ∷ []) = 0 < r.length
IsLongest (r ∷ s ∷ rs) = (0 < r.length) × (goes_on r s.cluster ≡ false) × IsLongest (s ∷ rs)

-- how many slots runs have together
abbrev pub slots_of_all : List SlotRun → ℕ
slots_of_all runs = sum_by (λ r. r.length) runs

-- no run of clusters goes past the last number of 32 bits
abbrev pub Reaches : SlotRun → Type 0
Reaches r = (r.cluster ≡ 0 → ⊥) → r.cluster + r.length ≤ 2 ^ 32

-- the number, or the limit where it is above
abbrev pub at_most : ℕ → ℕ → ℕ
at_most limit n = if nat_lt limit n then limit else n

-- too many slots, or want of memory
abbrev pub IsTooLarge : List SlotRun → MapFault → Type 0
IsTooLarge runs (TooLarge slots) = (2 ^ 20 < slots_of_all runs) × (slots ≡ at_most (2 ^ 64 - 1) (slots_of_all runs))
IsTooLarge runs Memory = Unit {0}
