-- What a state of a run says: slots, first commands, and its parts with something changed.
use Rattle.std.specs.Prelude.{ℕ, zero, suc, ◌==◌, if◌then◌else◌, Option, Some, None, Bool, true, false, not, List, []}
use Rattle.std.specs.Prelude.{◌∷◌}
use Rattle.run_work.specs.RunState.{AtCopying, AtDecided, AtEnded, AtIdle, AtInJob, AtReady, BlobInRun, BlobsInRun}
use Rattle.run_work.specs.RunState.{CommandInRun, FoundHeads, JobInRun, MetadataCommand, PageRead, PageWrite}
use Rattle.run_work.specs.RunState.{PhaseInRun, RowInRun, RowsInRun, StageInRun}

-- ---- slots

-- whether the slot of this number has a cluster; none where there is no such slot
abbrev pub slot_at : List Bool → ℕ → Option Bool
slot_at [] k = None
slot_at (x ∷ xs) zero = Some x
slot_at (x ∷ xs) (suc k) = slot_at xs k

-- the slots with one filled
abbrev pub with_filled : List Bool → ℕ → List Bool
with_filled [] k = []
with_filled (x ∷ xs) zero = true ∷ xs
with_filled (x ∷ xs) (suc k) = x ∷ with_filled xs k

abbrev pub slot_in : Option BlobInRun → ℕ → Option Bool
slot_in None k = None
slot_in (Some b) k = slot_at b.slots k

-- the slot of the blob at a head, if there is a head
abbrev pub slot_found : BlobsInRun → Option ℕ → ℕ → Option Bool
slot_found blobs None k = None
slot_found blobs (Some head) k = slot_in (blobs head) k

abbrev pub is_filled : Option Bool → Bool
is_filled None = false
is_filled (Some t) = t

abbrev pub is_empty : Option Bool → Bool
is_empty None = false
is_empty (Some t) = not t

abbrev pub has_generation : Option BlobInRun → ℕ → Bool
has_generation None n = false
has_generation (Some b) n = b.generation == n

-- ---- rows

-- one row is another
abbrev pub with_row_in_run : RowsInRun → ℕ → RowInRun → RowsInRun
with_row_in_run rows ch row k = if k == ch then row else rows k

-- a row at another stage, with its claim kept
abbrev pub row_at : RowInRun → StageInRun → RowInRun
row_at row stage = record row { stage = stage }

-- a row at another stage, its claim given back
abbrev pub unclaimed_at : RowInRun → StageInRun → RowInRun
unclaimed_at row stage = record row { stage = stage; claim = None }

-- a row whose first command is logged, its claim given back
abbrev pub logged_row : List CommandInRun → StageInRun → RowInRun
logged_row commands stage = record { left = commands; stage = stage; claim = None }

-- the stage once a page is copied and so many are left
abbrev pub stage_of_copy : ℕ → StageInRun
stage_of_copy zero = AtReady
stage_of_copy (suc left) = AtCopying (suc left)

-- the metadata thread's own row is in use: its stage is neither that of a row that waits nor that of one that has ended
abbrev pub is_in_use : StageInRun → Bool
is_in_use AtIdle = false
is_in_use AtEnded = false
is_in_use _ = true

-- the first command is one for the metadata thread
abbrev pub asks_metadata : List CommandInRun → Bool
asks_metadata (MetadataCommand ∷ commands) = true
asks_metadata _ = false

-- the blob that the first command means is frozen
abbrev pub is_frozen_at : (ℕ → Bool) → Option ℕ → Bool
is_frozen_at frozen None = false
is_frozen_at frozen (Some head) = frozen head

abbrev pub meets_frozen : (ℕ → Bool) → FoundHeads → List CommandInRun → Bool
meets_frozen frozen finds (PageRead volume ∷ commands) = is_frozen_at frozen (finds volume)
meets_frozen frozen finds (PageWrite volume slot ∷ commands) = is_frozen_at frozen (finds volume)
meets_frozen frozen finds _ = false

-- ---- jobs

-- the job with these phases left, if any are
abbrev pub job_left_in_run : JobInRun → List PhaseInRun → Option JobInRun
job_left_in_run j [] = None
job_left_in_run j (x ∷ xs) = Some (record j { phases = x ∷ xs })

-- the stage of an insert's row with these phases left of its job, with the last of which it is decided
abbrev pub stage_after_insert : List PhaseInRun → StageInRun
stage_after_insert [] = AtDecided
stage_after_insert (x ∷ xs) = AtInJob

-- a job's blob is frozen, or released
abbrev pub frozen_set : (ℕ → Bool) → Option ℕ → Bool → ℕ → Bool
frozen_set frozen None to = frozen
frozen_set frozen (Some blob) to = λ head. if head == blob then to else frozen head

-- the job's blob is frozen until nothing is left to do
abbrev pub frozen_left : (ℕ → Bool) → JobInRun → List PhaseInRun → ℕ → Bool
frozen_left frozen j [] = frozen_set frozen j.freeze false
frozen_left frozen j (x ∷ xs) = frozen

-- ---- options and lists

abbrev pub is_there : {X : Type 0} → Option X → Bool
is_there None = false
is_there (Some x) = true

abbrev pub has_any : {X : Type 0} → List X → Bool
has_any [] = false
has_any (x ∷ xs) = true
