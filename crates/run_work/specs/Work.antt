-- The work that is left in a run: a number that every move lowers.
use Rattle.std.specs.Prelude.{ℕ, zero, suc, ◌+◌, ◌*◌, if◌then◌else◌, Option, Some, None, Bool, true, false, ◌&&◌, not}
use Rattle.std.specs.Prelude.{List, [], ◌∷◌, length}
use Rattle.volume_model.specs.declared.reply.Msg.{Msg}
use Rattle.run_work.specs.RunState.{AtClaiming, AtCopying, AtDecided, AtEnded, AtIdle, AtInJob, AtPosted, AtReady}
use Rattle.run_work.specs.RunState.{BlobInRun, BlobsInRun, ClaimInRun, CommandInRun, CommitPhase, FoundHeads}
use Rattle.run_work.specs.RunState.{InsertPhase, JobInRun, MetadataCommand, PageWrite, PhaseInRun, ReplacementPhase}
use Rattle.run_work.specs.RunState.{RowInRun, RowsInRun, RunSizes, RunState, StageInRun}
use Rattle.run_work.specs.Reading.{has_generation, is_empty, is_filled, is_in_use, is_there, slot_found, slot_in}

abbrev pub sum_below : (ℕ → ℕ) → ℕ → ℕ
sum_below f zero = 0
sum_below f (suc n) = sum_below f n + f n

abbrev pub one_if : Bool → ℕ
one_if true = 1
one_if false = 0

-- ---- doomed claims

-- A claim is doomed once its insert would be lost: its blob is gone or has another generation, or its slot isn't empty
-- or isn't there any more.
abbrev pub is_doomed : BlobsInRun → ClaimInRun → Bool
is_doomed blobs x = not (has_generation (blobs x.head) x.generation && is_empty (slot_in (blobs x.head) x.slot))

-- the slot of the first command, a write, has a cluster now
abbrev pub is_filled_now : BlobsInRun → FoundHeads → List CommandInRun → Bool
is_filled_now blobs finds (PageWrite volume slot ∷ commands) = is_filled (slot_found blobs (finds volume) slot)
is_filled_now blobs finds _ = false

-- a row that will begin its write again: for its claim, or since its slot was filled after it was found empty
abbrev pub is_row_doomed : BlobsInRun → FoundHeads → List CommandInRun → StageInRun → Option ClaimInRun → Bool
is_row_doomed blobs finds left stage (Some x) = is_doomed blobs x
is_row_doomed blobs finds left AtClaiming None = is_filled_now blobs finds left
is_row_doomed blobs finds left _ None = false

-- ---- blobs and jobs

abbrev pub empty_slots : List Bool → ℕ
empty_slots [] = 0
empty_slots (true ∷ l) = empty_slots l
empty_slots (false ∷ l) = suc (empty_slots l)

abbrev pub empty_in : Option BlobInRun → ℕ
empty_in None = 0
empty_in (Some b) = empty_slots b.slots

abbrev pub replacements_in : List PhaseInRun → ℕ
replacements_in [] = 0
replacements_in (ReplacementPhase ∷ l) = suc (replacements_in l)
replacements_in (CommitPhase ∷ l) = suc (replacements_in l)
replacements_in (_ ∷ l) = replacements_in l

-- the commit of a command is still to come
abbrev pub commit_is_left : List PhaseInRun → Bool
commit_is_left [] = false
commit_is_left (CommitPhase ∷ l) = true
commit_is_left (_ ∷ l) = commit_is_left l

-- the replacement of an insert, or the commit of a command, is still to come
abbrev pub decision_is_left : List PhaseInRun → Bool
decision_is_left [] = false
decision_is_left (InsertPhase ∷ l) = true
decision_is_left (CommitPhase ∷ l) = true
decision_is_left (_ ∷ l) = decision_is_left l

-- the commands that a row has yet to pay with: a metadata command whose job runs has paid already
abbrev pub behind_first : List CommandInRun → ℕ
behind_first (MetadataCommand ∷ commands) = length commands
behind_first commands = length commands

abbrev pub to_pay : List CommandInRun → StageInRun → ℕ
to_pay left AtInJob = behind_first left
to_pay left _ = length left

-- ---- the work

module _ (z : RunSizes) where
  -- one try of a write, with its message and its job
  abbrev pub try_work : ℕ
  try_work = z.pages + z.insert_turns + 20

  -- what a row does once more that is doomed
  abbrev pub again_work : ℕ
  again_work = try_work + 2

  -- What an insert pays, with which one slot less is empty: it may doom each row, and its own row begins again.
  abbrev pub slot_work : ℕ
  slot_work = z.rows * again_work + again_work

  -- What a replacement pays: it may doom each row, each slot of a blob may become empty, and its command is decided.
  abbrev pub replacement_work : ℕ
  replacement_work = slot_work * z.slots + z.rows * again_work + again_work

  abbrev pub job_most : ℕ
  job_most = z.job_turns + z.replacements * replacement_work + 1

  -- What a command pays: its job, or that it is answered, or what a fill leaves behind.
  abbrev pub command_work : ℕ
  command_work = job_most + z.rows * again_work + 4 * again_work

  abbrev pub stage_work : StageInRun → ℕ
  stage_work AtIdle = try_work
  stage_work AtClaiming = z.pages + z.insert_turns + 12
  stage_work (AtCopying left) = z.insert_turns + 9 + left
  stage_work AtReady = z.insert_turns + 9
  stage_work (AtPosted serial) = z.insert_turns + 4
  stage_work AtInJob = 0
  stage_work AtDecided = try_work + 1
  stage_work AtEnded = 0

  abbrev pub again_if : Bool → ℕ
  again_if true = again_work
  again_if false = 0

  abbrev pub row_work : BlobsInRun → FoundHeads → RowInRun → ℕ
  row_work blobs finds row =
      again_if (is_row_doomed blobs finds row.left row.stage row.claim) + command_work * to_pay row.left row.stage
      + stage_work row.stage

  abbrev pub rows_work : BlobsInRun → FoundHeads → RowsInRun → ℕ
  rows_work blobs finds rows = sum_below (λ k. row_work blobs finds (rows k)) z.rows

  abbrev pub empties : BlobsInRun → ℕ
  empties blobs = sum_below (λ h. empty_in (blobs h)) z.heads

  -- what the row that waits for a job still does, once its cluster is inserted
  abbrev pub row_behind : Option ℕ → List PhaseInRun → ℕ
  row_behind None phases = 0
  row_behind (Some ch) phases = if decision_is_left phases then 0 else again_work

  abbrev pub job_work : Option JobInRun → ℕ
  job_work None = 0
  job_work (Some j) =
      length j.phases + replacements_in j.phases * replacement_work + row_behind j.waits j.phases + 1

  -- a message is sent, taken, and joins those that wait or is served
  abbrev pub held_work : Option Msg → ℕ
  held_work None = 0
  held_work (Some x) = 2

  abbrev pub unsent_work : (ℕ → Option ℕ) → ℕ
  unsent_work unsent = sum_below (λ k. one_if (is_there (unsent k))) z.rows

  abbrev pub messages_work : RunState → ℕ
  messages_work w = 4 * unsent_work w.unsent + 3 * length w.queue + held_work w.held + length w.waiting

  abbrev pub base_work : RunState → ℕ
  base_work w =
      slot_work * empties w.blobs + rows_work w.blobs w.finds w.rows + job_work w.job + messages_work w

  -- the metadata thread's own row, in use without a fill, has to be ended
  abbrev pub to_end : Option Msg → Bool → ℕ
  to_end None true = try_work + 1
  to_end None false = 0
  to_end (Some message) used = 0

  abbrev pub own_work : RunState → ℕ
  own_work w = to_end w.fill (is_in_use (w.rows 16).stage)

  abbrev pub work : RunState → ℕ
  work w = base_work w + own_work w
