-- Who can move, and the step of an actor.
use Rattle.std.specs.Prelude.{◌≡◌, ◌⊎◌, ℕ, zero, suc, ◌<◌, nat_lt, if◌then◌else◌, Option, Some, None, Bool, true}
use Rattle.std.specs.Prelude.{false, ◌&&◌, ◌||◌, not, List, [], ◌∷◌, ◌++◌, length}
use Rattle.volume_model.specs.declared.reply.Msg.{Msg}
use Rattle.run_work.specs.RunState.{AtClaiming, AtCopying, AtDecided, AtEnded, AtIdle, AtInJob, AtPosted, AtReady}
use Rattle.run_work.specs.RunState.{JobInRun, RowsInRun, RunSizes, RunState, StageInRun}
use Rattle.run_work.specs.Reading.{has_any, is_in_use, is_there, meets_frozen}
use Rattle.run_work.specs.ChannelMoves.{ChannelMove, RowMove}
use Rattle.run_work.specs.ServingMoves.{AnswerMove, BeginInsertMove, BeginJobMove, BeginsFor, CloseMove, EndsFillIn}
use Rattle.run_work.specs.ServingMoves.{for_filled, for_message, in_fill, in_insert, LogFillMove, LoseInsertMove}
use Rattle.run_work.specs.ServingMoves.{Serves, TakeMove, TakeUpMove, the_message, the_own}
use Rattle.run_work.specs.JobMoves.{CommitMove, DropMove, FailMove, InsertMove, PageMove, ReplaceMove, WinMove}
use Rattle.run_work.specs.Following.{ActorInRun, ChannelActs, MetadataActs}
use Rattle.run_work.specs.Following as following

-- ---- who can move

-- by the stage of a row, whether its blob isn't frozen, and whether it can send
abbrev pub can_at : Bool → Bool → StageInRun → Bool
can_at free sends AtIdle = free
can_at free sends AtClaiming = free
can_at free sends (AtCopying left) = true
can_at free sends AtReady = true
can_at free sends (AtPosted serial) = sends
can_at free sends AtInJob = false
can_at free sends AtDecided = true
can_at free sends AtEnded = false

-- the blob that the first command means isn't frozen
abbrev pub is_free_at : RunState → ℕ → Bool
is_free_at w ch = not (meets_frozen w.frozen w.finds (w.rows ch).left)

-- a message is still to be sent, and fewer than 8 are queued
abbrev pub can_send : RunState → ℕ → Bool
can_send w ch = is_there (w.unsent ch) && nat_lt (length w.queue) 8

-- A channel can move unless it has ended, the blob of its next page is frozen, its job runs, or its message is on the
-- way, or can't be sent.
abbrev pub can_channel : RunState → ℕ → Bool
can_channel w ch =
    nat_lt ch 16 && can_at (is_free_at w ch) (can_send w ch) (w.rows ch).stage

-- The metadata thread can move while a job runs, a message is queued, held or waits, a fill goes on, or its own row is
-- in use.
abbrev pub can_metadata : RunState → Bool
can_metadata w =
    is_there w.job || is_there w.held || has_any w.queue || has_any w.waiting || is_there w.fill
    || is_in_use (w.rows 16).stage

abbrev pub can_move : RunState → ActorInRun → Bool
can_move w (ChannelActs ch) = can_channel w ch
can_move w MetadataActs = can_metadata w

abbrev pub has_ended : StageInRun → Bool
has_ended AtEnded = true
has_ended _ = false

abbrev pub ended_below : RowsInRun → ℕ → Bool
ended_below rows zero = true
ended_below rows (suc n) = ended_below rows n && has_ended (rows n).stage

-- each channel has ended, and there is nothing to do for the metadata thread
abbrev pub all_ended : RunState → Bool
all_ended w = ended_below w.rows 16 && not (can_metadata w)

-- ---- what the metadata thread does

-- A turn of the running job, a turn of the fill, the taking of a message, the ending of its own row, or the serving of
-- a message.
pub data MoveKind : Type 0 where
  JobStep FillStep TakeStep CloseStep : MoveKind
  MessageStep : (message : Msg) → MoveKind

-- One comes before the other: a turn of the job; the ending of its own row, in use without a fill; the message that it
-- holds; with a fill, the next message, where one is queued and fewer than 16 wait, and else a turn of the fill; the
-- first message that waits; the next message.
abbrev pub due : Bool → Option Msg → Option Msg → Bool → List Msg → List Msg → MoveKind
due true held fill used waiting queue = JobStep
due false held None true waiting queue = CloseStep
due false (Some message) None false waiting queue = MessageStep message
due false (Some message) (Some x) used waiting queue = MessageStep message
due false None (Some x) used waiting queue =
    if has_any queue && nat_lt (length waiting) 16 then TakeStep else FillStep
due false None None false (message ∷ l) queue = MessageStep message
due false None None false [] queue = TakeStep

abbrev pub due_in : RunState → MoveKind
due_in w = due (is_there w.job) w.held w.fill (is_in_use (w.rows 16).stage) w.waiting w.queue

-- what is held has no claim, so that it isn't an insert
abbrev pub holds_command : RunState → Option Msg → Bool
holds_command w None = false
holds_command w (Some message) = not (is_there (w.rows message.channel).claim)

-- A command that is held waits, behind the others, where a fill goes on or others wait. It is part of a step that is
-- neither a job's nor the ending of the own row.
abbrev pub has_to_wait : RunState → Bool
has_to_wait w =
    not (is_there w.job) && (is_there w.fill || not (is_in_use (w.rows 16).stage)) && holds_command w w.held
    && (is_there w.fill || has_any w.waiting)

abbrev pub queued_behind : RunState → Option Msg → RunState
queued_behind w None = w
queued_behind w (Some message) = record w { held = None; waiting = w.waiting ++ message ∷ [] }

abbrev pub at_turn : RunState → RunState
at_turn w = if has_to_wait w then queued_behind w w.held else w

-- the own row is served in turns of the fill
abbrev pub served_step : {w : RunState} {ch : ℕ} {held : Option Msg} {waiting : List Msg} → Serves w ch held waiting
    → MoveKind
served_step (the_message message channel takes) = MessageStep message
served_step (the_own own held waiting) = FillStep

abbrev pub begin_step : {w : RunState} {ch : ℕ} {held : Option Msg} {waiting : List Msg} {fill : Option Msg}
    → BeginsFor w ch held waiting fill → MoveKind
begin_step (for_message same serves) = served_step serves
begin_step (for_filled message fills channel unused held waiting none) = FillStep

abbrev pub end_step : {w : RunState} {job : Option JobInRun} {frozen : ℕ → Bool} → EndsFillIn w job frozen → MoveKind
end_step (in_fill idle none fewer) = FillStep
end_step (in_insert waits none thaws) = JobStep

module _ (z : RunSizes) where
  -- a move of the metadata thread: one turn, or one taking of a message
  pub data OneMove (w v : RunState) : Type 0 where
    by_own_row : (message : Msg) → w.fill ≡ Some message → RowMove z w 16 v → OneMove w v
    by_take : TakeMove w v → OneMove w v
    by_lose_insert : (ch : ℕ) → ch < z.rows → LoseInsertMove z w ch v → OneMove w v
    by_begin_insert : (ch : ℕ) → ch < z.rows → BeginInsertMove z w ch v → OneMove w v
    by_answer : (ch : ℕ) → ch < 16 → AnswerMove z w ch v → OneMove w v
    by_begin_job : (ch : ℕ) → ch < 16 → BeginJobMove z w ch v → OneMove w v
    by_log_fill : (ch : ℕ) → ch < 16 → LogFillMove z w ch v → OneMove w v
    by_close : CloseMove z w v → OneMove w v
    by_page : PageMove z w v → OneMove w v
    by_insert : (ch : ℕ) → ch < z.rows → InsertMove z w ch v → OneMove w v
    by_win : (ch : ℕ) → ch < z.rows → WinMove z w ch v → OneMove w v
    by_replace : ReplaceMove z w v → OneMove w v
    by_commit : (ch : ℕ) → ch < 16 → CommitMove z w ch v → OneMove w v
    by_fail : (ch : ℕ) → ch < 16 → FailMove z w ch v → OneMove w v
    by_drop : DropMove z w v → OneMove w v

  abbrev pub kind_of : {w v : RunState} → OneMove w v → MoveKind
  kind_of (by_own_row message is c) = FillStep
  kind_of (by_take c) = TakeStep
  kind_of (by_lose_insert ch low c) = served_step c.serves
  kind_of (by_begin_insert ch low c) = served_step c.serves
  kind_of (by_answer ch low c) = served_step c.serves
  kind_of (by_begin_job ch low c) = begin_step c.begins
  kind_of (by_log_fill ch low c) = end_step c.ends
  kind_of (by_close c) = CloseStep
  kind_of (by_page c) = JobStep
  kind_of (by_insert ch low c) = JobStep
  kind_of (by_win ch low c) = JobStep
  kind_of (by_replace c) = JobStep
  kind_of (by_commit ch low c) = JobStep
  kind_of (by_fail ch low c) = JobStep
  kind_of (by_drop c) = JobStep

  -- A move that is due; where it is the serving of a command that becomes the fill, the fill's first turn.
  pub data MetadataMove (w v : RunState) : Type 0 where
    at_once : (c : OneMove w v) → kind_of c ≡ due_in w → MetadataMove w v
    behind_fill : (message : Msg) (mid : RunState) → TakeUpMove z w message mid → due_in w ≡ MessageStep message
        → (c : OneMove mid v) → kind_of c ≡ FillStep → MetadataMove w v

  abbrev pub Moves : ActorInRun → RunState → RunState → Type 0
  Moves (ChannelActs ch) w v = ChannelMove z w ch v
  Moves MetadataActs w v = MetadataMove (at_turn w) v

  -- the step of an actor: a move exactly where it can
  abbrev pub StepOf : ActorInRun → RunState → RunState → Type 0
  StepOf actor w v =
      ((can_move w actor ≡ true) × Moves actor w v) ⊎ ((can_move w actor ≡ false) × (v ≡ w))

  -- a run that follows a schedule
  abbrev pub RunFollows : List ActorInRun → RunState → RunState → Type 0
  RunFollows = following.Follows StepOf all_ended
