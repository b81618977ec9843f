-- The moves of the metadata thread by which messages are taken and served, and a fill goes on.
use Rattle.std.specs.Prelude.{◌≡◌, ◌⊎◌, ℕ, ◌≤◌, Option, Some, None, Bool, true, false, List, [], ◌∷◌, length}
use Rattle.volume_model.specs.declared.reply.Msg.{Msg}
use Rattle.run_work.specs.RunState.{AtDecided, AtIdle, AtInJob, AtPosted, ClaimInRun, CommandInRun, FoundHeads}
use Rattle.run_work.specs.RunState.{JobInRun, MetadataCommand, RunSizes, RunState, StageInRun}
use Rattle.run_work.specs.Reading.{frozen_set, is_in_use, logged_row, row_at, unclaimed_at, with_row_in_run}
use Rattle.run_work.specs.Work.{decision_is_left, is_doomed, replacements_in}
use Rattle.run_work.specs.ChannelMoves.{moved_row}

-- the front message is taken from the queue
pub record TakeMove (w v : RunState) : Type 0 where
  pub front : Msg
  pub rest : List Msg
  pub queue : w.queue ≡ front ∷ rest
  pub none : w.held ≡ None
  pub next : v ≡ record w { queue = rest; held = Some front }

-- Which message is taken to be served: the one that is held, or the first that waits.
pub data TakesOut (w : RunState) (message : Msg) (held : Option Msg) (waiting : List Msg) : Type 0 where
  the_held : w.held ≡ Some message → held ≡ None → waiting ≡ w.waiting → TakesOut w message held waiting
  the_first : held ≡ w.held → w.waiting ≡ message ∷ waiting → TakesOut w message held waiting

-- For whom a row is served: for the channel's message, or, where it is the metadata thread's own, for none.
pub data Serves (w : RunState) (ch : ℕ) (held : Option Msg) (waiting : List Msg) : Type 0 where
  the_message : (message : Msg) → message.channel ≡ ch → TakesOut w message held waiting → Serves w ch held waiting
  the_own : ch ≡ 16 → held ≡ w.held → waiting ≡ w.waiting → Serves w ch held waiting

-- the running job, for which this row waits
abbrev pub WaitsInJob : RunState → ℕ → Type 0
WaitsInJob w ch = (job : JobInRun) × (w.job ≡ Some job) × (job.waits ≡ Some ch)

-- For whom a job begins: for the command of a message, or for that of the fill, which has no slot left to fill.
pub data BeginsFor (w : RunState) (ch : ℕ) (held : Option Msg) (waiting : List Msg) (fill : Option Msg) : Type 0 where
  for_message : fill ≡ w.fill → Serves w ch held waiting → BeginsFor w ch held waiting fill
  for_filled : (message : Msg) → w.fill ≡ Some message → message.channel ≡ ch
      → is_in_use (w.rows 16).stage ≡ false → held ≡ w.held → waiting ≡ w.waiting
      → fill ≡ None → BeginsFor w ch held waiting fill

-- The message of the command that the metadata thread's own row works for: that of the fill, or, where none goes on,
-- the one that was held when a metadata thread took over from another. What is held behind its logging.
pub data WorksFor (w : RunState) (message : Msg) (held : Option Msg) : Type 0 where
  the_filled : w.fill ≡ Some message → held ≡ w.held → WorksFor w message held
  the_taken_over : w.fill ≡ None → w.held ≡ Some message → held ≡ None → WorksFor w message held

-- In which turn that command is logged before its own job: in a turn of the fill, or in one of the job of its insert,
-- which ends then, with no blob frozen any more.
pub data EndsFillIn (w : RunState) (job : Option JobInRun) (frozen : ℕ → Bool) : Type 0 where
  in_fill : w.job ≡ None → job ≡ None → ((h : ℕ) → frozen h ≡ true → w.frozen h ≡ true) → EndsFillIn w job frozen
  in_insert : WaitsInJob w 16 → job ≡ None → ((h : ℕ) → frozen h ≡ false) → EndsFillIn w job frozen

module _ (z : RunSizes) where
  -- an insert is lost: its row is decided, and its claim given back
  pub record LoseInsertMove (w : RunState) (ch : ℕ) (v : RunState) : Type 0 where
    pub lost : ClaimInRun
    pub serial : ℕ
    pub stage : (w.rows ch).stage ≡ AtPosted serial
    pub claim : (w.rows ch).claim ≡ Some lost
    pub doomed : is_doomed w.blobs lost ≡ true
    pub held : Option Msg
    pub waiting : List Msg
    pub serves : Serves w ch held waiting
    pub next : v ≡ record (moved_row w ch (unclaimed_at (w.rows ch) AtDecided)) { held = held; waiting = waiting }

  -- the job of an insert begins, which freezes no blob
  pub record BeginInsertMove (w : RunState) (ch : ℕ) (v : RunState) : Type 0 where
    pub won : ClaimInRun
    pub serial : ℕ
    pub stage : (w.rows ch).stage ≡ AtPosted serial
    pub claim : (w.rows ch).claim ≡ Some won
    pub idle : w.job ≡ None
    pub held : Option Msg
    pub waiting : List Msg
    pub serves : Serves w ch held waiting
    pub job : JobInRun
    pub waits : job.waits ≡ Some ch
    pub thaws : job.freeze ≡ None
    pub short : length job.phases ≤ z.insert_turns
    pub plain : replacements_in job.phases ≡ 0
    pub inserts : decision_is_left job.phases ≡ true
    pub next : v ≡ record (moved_row w ch (row_at (w.rows ch) AtInJob)) {
      job = Some job;
      held = held;
      waiting = waiting;
    }

  -- A message's command is logged, answered or refused; so is that of an insert that lacks pages or memory, or finds
  -- the store stopped. What references mean may change. (The program's answers leave it.)
  pub record AnswerMove (w : RunState) (ch : ℕ) (v : RunState) : Type 0 where
    pub command : CommandInRun
    pub commands : List CommandInRun
    pub left : (w.rows ch).left ≡ command ∷ commands
    pub serial : ℕ
    pub stage : (w.rows ch).stage ≡ AtPosted serial
    pub finds : FoundHeads
    pub held : Option Msg
    pub waiting : List Msg
    pub serves : Serves w ch held waiting
    pub next : v ≡ record (moved_row w ch (logged_row commands AtDecided)) {
      finds = finds;
      held = held;
      waiting = waiting;
    }

  -- the job of a command begins
  pub record BeginJobMove (w : RunState) (ch : ℕ) (v : RunState) : Type 0 where
    pub commands : List CommandInRun
    pub left : (w.rows ch).left ≡ MetadataCommand ∷ commands
    pub serial : ℕ
    pub stage : (w.rows ch).stage ≡ AtPosted serial
    pub idle : w.job ≡ None
    pub held : Option Msg
    pub waiting : List Msg
    pub fill : Option Msg
    pub begins : BeginsFor w ch held waiting fill
    pub job : JobInRun
    pub waits : job.waits ≡ Some ch
    pub short : length job.phases ≤ z.job_turns
    pub few : replacements_in job.phases ≤ z.replacements
    pub next : v ≡ record (moved_row w ch (logged_row (MetadataCommand ∷ commands) AtInJob)) {
      job = Some job;
      frozen = frozen_set w.frozen job.freeze true;
      held = held;
      waiting = waiting;
      fill = fill;
    }

  -- A message's command becomes the fill. It is part of a step, of which the fill's first turn is the rest.
  pub record TakeUpMove (w : RunState) (message : Msg) (v : RunState) : Type 0 where
    pub none : w.fill ≡ None
    pub held : Option Msg
    pub waiting : List Msg
    pub takes : TakesOut w message held waiting
    pub next : v ≡ record w { held = held; waiting = waiting; fill = Some message }

  -- The command that slots are filled for is logged before its own job begins, and its row decided. The metadata
  -- thread's own row gives its claim back; it waits, or is decided too, where an insert of it failed. What references
  -- mean may change.
  pub record LogFillMove (w : RunState) (ch : ℕ) (v : RunState) : Type 0 where
    pub command : CommandInRun
    pub commands : List CommandInRun
    pub message : Msg
    pub held : Option Msg
    pub works : WorksFor w message held
    pub channel : message.channel ≡ ch
    pub left : (w.rows ch).left ≡ command ∷ commands
    pub serial : ℕ
    pub stage : (w.rows ch).stage ≡ AtPosted serial
    pub own : StageInRun
    pub own_is : (own ≡ AtIdle) ⊎ (own ≡ AtDecided)
    pub none_left : (w.rows 16).left ≡ []
    pub job : Option JobInRun
    pub frozen : ℕ → Bool
    pub ends : EndsFillIn w job frozen
    pub finds : FoundHeads
    pub next : v ≡ record w {
      finds = finds;
      rows = with_row_in_run (with_row_in_run w.rows ch (logged_row commands AtDecided)) 16 (logged_row [] own);
      held = held;
      fill = None;
      job = job;
      frozen = frozen;
    }

  -- the metadata thread's own row, in use without a fill, gives its claim back and waits
  pub record CloseMove (w v : RunState) : Type 0 where
    pub none : w.fill ≡ None
    pub used : is_in_use (w.rows 16).stage ≡ true
    pub idle : w.job ≡ None
    pub none_left : (w.rows 16).left ≡ []
    pub next : v ≡ moved_row w 16 (logged_row [] AtIdle)
