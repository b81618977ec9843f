-- What turns make of the rows, the log and the marks.
use Rattle.std.specs.Prelude.{None, Option, Some, ◌≡◌, ◌≢◌, ℕ, List, [], ◌∷◌, ◌++◌, length, drop, slice_set}
use Rattle.std.specs.Option.{option_and_then}
use Rattle.volume_model.specs.declared.command.Command.{Command}
use Rattle.volume_model.specs.declared.reply.Entry.{Entry}
use Rattle.volume_model.specs.declared.reply.Reply.{Reply}
use Rattle.volume_model.specs.declared.reply.Reply.TheVariants as r
use Rattle.store_model.specs.Rows.{Answered, Decided, entry_of, Idle, IsForMetadata, Posted, Row, Stage}
use Rattle.store_model.specs.StoreState.{JobState}
use Rattle.running_store.specs.Places.{thawed}
use Rattle.running_store.specs.StoreView.{StoreView, rows_of}

-- one row is another
abbrev pub with_row_at : {D : Type 0} → StoreView D → ℕ → Row → StoreView D
with_row_at p channel row = record p { rows = slice_set p.rows channel row }

-- One channel's row is this one now, and each other row is as it was.
pub record OnlyRow (old new : List Row) (channel : ℕ) (given : Row) : Type 0 where
  pub row : rows_of new channel ≡ given
  pub others : (other : ℕ) → other ≢ channel → rows_of new other ≡ rows_of old other

-- a row once its first command is logged, at this stage then
abbrev pub left_at : Stage → Row → Row
left_at next row = record { left = drop 1 row.left; stage = next; claim = None }

-- in a turn of the metadata thread: the channel is to be told
abbrev pub decided : Row → Row
decided = left_at (Decided Answered)

-- in a turn of the channel's own: it goes on with its next command
abbrev pub gone_on : Row → Row
gone_on = left_at Idle

-- an entry is logged, with its mark, and its row is at this stage then
abbrev pub logged_then : Stage → {D : Type 0} → StoreView D → ℕ → Command → List Command → Reply → ℕ → StoreView D
logged_then next p channel command rest reply mark = record p {
  rows = slice_set p.rows channel (record { left = rest; stage = next; claim = None });
  log = p.log ++ entry_of p.log channel command reply ∷ [];
  marks = p.marks ++ mark ∷ [];
}

-- in a turn of the metadata thread
abbrev pub logged_at : {D : Type 0} → StoreView D → ℕ → Command → List Command → Reply → ℕ → StoreView D
logged_at = logged_then (Decided Answered)

-- the log with one entry more: a channel's next, of this command and with this reply
abbrev pub log_with : List Entry → ℕ → Command → Reply → List Entry
log_with log channel command reply = log ++ entry_of log channel command reply ∷ []

-- the reply with which a command is refused: this one, or, once the store has stopped, that it has
abbrev pub refused_with : Option ℕ → Reply → Reply
refused_with None reply = reply
refused_with (Some at) reply = r.Stopped at

-- in a turn of the channel's own
abbrev pub logged_on : {D : Type 0} → StoreView D → ℕ → Command → List Command → Reply → ℕ → StoreView D
logged_on = logged_then Idle

-- a channel whose first command is at this stage
pub record Waits {D : Type 0} (p : StoreView D) (channel : ℕ) (stage : Stage) : Type 0 where
  pub command : Command
  pub rest : List Command
  pub row : rows_of p.rows channel ≡ record { left = command ∷ rest; stage = stage; claim = None }

-- a channel whose first command is for the metadata thread, and of which nothing was done
pub record WaitsForMetadata {D : Type 0} (p : StoreView D) (channel : ℕ) : Type 0 where
  pub command : Command
  pub rest : List Command
  pub is_meta : IsForMetadata command
  pub row : rows_of p.rows channel ≡ record { left = command ∷ rest; stage = Idle; claim = None }

-- the command of a channel that is posted
pub record IsPostedAt {D : Type 0} (p : StoreView D) (channel : ℕ) : Type 0 where
  pub serial : ℕ
  pub waits : Waits p channel (Posted serial)

-- the first command of a channel has this
abbrev pub Asks : {D : Type 0} → StoreView D → ℕ → (Command → Type 0) → Type 0
Asks p channel P = (command : Command) (rest : List Command) → (rows_of p.rows channel).left ≡ command ∷ rest
    → P command

-- the blob that a job freezes
abbrev pub freeze_in : Option JobState → Option ℕ
freeze_in job = option_and_then (λ j. j.freeze) job

-- stopped behind the entries so far; a job stays, and its blob is released
abbrev pub stopped_here : {D : Type 0} → StoreView D → StoreView D
stopped_here p = record p { stopped = Some (length p.log); guards = thawed p.guards (freeze_in p.job) }
