-- The rows of the channels: what each has left of its commands, and how far the first of these has come.
use Rattle.std.specs.Prelude.{Option, ℕ, ◌==◌, if◌then◌else◌, List, length, filter}
use Rattle.volume_model.specs.declared.command.Command.{Command}
use Rattle.volume_model.specs.declared.command.Command.TheVariants as c
use Rattle.volume_model.specs.declared.reply.Reply.{Reply}
use Rattle.volume_model.specs.declared.reply.Entry.{Entry}

-- a cluster that is claimed for a slot of a blob, with the blob's generation at the claim
pub record OpenClaim : Type 0 where
  pub cluster : ℕ
  pub head : ℕ
  pub slot : ℕ
  pub generation : ℕ

-- What is decided of a row, of which its channel is to be told: its command has been logged, its cluster was inserted,
-- or its claim was lost.
pub data Decision : Type 0 where
  Answered Won Lost : Decision

-- How far the first command of a row has come. It waits; a write has found its slot empty; its claim has so many pages
-- to copy; all are copied; it is posted under a serial number; the running job serves it; or something is decided of
-- it. A channel that has ended makes no turn any more.
pub data Stage : Type 0 where
  Idle : Stage
  Claiming : Stage
  Copying : (left : ℕ) → Stage
  Ready : Stage
  Posted : (serial : ℕ) → Stage
  InJob : Stage
  Decided : (outcome : Decision) → Stage
  Ended : Stage

pub record Row : Type 0 where
  pub left : List Command
  pub stage : Stage
  pub claim : Option OpenClaim

abbrev pub Rows : Type 0
Rows = ℕ → Row

-- the number of the row on which the metadata thread fills slots
abbrev pub fill_row : ℕ
fill_row = 16

-- the commands that the metadata thread serves; pages and flushes are a channel's own
abbrev pub IsForMetadata : Command → Type 0
IsForMetadata (c.Read volume page) = ⊥
IsForMetadata (c.Write volume page word) = ⊥
IsForMetadata c.Flush = ⊥
IsForMetadata _ = Unit {0}

-- one channel's row is another
abbrev pub with_row : Rows → ℕ → Row → Rows
with_row rows channel row = λ other. if other == channel then row else rows other

-- the entries of a channel
abbrev pub entries_of : ℕ → List Entry → List Entry
entries_of channel log = filter (λ e. e.channel == channel) log

-- the next entry of a channel
abbrev pub entry_of : List Entry → ℕ → Command → Reply → Entry
entry_of log channel command reply =
    record { channel = channel; index = length (entries_of channel log); command = command; reply = reply }
