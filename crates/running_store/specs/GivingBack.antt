-- Claims that are given back, and commands that are logged with their claims given back.
use Rattle.std.specs.Prelude.{None, Some, ◌≡◌, ◌≢◌, ◌==◌, if◌then◌else◌, ℕ, ◌<◌, List, ◌∷◌, length, Option, slice_set}
use Rattle.volume_model.specs.declared.command.Command.{Command}
use Rattle.volume_model.specs.declared.reply.Reply.{Reply}
use Rattle.store_model.specs.Cases.{Kind}
use Rattle.store_model.specs.Cases as kind
use Rattle.store_model.specs.Places.{without_claim}
use Rattle.store_model.specs.Rows.{Claiming, Copying, fill_row, Idle, OpenClaim, Ready, Row, Stage}
use Rattle.running_store.specs.Steps.{decided, left_at, logged_at, logged_then, OnlyRow}
use Rattle.running_store.specs.StoreView.{StoreView, rows_of}

-- a row goes on at this stage, and gives its claim back, if it has one
abbrev pub row_given_back : {D : Type 0} → StoreView D → ℕ → Stage → StoreView D
row_given_back p row stage = record p {
  rows = slice_set p.rows row (record { left = (rows_of p.rows row).left; stage = stage; claim = None });
  clusters = without_claim p.clusters (rows_of p.rows row).claim;
}

-- so does the fill's row, which works for no command any more
abbrev pub fill_given_back : {D : Type 0} → StoreView D → Stage → StoreView D
fill_given_back p stage = record (row_given_back p fill_row stage) { filling = None }

-- ---- a channel's own turn

-- the stages at which a channel logs its first command itself
abbrev pub IsOwnStage : Stage → Type 0
IsOwnStage Idle = Unit {0}
IsOwnStage Claiming = Unit {0}
IsOwnStage (Copying left) = Unit {0}
IsOwnStage Ready = Unit {0}
IsOwnStage _ = ⊥

-- a channel whose first command it logs itself, with the claim that its row may hold
pub record WaitsHere {D : Type 0} (p : StoreView D) (channel : ℕ) : Type 0 where
  pub command : Command
  pub rest : List Command
  pub stage : Stage
  pub claim : Option OpenClaim
  pub row : rows_of p.rows channel ≡ record { left = command ∷ rest; stage = stage; claim = claim }
  pub own : IsOwnStage stage

-- the first command of a row, whichever it is, is logged with this reply
abbrev pub IsEntered : {D : Type 0} → StoreView D → StoreView D → ℕ → Reply → ℕ → Type 0
IsEntered p q channel reply mark = (command : Command) (rest : List Command)
    → (rows_of p.rows channel).left ≡ command ∷ rest → q ≡ logged_at p channel command rest reply mark

-- ---- a row that works

-- the channel whose command a row works for, where it is the fill's row and works for one
abbrev pub filled_on : Option ℕ → ℕ → Option ℕ
filled_on filling row = if row == fill_row then filling else None

-- for whom the fill's row works once a row waits again: where that is the one, for no command any more
abbrev pub filling_left : Option ℕ → ℕ → Option ℕ
filling_left filling row = if row == fill_row then None else filling

-- a channel with a command
abbrev pub HasCommand : List Row → ℕ → Type 0
HasCommand rows channel = (channel < 16) × (0 < length (rows_of rows channel).left)

-- a row that works for its own first command, or, the fill's row, for that of a channel
pub data HasWork (filling : Option ℕ) (rows : List Row) (row : ℕ) : Type 0 where
  own : HasCommand rows row → HasWork filling rows row
  filled : (channel : ℕ) → row ≡ fill_row → filling ≡ Some channel → HasCommand rows channel
      → HasWork filling rows row

-- A row goes on at this stage and gives its claim back, and the command that it works for is logged with this reply:
-- its own, or that of a channel, which is to be told, and for which the fill's row works no more.
pub data IsGivenUp {D : Type 0} (p q : StoreView D) (row : ℕ) (next : Stage) (reply : Reply) (mark : ℕ) : Type 0 where
  own : row ≢ fill_row → ((command : Command) (rest : List Command) → (rows_of p.rows row).left ≡ command ∷ rest
      → q ≡ logged_then next (row_given_back p row next) row command rest reply mark)
      → IsGivenUp p q row next reply mark
  filled : (channel : ℕ) → row ≡ fill_row → p.filling ≡ Some channel → ((command : Command) (rest : List Command)
      → (rows_of p.rows channel).left ≡ command ∷ rest
      → q ≡ logged_at (fill_given_back p next) channel command rest reply mark)
      → IsGivenUp p q row next reply mark

-- The rows then, where the fill's row worked for this channel: it is at this stage, the channel is to be told, and each
-- other row is as it was.
pub record FillLogged (old new : List Row) (channel : ℕ) (next : Stage) : Type 0 where
  pub fill : rows_of new fill_row ≡ record (rows_of old fill_row) { stage = next; claim = None }
  pub told : rows_of new channel ≡ decided (rows_of old channel)
  pub others : (other : ℕ) → other ≢ fill_row → other ≢ channel → rows_of new other ≡ rows_of old other

-- The rows once a row has given up.
pub data HasGivenUp (filling : Option ℕ) (old new : List Row) (row : ℕ) (next : Stage) : Type 0 where
  own : row ≢ fill_row → OnlyRow old new row (left_at next (rows_of old row)) → HasGivenUp filling old new row next
  filled : (channel : ℕ) → row ≡ fill_row → filling ≡ Some channel → FillLogged old new channel next
      → HasGivenUp filling old new row next

-- the kind of turn in which a row that works is logged on a stopped store
abbrev pub halting : ℕ → Kind
halting row = if row == fill_row then kind.halts_fill else kind.halts
