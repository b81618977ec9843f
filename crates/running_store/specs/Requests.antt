-- What a message asks for, and when it is out of date.
use Rattle.std.specs.Prelude.{◌≡◌, ◌≢◌, ℕ, List, [], ◌∷◌, Option, Some, None, IsSome}
use Rattle.volume_model.specs.declared.command.Command.{Command}
use Rattle.volume_model.specs.declared.reply.Msg.{Msg}
use Rattle.store_model.specs.Rows.{Row, Stage, Posted}
use Rattle.running_store.specs.declared.requests.Request.{Request}
use Rattle.running_store.specs.declared.requests.Request.TheVariants as request
use Rattle.running_store.specs.declared.requests.Stale.{Stale}
use Rattle.running_store.specs.StoreView.{rows_of}

-- the number under which a row is posted, if it is
abbrev pub posted_in : Stage → Option ℕ
posted_in (Posted serial) = Some serial
posted_in _ = None

-- The message's row is posted under its number, for the metadata thread, and holds no claim.
pub record IsPostedBy (rows : List Row) (msg : Msg) : Type 0 where
  pub stage : (rows_of rows msg.channel).stage ≡ Posted msg.serial
  pub unclaimed : (rows_of rows msg.channel).claim ≡ None

-- The message's row is posted under its number, for the insert of the cluster that it has claimed.
pub record IsInsertPosted (rows : List Row) (msg : Msg) : Type 0 where
  pub stage : (rows_of rows msg.channel).stage ≡ Posted msg.serial
  pub claimed : IsSome (rows_of rows msg.channel).claim

-- each row that is posted without a claim has a command
abbrev pub HavePosted : List Row → Type 0
HavePosted rows = (channel serial : ℕ) → (rows_of rows channel).stage ≡ Posted serial
    → (rows_of rows channel).claim ≡ None → (rows_of rows channel).left ≢ []

-- what a posted row asks for: an insert, if it holds a claim, or else its first command
abbrev pub IsAsked : Row → Request → Type 0
IsAsked row request.Insert = IsSome row.claim
IsAsked row (request.Meta command) = (row.claim ≡ None) × (rest : List Command) × (row.left ≡ command.now ∷ rest)

-- The message's row is posted under its number, and this is asked for.
pub record AsksNow (rows : List Row) (msg : Msg) (x : Request) : Type 0 where
  pub posted : (rows_of rows msg.channel).stage ≡ Posted msg.serial
  pub asked : IsAsked (rows_of rows msg.channel) x

-- The row isn't posted under the message's number: both numbers, that of the row if it is posted.
pub record IsStale (rows : List Row) (msg : Msg) (x : Stale) : Type 0 where
  pub not_posted : (rows_of rows msg.channel).stage ≢ Posted msg.serial
  pub message : x.message ≡ msg.serial
  pub row : x.row ≡ posted_in (rows_of rows msg.channel).stage
