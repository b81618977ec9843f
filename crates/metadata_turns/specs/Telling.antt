-- How whoever waits for a job is told.
use Rattle.std.specs.Prelude.{None, Some, Option, ◌≡◌, ℕ, ◌<◌, List}
use Rattle.volume_model.specs.declared.reply.Reply.{Reply}
use Rattle.volume_model.specs.declared.reply.Reply.TheVariants as r
use Rattle.store_model.specs.Rows.{Answered, Decided, Row, Stage, Won}
use Rattle.running_store.specs.declared.job.Serves.{Serves}
use Rattle.running_store.specs.declared.job.Serves.TheVariants as whom
use Rattle.running_store.specs.declared.job.RunningJob.{RunningJob}
use Rattle.running_store.specs.declared.running.Running.{Running}
use Rattle.metadata_turns.specs.JobTurns.{guards_left, stopped_at}
use Rattle.running_store.specs.GivingBack.{HasCommand, HasWork, IsEntered, IsGivenUp}
use Rattle.running_store.specs.Steps.{with_row_at}
use Rattle.running_store.specs.StoreView.{StoreView, rows_of}

-- a row goes on at this stage, without a claim
abbrev pub let_go_at : {D : Type 0} → StoreView D → ℕ → Stage → StoreView D
let_go_at p row stage =
    with_row_at p row (record { left = (rows_of p.rows row).left; stage = stage; claim = None })

-- Once a replacement is made: the command is logged with its reply, where it has one now; the row of an insert, which
-- has its cluster, goes on at this stage; no row waits for a repair.
abbrev pub IsTold : Serves → Option Reply → Stage → {D : Type 0} → StoreView D → StoreView D → ℕ → Type 0
IsTold (whom.Command channel freeze) (Some reply) next p q mark = IsEntered p q channel reply mark
IsTold (whom.Command channel freeze) None next p q mark = q ≡ p
IsTold (whom.Insert row) reply next p q mark = q ≡ let_go_at p row next
IsTold whom.Repair reply next p q mark = q ≡ p

-- Once the old pages are clear: the row of an insert is decided as won.
abbrev pub IsWon : Serves → {D : Type 0} → StoreView D → StoreView D → Type 0
IsWon (whom.Command channel freeze) p q = q ≡ p
IsWon (whom.Insert row) p q = q ≡ let_go_at p row (Decided Won)
IsWon whom.Repair p q = q ≡ p

-- The store stopped, the blob that the job froze is released, and what waits for it in this row is logged as failed.
abbrev pub HasFailed : Option ℕ → Option ℕ → {D : Type 0} → StoreView D → StoreView D → ℕ → Type 0
HasFailed freeze (Some row) p q mark = IsGivenUp (stopped_at p freeze) q row (Decided Answered) r.Fault mark
HasFailed freeze None p q mark = q ≡ stopped_at p freeze

-- a row that waits for a job works for a command
abbrev pub HasWaitingRow : Option ℕ → List Row → Option ℕ → Type 0
HasWaitingRow filling rows (Some row) = HasWork filling rows row
HasWaitingRow filling rows None = Unit {0}

-- the row of an insert is one of those that there are,
abbrev pub HasInsertRow : Serves → Type 0
HasInsertRow (whom.Insert row) = row < 17
HasInsertRow other = Unit {0}

-- and that of a command with its reply is a channel's, which has a command
abbrev pub HasServedRow : List Row → Serves → Option Reply → Type 0
HasServedRow rows (whom.Command channel freeze) (Some reply) = HasCommand rows channel
HasServedRow rows (whom.Insert row) reply = row < 17
HasServedRow rows other reply = Unit {0}

-- a job goes on with this, or is done
abbrev pub job_gone_on : {D : Type 0} → Running D → Serves → Option RunningJob → Running D
job_gone_on running serves left = record running { job = left; guards = guards_left running.guards serves left }
