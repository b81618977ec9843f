-- What a row's stage is, by what the row waits for.
use Rattle.std.proofs.Common.{◌≡◌, ◌⊎◌, inl, inr, ℕ, true, List, [], ◌∷◌, Option, refl, sym}
use Rattle.std.proofs.Common.{subst}
use Rattle.volume_model.specs.declared.command.Command.{Command}
use Rattle.volume_model.specs.declared.command.Command.TheVariants as c
use Rattle.store_model.specs.Rows.{Claiming, Copying, Decided, Decision, Ended, Idle, InJob, OpenClaim, Posted, Ready}
use Rattle.store_model.specs.Rows.{Row, Stage}
use Rattle.running_store.specs.declared.rows.RowStage.{RowStage}
use Rattle.running_store.specs.declared.rows.RowStage.TheVariants as waits
use Rattle.running_store.specs.Stages.{is_stage, waits_for}
use Rattle.store_core.proofs.Staged.{HasWrite}
use Rattle.run_work.specs.ChannelMoves.{logs_itself}
use Rattle.run_moves.specs.Projection.{stage_in_run}
use Rattle.channels.specs.ChannelSteps.{IsOfPage}

-- ---- turns that log

-- what a row waits for where its channel's turn logs, or goes on with a write
abbrev pub IsLogging : RowStage → Type 0
IsLogging waits.Read = Unit {0}
IsLogging waits.Write = Unit {0}
IsLogging waits.Flush = Unit {0}
IsLogging waits.Claim = Unit {0}
IsLogging (waits.Copy left) = Unit {0}
IsLogging waits.Ready = Unit {0}
IsLogging _ = ⊥

itself_by : (left : List Command) (stage : Stage) (claim : Option OpenClaim) (channel : ℕ)
    → IsLogging (is_stage (record { left = left; stage = stage; claim = claim }) channel)
    → logs_itself (stage_in_run stage) ≡ true
itself_by left Idle claim channel may = refl
itself_by left Claiming claim channel may = refl
itself_by left (Copying count) claim channel may = refl
itself_by left Ready claim channel may = refl
itself_by left (Posted serial) claim channel may = absurd may
itself_by left InJob claim channel may = absurd may
itself_by left (Decided outcome) claim channel may = absurd may
itself_by left Ended claim channel may = absurd may

-- the row's own turn logs
pub itself : (row : Row) (channel : ℕ) (w : RowStage) → is_stage row channel ≡ w → IsLogging w
    → logs_itself (stage_in_run row.stage) ≡ true
itself row channel w is may = itself_by row.left row.stage row.claim channel (subst IsLogging (sym is) may)

-- ---- turns that a frozen blob holds up

abbrev pub IsHeldByFreeze : RowStage → Type 0
IsHeldByFreeze waits.Read = Unit {0}
IsHeldByFreeze waits.Write = Unit {0}
IsHeldByFreeze waits.Claim = Unit {0}
IsHeldByFreeze _ = ⊥

-- a read or a write of a page comes first, and waits or is to claim
pub record IsAtPage (left : List Command) (stage : Stage) : Type 0 where
  pub command : Command
  pub rest : List Command
  pub is : left ≡ command ∷ rest
  pub page : IsOfPage command
  pub stage_is : (stage ≡ Idle) ⊎ (stage ≡ Claiming)

page_first : (command : Command) (rest : List Command) → IsHeldByFreeze (waits_for command)
    → IsAtPage (command ∷ rest) Idle
page_first (c.Read volume page) rest may =
    record { command = _; rest = rest; is = refl; page = tt; stage_is = inl refl }
page_first (c.Write volume page word) rest may =
    record { command = _; rest = rest; is = refl; page = tt; stage_is = inl refl }
page_first c.Flush rest may = absurd may
page_first _ rest may = absurd may

at_page_by : (left : List Command) (stage : Stage) (claim : Option OpenClaim) (channel : ℕ)
    → (stage ≡ Claiming → HasWrite left)
    → IsHeldByFreeze (is_stage (record { left = left; stage = stage; claim = claim }) channel) → IsAtPage left stage
at_page_by [] Idle claim channel writes may = absurd may
at_page_by (command ∷ rest) Idle claim channel writes may = page_first command rest may
at_page_by left Claiming claim channel writes may =
    let w = writes refl in
    record { command = c.Write w.volume w.page w.word; rest = w.rest; is = w.is; page = tt; stage_is = inr refl }
at_page_by left (Copying count) claim channel writes may = absurd may
at_page_by left Ready claim channel writes may = absurd may
at_page_by left (Posted serial) claim channel writes may = absurd may
at_page_by left InJob claim channel writes may = absurd may
at_page_by left (Decided outcome) claim channel writes may = absurd may
at_page_by left Ended claim channel writes may = absurd may

pub at_page : (row : Row) (channel : ℕ) (w : RowStage) → (row.stage ≡ Claiming → HasWrite row.left)
    → is_stage row channel ≡ w → IsHeldByFreeze w → IsAtPage row.left row.stage
at_page row channel w writes is may =
    at_page_by row.left row.stage row.claim channel writes (subst IsHeldByFreeze (sym is) may)

-- ---- the other stages

-- what a row's stage is, where what it waits for tells it
abbrev pub IsStageOf : RowStage → Stage → Type 0
IsStageOf (waits.Posted msg) stage = stage ≡ Posted msg.serial
IsStageOf waits.InJob stage = stage ≡ InJob
IsStageOf waits.Decided stage = (outcome : Decision) × (stage ≡ Decided outcome)
IsStageOf waits.Ended stage = stage ≡ Ended
IsStageOf _ stage = Unit {0}

none_told : (command : Command) (stage : Stage) → IsStageOf (waits_for command) stage
none_told (c.Read volume page) stage = tt
none_told (c.Write volume page word) stage = tt
none_told c.Flush stage = tt
none_told _ stage = tt

stage_by : (left : List Command) (stage : Stage) (claim : Option OpenClaim) (channel : ℕ)
    → IsStageOf (is_stage (record { left = left; stage = stage; claim = claim }) channel) stage
stage_by [] Idle claim channel = tt
stage_by (command ∷ rest) Idle claim channel = none_told command Idle
stage_by left Claiming claim channel = tt
stage_by left (Copying count) claim channel = tt
stage_by left Ready claim channel = tt
stage_by left (Posted serial) claim channel = refl
stage_by left InJob claim channel = refl
stage_by left (Decided outcome) claim channel = (outcome, refl)
stage_by left Ended claim channel = refl

pub stage_of : (row : Row) (channel : ℕ) (w : RowStage) → is_stage row channel ≡ w → IsStageOf w row.stage
stage_of row channel w is =
    subst (λ v. IsStageOf v row.stage) is (stage_by row.left row.stage row.claim channel)
