-- What contracts see of a channel's row, and of the running job.
use Rattle.std.specs.Prelude.{Option, None, Some, ◌≡◌, ℕ, ◌==◌, if◌then◌else◌, List, [], ◌∷◌, refl}
use Rattle.std.specs.Coded.{Coded, code_by, coded×, coded_ℕ, coded_list, coded_option}
use Rattle.volume_model.specs.declared.command.Command.{Command}
use Rattle.volume_model.specs.declared.command.Command.TheVariants as c
use Rattle.volume_model.specs.contracts.command.Command as command
use Rattle.running_store.specs.declared.rows.RowStage as told
use Rattle.running_store.specs.declared.rows.RowStage.TheVariants as waits
use Rattle.running_store.specs.declared.stages.Decision as reached
use Rattle.running_store.specs.declared.stages.Decision.TheVariants as outcome
use Rattle.running_store.specs.declared.stages.OpenClaim as held
use Rattle.running_store.specs.declared.stages.Stage as seen
use Rattle.running_store.specs.declared.stages.Stage.TheVariants as variants
use Rattle.store_model.specs.Rows.{Answered, Claiming, Copying, Decided, Decision, Ended, Idle, InJob, Lost, OpenClaim}
use Rattle.store_model.specs.Rows.{Posted, Ready, Row, Stage, Won}

-- decisions and stages as numbers
abbrev pub decision_in : Decision → ℕ
decision_in Answered = 0
decision_in Won = 1
decision_in Lost = 2

abbrev pub decision_out : ℕ → Decision
decision_out n = if n == 0 then Answered else (if n == 1 then Won else Lost)

pub decision_back : (d : Decision) → decision_out (decision_in d) ≡ d
decision_back Answered = refl
decision_back Won = refl
decision_back Lost = refl

abbrev pub stage_in : Stage → ℕ × ℕ
stage_in Idle = (0, 0)
stage_in Claiming = (1, 0)
stage_in (Copying left) = (2, left)
stage_in Ready = (3, 0)
stage_in (Posted serial) = (4, serial)
stage_in InJob = (5, 0)
stage_in (Decided outcome) = (6, decision_in outcome)
stage_in Ended = (7, 0)

abbrev pub stage_out : ℕ × ℕ → Stage
stage_out p = if p.0 == 0 then Idle
    else (if p.0 == 1 then Claiming else (if p.0 == 2 then Copying p.1 else (if p.0 == 3 then Ready
    else (if p.0 == 4 then Posted p.1
    else (if p.0 == 5 then InJob else (if p.0 == 6 then Decided (decision_out p.1) else Ended))))))

pub stage_back : (s : Stage) → stage_out (stage_in s) ≡ s
stage_back Idle = refl
stage_back Claiming = refl
stage_back (Copying left) = refl
stage_back Ready = refl
stage_back (Posted serial) = refl
stage_back InJob = refl
stage_back (Decided Answered) = refl
stage_back (Decided Won) = refl
stage_back (Decided Lost) = refl
stage_back Ended = refl

abbrev pub stage_code : Coded Stage
stage_code = code_by (ℕ × ℕ) (coded× coded_ℕ coded_ℕ) stage_in stage_out stage_back

abbrev pub claim_code : Coded OpenClaim
claim_code = code_by (ℕ × (ℕ × (ℕ × ℕ))) (coded× coded_ℕ (coded× coded_ℕ (coded× coded_ℕ coded_ℕ)))
    (λ x. (x.cluster, (x.head, (x.slot, x.generation))))
    (λ p. record { cluster = p.0; head = p.1.0; slot = p.1.1.0; generation = p.1.1.1 }) (λ _. refl)

abbrev pub row_code : Coded Row
row_code = code_by (List Command × (Stage × Option OpenClaim))
    (coded× (coded_list command.the_row.coded) (coded× stage_code (coded_option claim_code)))
    (λ r. (r.left, (r.stage, r.claim)))
    (λ p. record { left = p.0; stage = p.1.0; claim = p.1.1 }) (λ _. refl)

abbrev pub decision_seen : reached.Decision → Decision
decision_seen outcome.Answered = Answered
decision_seen outcome.Won = Won
decision_seen outcome.Lost = Lost

abbrev pub stage_seen : seen.Stage → Stage
stage_seen variants.Idle = Idle
stage_seen variants.Claiming = Claiming
stage_seen (variants.Copying left) = Copying left
stage_seen variants.Ready = Ready
stage_seen (variants.Posted serial) = Posted serial
stage_seen variants.InJob = InJob
stage_seen (variants.Decided outcome) = Decided (decision_seen outcome)
stage_seen variants.Ended = Ended

abbrev pub claim_seen : held.OpenClaim → OpenClaim
claim_seen c = record { cluster = c.cluster; head = c.head; slot = c.slot; generation = c.generation }

-- what a first command waits for
abbrev pub waits_for : Command → told.RowStage
waits_for (c.Read volume page) = waits.Read
waits_for (c.Write volume page word) = waits.Write
waits_for c.Flush = waits.Flush
waits_for _ = waits.Meta

-- what the row of a channel waits for
abbrev pub is_stage : Row → ℕ → told.RowStage
is_stage row channel = at row.left row.stage
  where
    at : List Command → Stage → told.RowStage
    at [] Idle = waits.Over
    at (command ∷ rest) Idle = waits_for command
    at left Claiming = waits.Claim
    at left (Copying count) = waits.Copy count
    at left Ready = waits.Ready
    at left (Posted serial) = waits.Posted (record { channel = channel; serial = serial })
    at left InJob = waits.InJob
    at left (Decided outcome) = waits.Decided
    at left Ended = waits.Ended

-- how many pages are to be copied at this stage
abbrev pub to_copy_in : Stage → Option ℕ
to_copy_in (Copying left) = Some left
to_copy_in _ = None

-- what is decided of a row at this stage
abbrev pub decided_in : Stage → Option Decision
decided_in (Decided outcome) = Some outcome
decided_in _ = None
