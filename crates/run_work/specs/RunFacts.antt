-- What every state of a run has, from which it follows that some actor can move.
use Rattle.std.specs.Prelude.{◌≡◌, ◌⊎◌, ℕ, ◌+◌, ◌==◌, ◌&&◌, not, if◌then◌else◌, nat_lt, Option, Some, None, Bool, true}
use Rattle.std.specs.Prelude.{false, List, [], ◌∷◌}
use Rattle.volume_model.specs.declared.reply.Msg.{Msg}
use Rattle.run_work.specs.RunState.{AtInJob, AtPosted, JobInRun, RunState, StageInRun}
use Rattle.run_work.specs.Reading.{is_there}
use Rattle.run_work.specs.Work.{one_if}
use Rattle.run_work.specs.ServingMoves.{WaitsInJob}

-- ---- messages on their way

abbrev pub IsOneOf : Msg → List Msg → Type 0
IsOneOf m [] = ⊥
IsOneOf m (x ∷ l) = (x ≡ m) ⊎ IsOneOf m l

-- a message that a channel has still to send, that is queued, held or waits, or whose command is being filled for
pub data IsAmongThese (unsent : ℕ → Option ℕ) (queue : List Msg) (held : Option Msg) (waiting : List Msg)
    (fill : Option Msg) (m : Msg) : Type 0 where
  not_sent : unsent m.channel ≡ Some m.serial → IsAmongThese unsent queue held waiting fill m
  in_queue : IsOneOf m queue → IsAmongThese unsent queue held waiting fill m
  is_held : held ≡ Some m → IsAmongThese unsent queue held waiting fill m
  is_waiting : IsOneOf m waiting → IsAmongThese unsent queue held waiting fill m
  is_filled_for : fill ≡ Some m → IsAmongThese unsent queue held waiting fill m

abbrev pub IsOnTheWay : RunState → Msg → Type 0
IsOnTheWay w = IsAmongThese w.unsent w.queue w.held w.waiting w.fill

abbrev pub occurs : ℕ → List Msg → ℕ
occurs k [] = 0
occurs k (x ∷ l) = one_if (k == x.channel) + occurs k l

abbrev pub comes_from : ℕ → Option Msg → Bool
comes_from k None = false
comes_from k (Some x) = k == x.channel

abbrev pub is_from : ℕ → Option Msg → ℕ
is_from k message = one_if (comes_from k message)

-- how many messages of a row are on their way
abbrev pub on_the_way : RunState → ℕ → ℕ
on_the_way w k =
    one_if (is_there (w.unsent k)) + occurs k w.queue + is_from k w.held + occurs k w.waiting + is_from k w.fill

-- how many there have to be: one of a channel's row that is posted
abbrev pub awaited : ℕ → StageInRun → ℕ
awaited k (AtPosted serial) = one_if (nat_lt k 16)
awaited k _ = 0

-- ---- the facts

pub record RunFacts (w : RunState) : Type 0 where
  -- a frozen blob is that which the running job freezes
  pub frozen : (h : ℕ) → w.frozen h ≡ true → (job : JobInRun) × (w.job ≡ Some job) × (job.freeze ≡ Some h)
  -- a row in the job is the one that waits for it
  pub in_job : (ch : ℕ) → (w.rows ch).stage ≡ AtInJob → WaitsInJob w ch
  -- each channel's posted row has just one message on its way, and no other row has any
  pub counted : (ch : ℕ) → on_the_way w ch ≡ awaited ch (w.rows ch).stage
  -- and under the serial of a message on its way its row is posted
  pub current : (m : Msg) → IsOnTheWay w m → (w.rows m.channel).stage ≡ AtPosted m.serial

-- ---- the start

abbrev pub serial_posted : StageInRun → Option ℕ
serial_posted (AtPosted serial) = Some serial
serial_posted _ = None

-- How a driver begins, at whatever stages the rows are: each posted row of a channel has its message still to send, but
-- for one that the metadata thread holds, as it takes over from another; and nothing is queued or waits.
abbrev pub at_start : RunState → Option Msg → RunState
at_start w held = record w {
  unsent = λ k. if nat_lt k 16 && not (comes_from k held) then serial_posted (w.rows k).stage else None;
  queue = [];
  held = held;
  waiting = [];
  fill = None;
}
