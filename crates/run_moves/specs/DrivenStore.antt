-- A store with the messages of the driver of its run, and that run.
use Rattle.std.specs.Prelude.{ℕ, ◌&&◌, not, if◌then◌else◌, nat_lt, Option, Some, None, []}
use Rattle.std.specs.Option.{option_and_then, option_map}
use Rattle.volume_model.specs.declared.reply.Msg.{Msg}
use Rattle.store_model.specs.Rows.{Posted, Stage}
use Rattle.store_model.specs.StoreState.{StoreState}
use Rattle.run_work.specs.RunFacts.{comes_from}
use Rattle.run_work.specs.RunState.{RunState}
use Rattle.run_moves.specs.Projection.{run_state_of, RunMessages}

pub record DrivenStore : Type 0 where
  pub store : StoreState
  pub messages : RunMessages

abbrev pub run_of : DrivenStore → RunState
run_of w = run_state_of w.store w.messages

-- the serial under which a row is posted, if it is
abbrev pub serial_in : Stage → Option ℕ
serial_in (Posted serial) = Some serial
serial_in _ = None

-- the message of the command that the fill's row works for, if it works for one
abbrev pub message_filled_for : StoreState → Option Msg
message_filled_for p = option_and_then
    (λ channel. option_map (λ serial. record { channel = channel; serial = serial }) (serial_in (p.rows channel).stage))
    p.filling

-- How a driver begins on a store at whatever stages its rows are: the metadata thread holds the message of the command
-- that the fill's row works for; every other channel that is posted has its message still to send; and nothing is
-- queued or waits.
abbrev pub driven_at_start : StoreState → DrivenStore
driven_at_start p = record {
  store = p;
  messages = record {
    unsent = λ k. if nat_lt k 16 && not (comes_from k (message_filled_for p)) then serial_in (p.rows k).stage else None;
    queue = [];
    held = message_filled_for p;
    waiting = [];
    fill = None;
  };
}
