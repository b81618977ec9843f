-- What contracts see of a channel.
use Rattle.std.specs.Prelude.{ℕ, ◌==◌, if◌then◌else◌, Option, Some, None, Bool, true, false}
use Rattle.std.specs.Option.{option_map}
use Rattle.volume_model.specs.declared.reply.Msg.{Msg}
use Rattle.running_store.specs.declared.rows.RowStage.{RowStage}
use Rattle.running_store.specs.declared.rows.RowStage.TheVariants as waits
use Rattle.md_thread.specs.declared.state.Next.{Next}
use Rattle.md_thread.specs.declared.state.Next.TheVariants as next

-- its number, the serial of the message that it has still to send, and whether it has ended
pub record ChannelState : Type 0 where
  pub channel : ℕ
  pub unsent : Option ℕ
  pub ended : Bool

-- the message that it has still to send
abbrev pub message_of : ChannelState → Option Msg
message_of c = option_map (λ serial. record { channel = c.channel; serial = serial }) c.unsent

-- the serial under which a row at this stage is posted, if it is
abbrev pub serial_at : RowStage → Option ℕ
serial_at (waits.Posted msg) = Some msg.serial
serial_at _ = None

abbrev pub has_ended_at : RowStage → Bool
has_ended_at waits.Ended = true
has_ended_at _ = false

-- the channel of this number, whose row is at this stage: the message of a posted row is still to be sent
abbrev pub channel_at : ℕ → RowStage → ChannelState
channel_at channel stage =
    record { channel = channel; unsent = serial_at stage; ended = has_ended_at stage }

-- the channel of this number, whose message is sent
abbrev pub sent_at : ℕ → ChannelState
sent_at channel = record { channel = channel; unsent = None; ended = false }

-- whether slots are filled for the command of this channel
abbrev pub fills_for : Option ℕ → ℕ → Bool
fills_for None channel = false
fills_for (Some filled) channel = channel == filled

-- The channel of this number at the start of a run: its row's stage says whether it has a message to send. The metadata
-- thread has that of the command for which slots are filled.
abbrev pub starting_at : Option ℕ → ℕ → RowStage → ChannelState
starting_at filling channel stage =
    if fills_for filling channel then sent_at channel else channel_at channel stage

abbrev pub next_at : Option ℕ → Bool → Next
next_at (Some serial) ended = next.Queue
next_at None true = next.Ended
next_at None false = next.Plant

-- what its next step is made on: a message that it has to send comes first
abbrev pub next_step_of : ChannelState → Next
next_step_of c = next_at c.unsent c.ended
