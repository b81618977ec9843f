-- The ends of a line that the threads of a run have.
use Rattle.std.specs.Prelude.{◌≡◌, ℕ, ◌<◌, ◌+◌, List, [], ◌∷◌, map, slice_get, Some}
use denote.Struct.Props.{props}
use Rattle.std.specs.declared.thread.PromisedHandle.{PromisedHandle}
use Rattle.atomic_table.specs.Seated.{TableId}
use Rattle.channels.specs.ChannelState.{ChannelState}
use Rattle.md_queue.specs.QueueEnds.{AreAllOf, AreOf, Receiver, Sender}
use Rattle.worker_threads.specs.declared.starting.SameEnd.{SameEnd}

-- which sender it is: the line that it is of, and its channel
abbrev pub end_of : Sender → TableId × ℕ
end_of s = (s.line, s.channel)

abbrev pub ends_of : List Sender → List (TableId × ℕ)
ends_of senders = map end_of senders

-- the sender that a worker was given, in these words
abbrev pub end_given : {T : Type 0} → PromisedHandle T SameEnd → TableId × ℕ
end_given handle = end_of handle.promise.0.value

-- these senders are of one line, and of the channels from this one on, in order
abbrev pub AreOfOneLine : ℕ → List Sender → Type 0
AreOfOneLine channel senders = (line : TableId) × AreOf line channel senders

are_of_prop : (line : TableId) (channel : ℕ) (senders : List Sender) → IsProp (AreOf line channel senders)
are_of_prop line channel [] = hlevel
are_of_prop line channel (s ∷ others) = hlevel (are_of_prop line (channel + 1) others, props)

-- that these are all the senders of a line has one proof at most: a type may keep it
pub all_of_prop : (senders : List Sender) (receiver : Receiver) → IsProp (AreAllOf senders receiver)
all_of_prop senders receiver = hlevel (are_of_prop receiver.line 0 senders, props)

-- it is the same receiver, which has taken other messages at most
abbrev pub IsSameReceiver : Receiver → Receiver → Type 0
IsSameReceiver before after = (after.line ≡ before.line) × (after.channels ≡ before.channels)
    × (after.joined ≡ before.joined)

-- each of these channels stands at its number
abbrev pub AreNumbered : List ChannelState → Type 0
AreNumbered channels = (k : ℕ) (c : ChannelState) → k < 16 → slice_get channels k ≡ Some c → c.channel ≡ k
