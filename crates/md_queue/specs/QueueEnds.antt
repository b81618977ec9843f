-- What contracts see of the ends of a queue that many threads share.
use Rattle.std.specs.Prelude.{◌<◌, ◌≡◌, ℕ, ◌+◌, ◌-◌, ◌^◌, List, [], ◌++◌, length, ◌∷◌, slice_index_or, Option, Some, None}
use Rattle.atomic_table.specs.Seated.{TableId}
use Rattle.crossbeam_queue.specs.Fifo.{Held}
use Rattle.volume_model.specs.declared.reply.Msg.{Msg}
use Rattle.md_queue.specs.Delivery.{messages_on, HoldsLastSent}
use Rattle.md_queue.specs.Queue.{capacity}

-- a sender: the line that it is of, its channel, and what it sent
pub record Sender : Type 0 where
  pub line : TableId
  pub channel : ℕ
  pub sent : List Msg

-- the receiver: the line that it is of, for how many channels that has senders, what it took, and of each sender that
-- was joined what it sent, by channels
pub record Receiver : Type 0 where
  pub line : TableId
  pub channels : ℕ
  pub taken : List Msg
  pub joined : List (List Msg)

-- what was sent by each channel, what was taken, and what is left
pub record Account : Type 0 where
  pub sent : List (List Msg)
  pub taken : List Msg
  pub left : List Msg

-- of each channel, what was sent is what was taken of it, then what is left of it, in order
abbrev pub IsHandled : Account → Type 0
IsHandled a =
    (channel : ℕ) → slice_index_or a.sent channel [] ≡ messages_on channel a.taken ++ messages_on channel a.left

-- the greatest number of messages that is counted
abbrev pub most_counted : ℕ
most_counted = 2 ^ 64 - 1

-- ---- calls

-- a message was sent, behind the others
abbrev pub SendsOne : Sender → Msg → Sender → Type 0
SendsOne before msg after = after ≡ record before { sent = before.sent ++ msg ∷ [] }

-- The queue was full at some moment: it held as many messages then as it can, and those of this channel were the last
-- that were sent.
abbrev pub WasFull : Sender → Type 0
WasFull s = Held capacity (HoldsLastSent s.channel s.sent)

-- a message was taken, behind the others
abbrev pub TakesOne : Receiver → Msg → Receiver → Type 0
TakesOne before msg after = after ≡ record before { taken = before.taken ++ msg ∷ [] }

-- all that the joined senders sent was taken
abbrev pub IsCaughtUp : Receiver → Type 0
IsCaughtUp r = (k : ℕ) → k < length r.joined → slice_index_or r.joined k [] ≡ messages_on k r.taken

-- a sender was joined, and what it sent is known
abbrev pub JoinsOne : Receiver → Sender → Receiver → Type 0
JoinsOne before sender after = after ≡ record before { joined = before.joined ++ sender.sent ∷ [] }

-- ---- all ends of a line

-- these senders are of this line, and of the channels from this one on, in order
abbrev pub AreOf : TableId → ℕ → List Sender → Type 0
AreOf line channel [] = Unit {0}
AreOf line channel (s ∷ ss) = (s.line ≡ line) × (s.channel ≡ channel) × AreOf line (channel + 1) ss

-- these are all the senders of the receiver's line, and none was joined
abbrev pub AreAllOf : List Sender → Receiver → Type 0
AreAllOf senders receiver =
    AreOf receiver.line 0 senders × (length senders ≡ receiver.channels) × (receiver.joined ≡ [])

-- the senders that stand in places
abbrev pub senders_in : List (Option Sender) → List Sender
senders_in [] = []
senders_in (None ∷ places) = senders_in places
senders_in (Some s ∷ places) = s ∷ senders_in places
