-- The rule of a queue that many threads share: of each channel, what was sent is what the receiver got of it, and then
-- what the queue holds of it, in order.
use Rattle.std.specs.Prelude.{◌≡◌, ℕ, ◌+◌, ◌<◌, ◌≤◌, ◌==◌, true, false, List, [], ◌∷◌, ◌++◌, length, Option, Some, None}
use Rattle.std.specs.Prelude.{filter, sum_by, slice_index_or}
use mathlib.Core.Option.{some}
use lib.ListN.{get_elem?}
use Rattle.volume_model.specs.declared.reply.Msg.{Msg}
use Rattle.md_queue.specs.declared.ruled.rule.EndView.{EndView}

-- the messages of a channel, in order
abbrev pub messages_on : ℕ → List Msg → List Msg
messages_on channel msgs = filter (λ (msg : Msg). msg.channel == channel) msgs

-- ---- what an end knows

-- a sender of a channel, which has sent these messages
abbrev pub sender_view : ℕ → List Msg → EndView
sender_view channel sent = record {
  is_sender = true;
  channel = channel;
  sent = sent;
  is_receiver = false;
  taken = [];
  left = [];
  channels = 0;
  joined = [];
}

-- the receiver: what it has taken, and found left; for how many channels there are senders, and what the joined ones
-- have sent
abbrev pub receiver_view : List Msg → List Msg → ℕ → List (List Msg) → EndView
receiver_view taken left channels joined = record {
  is_sender = false;
  channel = 0;
  sent = [];
  is_receiver = true;
  taken = taken;
  left = left;
  channels = channels;
  joined = joined;
}

-- an end that was joined to the receiver, which knows since then what it knew
abbrev pub spent_view : EndView
spent_view = record {
  is_sender = false;
  channel = 0;
  sent = [];
  is_receiver = false;
  taken = [];
  left = [];
  channels = 0;
  joined = [];
}

-- ---- the rule

-- what went through the queue so far: the receiver's pass, of each channel the pass of its sender, if it has one that
-- wasn't joined, what each channel sent, and what the receiver got
pub record Traffic : Type 0 where
  pub reader : ℕ
  pub writers : ℕ → Option ℕ
  pub sent : ℕ → List Msg
  pub got : List Msg

-- a sender is the only one of its channel, and knows what that has sent
pub record KnowsSent (traffic : Traffic) (pass : ℕ) (view : EndView) : Type 0 where
  pub alone : traffic.writers view.channel ≡ Some pass
  pub sent : view.sent ≡ traffic.sent view.channel

-- a channel has no sender, and this is what it has sent in all
pub record IsDone (traffic : Traffic) (channel : ℕ) (sent : List Msg) : Type 0 where
  pub no_writer : traffic.writers channel ≡ None
  pub whole : sent ≡ traffic.sent channel

-- the receiver is the only one, and knows what it got, what the channels have sent whose senders were joined, and that
-- other channels than its own send nothing
pub record KnowsGot (traffic : Traffic) (pass : ℕ) (view : EndView) : Type 0 where
  pub alone : pass ≡ traffic.reader
  pub got : view.taken ++ view.left ≡ traffic.got
  pub joined : (channel : ℕ) → channel < length view.joined
      → IsDone traffic channel (slice_index_or view.joined channel [])
  pub others : (channel : ℕ) → view.channels ≤ channel → IsDone traffic channel []
  pub within : length view.joined ≤ view.channels

-- what a pass knows is so
pub record Knows (traffic : Traffic) (pass : ℕ) (view : EndView) : Type 0 where
  pub by_sender : view.is_sender ≡ true → KnowsSent traffic pass view
  pub by_receiver : view.is_receiver ≡ true → KnowsGot traffic pass view

-- the rule, of what the queue holds and of what each pass knows
pub record HoldsInOrder (queue : List Msg) (views : List EndView) : Type 0 where
  pub traffic : Traffic
  pub in_order : (channel : ℕ) → messages_on channel (traffic.got ++ queue) ≡ traffic.sent channel
  pub known : (pass : ℕ) (view : EndView) → get_elem? views pass ≡ some view → Knows traffic pass view

-- ---- what an end learns of the queue

-- what the queue holds of a channel is the last of what that has sent
abbrev pub HoldsLastSent : ℕ → List Msg → List Msg → Type 0
HoldsLastSent channel sent queue = (before : List Msg) × (before ++ messages_on channel queue ≡ sent)

-- of a channel, what was sent is what the receiver got, and then what the queue holds
abbrev pub AccountsFor : EndView → List Msg → ℕ → Type 0
AccountsFor view queue channel =
    slice_index_or view.joined channel [] ≡ messages_on channel ((view.taken ++ view.left) ++ queue)

-- so it is of each channel whose sender was joined
abbrev pub AccountsForJoined : EndView → List Msg → Type 0
AccountsForJoined view queue = (channel : ℕ) → channel < length view.joined → AccountsFor view queue channel

-- so it is of every channel, once all senders were joined, and no message is of another one
pub record AccountsForAll (view : EndView) (queue : List Msg) : Type 0 where
  pub each : (channel : ℕ) → AccountsFor view queue channel
  pub count : length view.taken + length view.left + length queue ≡ sum_by length view.joined

-- one message more is left, and one more there was
pub record LeavesOne (before : EndView) (msg : Msg) (after : EndView) : Type 0 where
  pub behind : after ≡ receiver_view before.taken (before.left ++ msg ∷ []) before.channels before.joined
  pub fewer : length before.taken + length before.left < sum_by length before.joined
