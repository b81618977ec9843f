-- Calls of a queue one after another, each with its answer.
use Rattle.std.specs.Prelude.{◌≡◌, List, [], ◌∷◌}
use Rattle.volume_model.specs.declared.reply.Msg.{Msg}
use Rattle.md_queue.specs.Queue.{HasNoRoom, IsEmpty, Appends, GivesOldest}

-- a call with its answer: a message was sent or handed back, a message was taken or there was none
pub data QueueCall : Type 0 where
  Sent : Msg → QueueCall
  Returned : Msg → QueueCall
  Taken : Msg → QueueCall
  FoundNone : QueueCall

-- what one call makes of the queue
abbrev pub Leads : List Msg → QueueCall → List Msg → Type 0
Leads before (Sent msg) after = Appends before msg after
Leads before (Returned msg) after = HasNoRoom before × (after ≡ before)
Leads before (Taken msg) after = GivesOldest before msg after
Leads before FoundNone after = IsEmpty before × (after ≡ before)

-- what calls make of it, each from what the one before it left
abbrev pub LeadTo : List Msg → List QueueCall → List Msg → Type 0
LeadTo before [] after = after ≡ before
LeadTo before (call ∷ calls) after = (between : List Msg) × Leads before call between × LeadTo between calls after

-- the messages that were sent, in order; one that was handed back isn't
abbrev pub sent_by : List QueueCall → List Msg
sent_by [] = []
sent_by (Sent msg ∷ calls) = msg ∷ sent_by calls
sent_by (Returned msg ∷ calls) = sent_by calls
sent_by (Taken msg ∷ calls) = sent_by calls
sent_by (FoundNone ∷ calls) = sent_by calls

-- the messages that were taken, in order
abbrev pub messages_taken : List QueueCall → List Msg
messages_taken [] = []
messages_taken (Sent msg ∷ calls) = messages_taken calls
messages_taken (Returned msg ∷ calls) = messages_taken calls
messages_taken (Taken msg ∷ calls) = msg ∷ messages_taken calls
messages_taken (FoundNone ∷ calls) = messages_taken calls
