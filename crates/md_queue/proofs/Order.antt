-- Over calls of a queue nothing is lost, made or overtaken, and it never holds more than it may.
use Rattle.std.proofs.Common.{◌≡◌, ◌≤◌, List, [], ◌∷◌, ◌++◌, length, arith, ap, sym, ◌∙◌, length-append, append_assoc}
use Rattle.std.proofs.Common.{append-nil}
use Rattle.volume_model.specs.declared.reply.Msg.{Msg}
use Rattle.md_queue.specs.Calls.{QueueCall, Sent, Returned, Taken, FoundNone, Leads, LeadTo, sent_by, messages_taken}
use Rattle.md_queue.specs.Queue.{capacity}

-- what was held and then what was sent is what was taken and then what is held
pub in_order : (before after : List Msg) (calls : List QueueCall)
    → LeadTo before calls after → before ++ sent_by calls ≡ messages_taken calls ++ after
in_order before after [] h = append-nil before ∙ sym h
in_order before after (Sent msg ∷ calls) h =
    sym (append_assoc before (msg ∷ []) (sent_by calls)) ∙ ap (λ queue. queue ++ sent_by calls) (sym h.1.behind)
    ∙ in_order h.0 after calls h.2
in_order before after (Returned msg ∷ calls) h =
    ap (λ queue. queue ++ sent_by calls) (sym h.1.1) ∙ in_order h.0 after calls h.2
in_order before after (Taken msg ∷ calls) h =
    ap (λ queue. queue ++ sent_by calls) h.1 ∙ ap (λ queue. msg ∷ queue) (in_order h.0 after calls h.2)
in_order before after (FoundNone ∷ calls) h =
    ap (λ queue. queue ++ sent_by calls) (sym h.1.1) ∙ in_order h.0 after calls h.2

-- one call leaves no more than a queue may hold
one_bounded : (before after : List Msg) (call : QueueCall)
    → Leads before call after → length before ≤ capacity → length after ≤ capacity
one_bounded before after (Sent msg) h within =
    omega (arith, h.room, ap length h.behind, length-append before (msg ∷ []))
one_bounded before after (Returned msg) h within = omega (arith, within, ap length h.1)
one_bounded before after (Taken msg) h within = omega (arith, within, ap length h)
one_bounded before after FoundNone h within = omega (arith, within, ap length h.1)

-- nor do any calls
pub bounded : (before after : List Msg) (calls : List QueueCall)
    → LeadTo before calls after → length before ≤ capacity → length after ≤ capacity
bounded before after [] h within = omega (arith, within, ap length h)
bounded before after (call ∷ calls) h within =
    bounded h.0 after calls h.2 (one_bounded before h.0 call h.1 within)
