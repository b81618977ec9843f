-- The channels that the workers of a run have, and what a step leaves of them.
use Rattle.std.proofs.Common.{◌≡◌, ℕ, Bool, true, false, Option, Some, None, List}
use Rattle.std.proofs.Common.{◌<◌, arith, get_or, length, refl, ap, subst}
use Rattle.std.specs.Prelude.{slice_get}
use Rattle.std.proofs.lemmas.Option.{slice_get-get_or}
use Rattle.volume_model.specs.declared.reply.Msg.{Msg}
use Rattle.md_queue.specs.QueueEnds.{Sender, SendsOne}
use Rattle.md_thread.specs.declared.state.Next.TheVariants as next
use Rattle.md_thread.specs.declared.state.Turn.{Turn}
use Rattle.md_thread.specs.declared.state.Turn.TheVariants.{Idle, Moved}
use Rattle.channels.specs.ChannelState.{ChannelState, message_of, next_at, next_step_of}
use Rattle.worker_threads.specs.Senders.{AreNumbered, end_of}

-- the one that is read is at its number
pub number_of : (channels : List ChannelState) (k n : ℕ) (e : ChannelState) → AreNumbered channels
    → length channels ≡ 16 → k < 16 → n ≡ k → (get_or channels n e).channel ≡ k
number_of channels k n e are sixteen low is =
    let at : slice_get channels n ≡ Some (get_or channels n e) =
    slice_get-get_or channels n e (omega (arith, sixteen, low, is)) in
    are k (get_or channels n e) low (subst (λ (m : ℕ). slice_get channels m ≡ Some (get_or channels n e)) is at)

-- ---- a message is sent

end_at : (turn : Turn) (channel : ℕ) (unsent : Option ℕ) (ended : Bool) (before after : Sender)
    → next_at unsent ended ≡ next.Queue
    → ((msg : Msg) → turn ≡ Moved
    → message_of (record { channel = channel; unsent = unsent; ended = ended }) ≡ Some msg
    → SendsOne before msg after)
    → (turn ≡ Idle → after ≡ before) → end_of after ≡ end_of before
end_at Idle channel unsent ended before after at moved idle = ap end_of (idle refl)
end_at Moved channel (Some serial) ended before after at moved idle =
    ap end_of (moved (record { channel = channel; serial = serial }) refl refl)
end_at Moved channel None true before after at moved idle = absurd (cc at)
end_at Moved channel None false before after at moved idle = absurd (cc at)

-- where a channel sends its message, or keeps it, its sender is the same
pub end_stays : (turn : Turn) (own : ChannelState) (before after : Sender) → next_step_of own ≡ next.Queue
    → ((msg : Msg) → turn ≡ Moved → message_of own ≡ Some msg → SendsOne before msg after)
    → (turn ≡ Idle → after ≡ before) → end_of after ≡ end_of before
end_stays turn own before after at moved idle =
    end_at turn own.channel own.unsent own.ended before after at moved idle
