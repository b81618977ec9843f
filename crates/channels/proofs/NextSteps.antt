-- What a channel has, by what its next step is made on.
use Rattle.std.proofs.Common.{◌≡◌, ℕ, Option, Some, None, Bool, true, false, refl}
use Rattle.channels.specs.ChannelState.{ChannelState, next_at, next_step_of}
use Rattle.md_thread.specs.declared.state.Next.TheVariants as next

nothing_by : (unsent : Option ℕ) (ended : Bool) → next_at unsent ended ≡ next.Plant → unsent ≡ None
nothing_by (Some serial) ended is = absurd (cc is)
nothing_by None true is = refl
nothing_by None false is = refl

-- nothing to send, where it is made on the store
pub nothing_unsent : (c : ChannelState) → next_step_of c ≡ next.Plant → c.unsent ≡ None
nothing_unsent c is = nothing_by c.unsent c.ended is

something_by : (unsent : Option ℕ) (ended : Bool) → next_at unsent ended ≡ next.Queue
    → (serial : ℕ) × (unsent ≡ Some serial)
something_by (Some serial) ended is = (serial, refl)
something_by None true is = absurd (cc is)
something_by None false is = absurd (cc is)

-- a message, where it is made on the queue
pub something_unsent : (c : ChannelState) → next_step_of c ≡ next.Queue → (serial : ℕ) × (c.unsent ≡ Some serial)
something_unsent c is = something_by c.unsent c.ended is

over_by : (unsent : Option ℕ) (ended : Bool) → next_at unsent ended ≡ next.Ended → (unsent ≡ None) × (ended ≡ true)
over_by (Some serial) ended is = absurd (cc is)
over_by None true is = (refl, refl)
over_by None false is = absurd (cc is)

-- nothing, where it has ended
pub over_unsent : (c : ChannelState) → next_step_of c ≡ next.Ended → (c.unsent ≡ None) × (c.ended ≡ true)
over_unsent c is = over_by c.unsent c.ended is
