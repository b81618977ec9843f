-- What actors do, as steps of a driver over a store and its messages.
use Rattle.std.proofs.Common.{◌≡◌, ◌≢◌, inl, inr, ℕ, ◌<◌, nat_lt, Option, Some, None, Bool, true, false, ◌&&◌}
use Rattle.std.proofs.Common.{if◌then◌else◌, List, refl, sym, ◌∙◌, ap, arith}
use Rattle.std.specs.Prelude.{◌==◌, slice_get, slice_set}
use Rattle.std.specs.Option.{option_and_then}
use Rattle.std.proofs.Math.Path.{fun_ext}
use Rattle.std.proofs.lemmas.Bool.{cases_eq, eq-eqb, ne_eqb}
use Rattle.std.proofs.lemmas.Bool.Decides.{nat_tests}
use Rattle.std.proofs.lemmas.Option.{slice_get_within}
use Rattle.super_block.specs.declared.page.Super.{Super}
use Rattle.volume_model.specs.Volumes.{Volumes}
use Rattle.volume_model.specs.declared.command.Command.{Command}
use Rattle.volume_model.specs.declared.reply.Msg.{Msg}
use Rattle.md_queue.specs.Queue.{Appends, HasNoRoom}
use Rattle.store_model.specs.Rows.{Claiming, Copying, Decided, Ended, Idle, InJob, Posted, Ready, Stage}
use Rattle.store_model.specs.RunInvariant.{RunInvariant}
use Rattle.store_model.specs.StoreState.{StoreState}
use Rattle.store_model.proofs.Inserted.{get_set_here}
use Rattle.store_model.proofs.Ranges.{get_set_other}
use Rattle.run_work.specs.Following.{ChannelActs}
use Rattle.run_work.specs.RunFacts.{not_sent, RunFacts}
use Rattle.run_work.specs.RunState.{AtPosted, StageInRun}
use Rattle.run_work.specs.Steps.{has_to_wait}
use Rattle.run_moves.specs.DrivenStore.{DrivenStore, run_of}
use Rattle.run_moves.specs.DriverLaws.{DriverLawsOf}
use Rattle.run_moves.specs.DriverSteps.{behind_others, by_posting, by_sending, by_turn}
use Rattle.run_moves.specs.DriverSteps.{driven_at_turn, DriverStep}
use Rattle.run_moves.specs.Projection.{stage_in_run}
use Rattle.channels.specs.ChannelState.{ChannelState}
use Rattle.channels.specs.ChannelSteps.{IsHeldUp, posted, turned, TurnsOrPosts}
use Rattle.channels.specs.Driving.{driven_of, unsent_of}
use Rattle.md_thread.specs.Holding.{driven_by, messages_by, MetadataState}
use Rattle.run_moves.specs.Projection.{RunMessages}
use Rattle.channels.proofs.HeldUp.{full, held_up, sends}

-- ---- messages that are still to be sent

-- the serial of one, of a channel that is there
abbrev unsent_in : Option ChannelState → Option ℕ
unsent_in o = option_and_then (λ (c : ChannelState). c.unsent) o

module _ (channels : List ChannelState) (k : ℕ) (c : ChannelState) (at : slice_get channels k ≡ Some c)
    (e : ChannelState) where
  here : unsent_of (slice_set channels k e) k ≡ e.unsent
  here = ap unsent_in (get_set_here channels k e (slice_get_within channels k c at))

  there : (j : ℕ) → j ≢ k → unsent_of (slice_set channels k e) j ≡ unsent_of channels j
  there j ne = ap unsent_in (get_set_other channels k j e ne)

  -- as before
  pub unsent_same : e.unsent ≡ c.unsent → unsent_of (slice_set channels k e) ≡ unsent_of channels
  unsent_same same = fun_ext (λ j. elim (cases_eq j k) [
    | inl is ↦
        ap (unsent_of (slice_set channels k e)) is ∙ here ∙ same ∙ sym (ap unsent_in at)
        ∙ sym (ap (unsent_of channels) is)
    | inr ne ↦ there j ne
  ])

  -- one more
  pub unsent_more : (serial : ℕ) → k < 16 → e.unsent ≡ Some serial → unsent_of (slice_set channels k e)
      ≡ (λ j. if j == k && nat_lt k 16 then Some serial else unsent_of channels j)
  unsent_more serial low is = fun_ext (λ j. elim (cases_eq j k) [
    | inl same ↦
        let below : nat_lt k 16 ≡ true = grind (arith, nat_tests) in
        ap (unsent_of (slice_set channels k e)) same ∙ here ∙ is
        ∙ sym (ap (λ b. if b && nat_lt k 16 then Some serial else unsent_of channels j) (eq-eqb j k same)
        ∙ ap (λ b. if true && b then Some serial else unsent_of channels j) below)
    | inr ne ↦
        there j ne
        ∙ sym (ap (λ b. if b && nat_lt k 16 then Some serial else unsent_of channels j) (ne_eqb j k ne))
  ])

  -- one less
  pub unsent_less : e.unsent ≡ None → unsent_of (slice_set channels k e)
      ≡ (λ j. if j == k then None else unsent_of channels j)
  unsent_less is = fun_ext (λ j. elim (cases_eq j k) [
    | inl same ↦
        ap (unsent_of (slice_set channels k e)) same ∙ here ∙ is
        ∙ sym (ap (λ b. if b then None else unsent_of channels j) (eq-eqb j k same))
    | inr ne ↦ there j ne ∙ sym (ap (λ b. if b then None else unsent_of channels j) (ne_eqb j k ne))
  ])

-- ---- a channel

pub posted_stage : (stage : Stage) (serial : ℕ) → stage_in_run stage ≡ AtPosted serial → stage ≡ Posted serial
posted_stage (Posted n) serial is = ap (λ s. Posted (serial_of s)) is
  where
    serial_of : StageInRun → ℕ
    serial_of (AtPosted m) = m
    serial_of _ = 0
posted_stage Idle serial is = absurd (cc is)
posted_stage Claiming serial is = absurd (cc is)
posted_stage (Copying left) serial is = absurd (cc is)
posted_stage Ready serial is = absurd (cc is)
posted_stage InJob serial is = absurd (cc is)
posted_stage (Decided outcome) serial is = absurd (cc is)
posted_stage Ended serial is = absurd (cc is)

module _ (told : Bool) (s : Super) (first : Volumes) (script : ℕ → List Command) (laws : DriverLawsOf s first script)
    (p q : StoreState) (inv : RunInvariant s first script p) (channels : List ChannelState) (queue : List Msg)
    (s_ : MetadataState) (k : ℕ) (low : k < 16) (c e : ChannelState) (at : slice_get channels k ≡ Some c) where
  abbrev Acts : StoreState → List Msg → Type 0
  Acts after later = DriverStep told (ChannelActs k) (driven_of p channels queue s_)
      (driven_of after (slice_set channels k e) later s_)

  -- a turn of its own, or a posting
  pub turn_acts : c.unsent ≡ None → TurnsOrPosts told p q k e.unsent → Acts q queue
  turn_acts none (turned turn is) = inl (
    laws.turn_can told p q (messages_by s_ (unsent_of channels) queue) k inv low turn,
    by_turn turn
        (ap (λ u. messages_by s_ u queue)
        (unsent_same channels k c at e (is ∙ sym none))),
  )
  turn_acts none (posted turn is) = inl (
    laws.posting_can told p q (messages_by s_ (unsent_of channels) queue) k inv low turn,
    by_posting turn
        (ap (λ u. messages_by s_ u queue)
        (unsent_more channels k c at e p.serial low is)),
  )

  stays : e.unsent ≡ c.unsent
      → driven_of p (slice_set channels k e) queue s_ ≡ driven_of p channels queue s_
  stays same = ap
      (λ u. driven_by p s_ u queue)
      (unsent_same channels k c at e same)

  -- none, where it is held up
  pub held_acts : c.unsent ≡ None → e.unsent ≡ None → IsHeldUp p k → Acts p queue
  held_acts none still up = inr (
    held_up p (messages_by s_ (unsent_of channels) queue) k (ap unsent_in at ∙ none) up,
    stays (still ∙ sym none),
  )

  module _ (facts : RunFacts (run_of (driven_of p channels queue s_))) (serial : ℕ)
      (some : c.unsent ≡ Some serial) where
    waits : unsent_of channels k ≡ Some serial
    waits = ap unsent_in at ∙ some

    is_posted : (p.rows k).stage ≡ Posted serial
    is_posted = posted_stage (p.rows k).stage serial
        (facts.current (record { channel = k; serial = serial }) (not_sent waits))

    -- it sends its message
    pub sending_acts : (later : List Msg) → e.unsent ≡ None → Appends queue (record { channel = k; serial = serial })
        later
        → Acts p later
    sending_acts later none x = inl (
      sends p (messages_by s_ (unsent_of channels) queue) k serial serial low is_posted waits x.room,
      by_sending serial waits x.room
          (λ i. driven_by p s_ (unsent_less channels k c at e none i) (x.behind i)),
    )

    -- or keeps it
    pub keeping_acts : e.unsent ≡ c.unsent → HasNoRoom queue → Acts p queue
    keeping_acts same many = inr
        (full p (messages_by s_ (unsent_of channels) queue) k serial is_posted many, stays same)

-- ---- the metadata thread

-- where none is held no command comes to wait
pub none_joins : (w : DrivenStore) → w.messages.held ≡ None → driven_at_turn w ≡ w
none_joins w none = ap (λ (m : RunMessages). record w { messages = m }) (go (has_to_wait (run_of w)))
  where
    go : (b : Bool) → (if b then behind_others w.messages w.messages.held else w.messages) ≡ w.messages
    go true = ap (behind_others w.messages) none
    go false = refl
