-- The step of the metadata thread where there was nothing to do before it looked into the queue.
use Rattle.std.proofs.Common.{◌≡◌, ◌⊎◌, inl, inr, ℕ, true, false, List, [], Option, Some, None, refl, sym}
use Rattle.std.proofs.Common.{ap}
use Rattle.std.proofs.Common.{◌∙◌, subst}
use Rattle.std.specs.Prelude.{IfSome, is_none as is_empty, IsSome}
use Rattle.page_disk.specs.declared.disk.PageDisk.{Ghosts}
use Rattle.volume_model.specs.declared.reply.Msg.{Msg}
use Rattle.store_model.specs.Filling.{IsFilledFor}
use Rattle.store_model.specs.StoreState.{StoreState}
use Rattle.running_store.specs.StoreView.{rows_of, state_of, WithOpening}
use Rattle.run_work.specs.Following.{MetadataActs}
use Rattle.run_work.specs.RunFacts.{RunFacts}
use Rattle.run_work.specs.RunLaws.{DueLaws, FactLaws}
use Rattle.run_moves.specs.DrivenStore.{DrivenStore, run_of}
use Rattle.run_moves.specs.DriverSteps.{driven_at_turn, DriverStep}
use Rattle.run_moves.specs.FillTurns.{HoldsFill}
use Rattle.run_moves.specs.Projection.{RunMessages}
use Rattle.run_moves.proofs.DriverMoves.{turn_is}
use Rattle.md_thread.specs.Holding.{driven_by, IsKept, LooksForMessage, MakesStep, messages_by, MetadataState}
use Rattle.md_thread.specs.declared.state.Turn.{Turn}
use Rattle.md_thread.specs.declared.state.Turn.TheVariants.{Idle, Moved}
use Rattle.channels.specs.ChannelState.{ChannelState}
use Rattle.channels.specs.Driving.{driven, driven_of, IsDriven, unsent_of}
use Rattle.channels.specs.QueueLooks.{LooksIntoQueue}
use Rattle.channels.specs.declared.driver.Driver.{Driver}
use Rattle.channels.proofs.MetadataActing.{fills_then, is_kept, rests_then, takes_front}

-- a message that is there
front_of : {P : Msg → Type 0} (o : Option Msg) → IfSome o P → IsSome o → (front : Msg) × (o ≡ Some front) × P front
front_of (Some front) gives some = (front, refl, gives)
front_of None gives some = absurd (cc some)

something : (o : Option Msg) → IsSome o → is_empty o ≡ false
something (Some front) some = refl
something None some = absurd (cc some)

pub no_message : (o : Option Msg) → (IsSome o → ⊥) → o ≡ None
no_message None none = refl
no_message (Some front) none = absurd (none refl)

-- a turn was made, or none was
pub moved_or_idle : (t : Turn) → (t ≡ Moved) ⊎ (t ≡ Idle)
moved_or_idle Moved = inl refl
moved_or_idle Idle = inr refl

pub none_moved : (t : Turn) → (t ≡ Moved → ⊥) → t ≡ Idle
none_moved Moved none = absurd (none refl)
none_moved Idle none = refl

-- what is known of the thread before its step
pub kept_before : {D : Type 0} (d : Ghosts D) (w : Driver D) → IsDriven d w → FactLaws → IsKept d w.plant.at w.metadata
kept_before d w is fact =
    is_kept d w.plant.at w.metadata (unsent_of w.channels) w.queue fact is.run is.fill.asked is.works

module _ {D : Type 0} {d : Ghosts D} {w v : Driver D} (x : LooksIntoQueue d w v) (channels : v.channels ≡ w.channels)
  where
    abbrev t : MetadataState
    t = x.between

    abbrev u : MetadataState
    u = v.metadata

    abbrev s : StoreState
    s = state_of d w.plant.at

    abbrev unsent : ℕ → Option ℕ
    unsent = unsent_of w.channels

    waiting_same : u.waiting ≡ t.waiting
    waiting_same = ap (λ (x : MetadataState). x.waiting) x.state

    fill_same : u.fill ≡ t.fill
    fill_same = ap (λ (x : MetadataState). x.fill) x.state

    -- what comes of it, with the channels as they are
    steps_to : (q : StoreState) (after : MetadataState)
        → DriverStep d.tells MetadataActs (driven d w) (driven_of q w.channels v.queue after)
        → DriverStep d.tells MetadataActs (driven d w) (driven_of q v.channels v.queue after)
    steps_to q after step = subst (λ (l : List ChannelState). DriverStep d.tells MetadataActs (driven d w)
        (driven_of q l v.queue after)) (sym channels) step

    -- The fill that goes on is of an inflate or a decouple,
    pub asked_then : (msg : Msg) → u.fill ≡ Some msg → IsFilledFor (rows_of v.plant.at.rows msg.channel)
    asked_then msg fills = x.asked msg (sym fill_same ∙ fills)

    -- the front message was taken,
    pub looked : IsSome u.held → u.found_none ≡ false
    looked some = ap (λ (x : MetadataState). x.found_none) x.state ∙ something u.held some

    pub front_taken : DueLaws → IsSome u.held → DriverStep d.tells MetadataActs (driven d w) (driven d v)
    front_taken due some =
        let front = front_of u.held x.taken some in
        subst (λ (o : WithOpening D). DriverStep d.tells MetadataActs (driven d w)
        (driven_of (state_of d o.at) v.channels v.queue u)) (sym x.same)
        (steps_to s u (subst (λ l. DriverStep d.tells MetadataActs (driven_of s w.channels l w.metadata)
        (driven_of s w.channels v.queue u)) (sym front.2)
        (takes_front due d.tells s w.metadata t unsent x.looks x.none u front.0 v.queue front.1 waiting_same
        fill_same)))

    -- or there was none: then a turn of the fill is made, or nothing can be done
    module _ (nothing : u.held ≡ None) where
      found : u.found_none ≡ true
      found = ap (λ (x : MetadataState). x.found_none) x.state ∙ ap (λ (o : Option Msg). is_empty o) nothing

      same_messages : messages_by t unsent w.queue ≡ messages_by u unsent w.queue
      same_messages = λ i. record {
        unsent = unsent;
        queue = w.queue;
        held = (x.none ∙ sym nothing) i;
        waiting = sym waiting_same i;
        fill = sym fill_same i;
      }

      facts_then : FactLaws → IsDriven d w → RunFacts (run_of (driven_by s u unsent w.queue))
      facts_then fact is = subst (λ (m : RunMessages). RunFacts (run_of (record { store = s; messages = m })))
          same_messages (subst (λ (v : DrivenStore). RunFacts (run_of v)) (sym (x.looks.joined unsent w.queue))
          (subst RunFacts (sym (turn_is (driven d w))) (fact.turn (run_of (driven d w)) is.run)))

      pub kept_then : FactLaws → IsDriven d w → HoldsFill s (driven_at_turn (driven d w)).messages
          → IsKept d v.plant.at u
      kept_then fact is turned = subst (λ (o : WithOpening D). IsKept d o.at u) (sym x.same)
          (is_kept d w.plant.at u unsent w.queue fact (facts_then fact is)
          (subst (λ (o : WithOpening D). (msg : Msg) → u.fill ≡ Some msg → IsFilledFor (rows_of o.at.rows msg.channel))
          x.same asked_then)
          (subst (HoldsFill s) same_messages
          (subst (λ (v : DrivenStore). HoldsFill s v.messages) (sym (x.looks.joined unsent w.queue)) turned)))

      behind : (q : StoreState) (after : MetadataState)
          → DriverStep d.tells MetadataActs (driven_by s w.metadata unsent []) (driven_by q after unsent [])
          → DriverStep d.tells MetadataActs (driven d w) (driven_of q v.channels v.queue after)
      behind q after step =
          let empty = x.empty nothing in
          steps_to q after (subst (λ l. DriverStep d.tells MetadataActs (driven_by s w.metadata unsent l)
          (driven_by q after unsent v.queue)) (sym empty)
          (subst (λ l. DriverStep d.tells MetadataActs (driven_by s w.metadata unsent []) (driven_by q after unsent l))
          (sym (x.unchanged nothing ∙ empty)) step))

      pub fills_on : DueLaws → (q : StoreState) (after : MetadataState)
          → MakesStep d.tells (state_of d v.plant.at) u q after
          → DriverStep d.tells MetadataActs (driven d w) (driven_of q v.channels v.queue after)
      fills_on due q after makes = behind q after
          (fills_then due d.tells s w.metadata t unsent x.looks x.none u nothing waiting_same fill_same q after
          (subst (λ (o : WithOpening D). MakesStep d.tells (state_of d o.at) u q after) x.same makes))

      pub rests_on : DueLaws → (last : WithOpening D) (after : MetadataState) → last ≡ v.plant
          → LooksForMessage (state_of d v.plant.at) u after
          → DriverStep d.tells MetadataActs (driven d w) (driven_of (state_of d last.at) v.channels v.queue after)
      rests_on due last after is again =
          subst (λ (o : WithOpening D). DriverStep d.tells MetadataActs (driven d w)
          (driven_of (state_of d o.at) v.channels v.queue after)) (sym (is ∙ x.same))
          (behind s after
          (rests_then due d.tells s w.metadata t unsent x.looks x.none u nothing waiting_same fill_same after found
          (subst (λ (o : WithOpening D). LooksForMessage (state_of d o.at) u after) x.same again)))
