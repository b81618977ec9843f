-- A driver's step is a step of the run.
use Rattle.std.proofs.Common.{◌≡◌, ℕ, ◌<◌, Bool, true, false, List, Option, Some, None, refl, sym, ap, ◌∙◌}
use Rattle.std.proofs.Common.{subst, inl, inr}
use Rattle.std.specs.Prelude.{if◌then◌else◌, nat_lt}
use Rattle.std.proofs.lemmas.Bool.{and_parts, ltb-true}
use Rattle.super_block.specs.Numbers.{cluster_pages_of}
use Rattle.super_block.specs.declared.page.Super.{Super}
use Rattle.volume_model.specs.Volumes.{Volumes}
use Rattle.volume_model.specs.declared.command.Command.{Command}
use Rattle.volume_model.specs.declared.reply.Msg.{Msg}
use Rattle.store_model.specs.Filling.{FillStands}
use Rattle.store_model.specs.RunInvariant.{RunInvariant}
use Rattle.run_work.specs.Following.{ActorInRun, ChannelActs, MetadataActs}
use Rattle.run_work.specs.RunFacts.{is_filled_for, is_held, is_waiting, IsOneOf, IsOnTheWay, RunFacts}
use Rattle.run_work.specs.RunLaws.{DueLaws, FactLaws}
use Rattle.run_work.specs.RunState.{RunSizes, RunState}
use Rattle.run_work.specs.ServingMoves.{TakesOut, the_filled, the_first, the_held, the_taken_over, WorksFor}
use Rattle.run_work.specs.Steps.{at_once, at_turn, behind_fill, by_take, can_channel, CloseStep, due, due_in, FillStep}
use Rattle.run_work.specs.Steps.{has_to_wait, JobStep, MessageStep, MetadataMove, MoveKind, queued_behind, StepOf}
use Rattle.run_work.specs.Steps.{TakeStep}
use Rattle.run_moves.specs.DrivenStore.{DrivenStore, run_of}
use Rattle.run_moves.specs.DriverLaws.{IsOfChannels}
use Rattle.run_moves.specs.DriverSteps.{behind_others, by_closing, by_failed_fill, by_fill, by_job, by_message}
use Rattle.run_moves.specs.DriverSteps.{by_taking, by_taking_up, driven_at_turn, DriverStep, fill_ends, fill_goes_on}
use Rattle.run_moves.specs.DriverSteps.{FillActsOn, MetadataActsOn, taken_up}
use Rattle.run_moves.specs.FillTurns.{FailedFill, held_beside, HoldsFill, without_worked}
use Rattle.run_moves.specs.PlainRows.{HasPlainRows}
use Rattle.run_moves.specs.Projection.{run_state_of, RunMessages}
use Rattle.run_moves.specs.ServingTurns.{IsMeasured}
use Rattle.run_moves.specs.Sizes.{sizes_of}
use Rattle.run_moves.proofs.ChannelSteps.{channel_moves}
use Rattle.run_moves.proofs.FillHeld.{holds_at_turn, none_works}
use Rattle.run_moves.proofs.FillKept.{failed_for, none_holds}
use Rattle.run_moves.proofs.FillEnds.{ending_moves, failing_moves, works_by}
use Rattle.run_moves.proofs.FillMoves.{closing_moves, going_moves}
use Rattle.run_moves.proofs.MetadataSteps.{job_moves, measured as is_measured, MovesIn, serving_moves}

-- ---- the metadata thread

-- the store at its turn is the run's
pub turn_is : (w : DrivenStore) → run_of (driven_at_turn w) ≡ at_turn (run_of w)
turn_is w = go (has_to_wait (run_of w)) w.messages.held
  where
    go : (t : Bool) (o : Option Msg) → run_state_of w.store (if t then behind_others w.messages o else w.messages)
        ≡ (if t then queued_behind (run_of w) o else run_of w)
    go true None = refl
    go true (Some message) = refl
    go false o = refl

-- where a message is taken none is held
none_held : (job : Bool) (held fill : Option Msg) (used : Bool) (waiting queue : List Msg)
    → due job held fill used waiting queue ≡ TakeStep → held ≡ None
none_held job None fill used waiting queue is = refl
none_held true (Some message) fill used waiting queue is = absurd (cc is)
none_held false (Some message) None true waiting queue is = absurd (cc is)
none_held false (Some message) None false waiting queue is = absurd (cc is)
none_held false (Some message) (Some x) used waiting queue is = absurd (cc is)

module _ (s : Super) (first : Volumes) (script : ℕ → List Command) (channels : IsOfChannels script) (told : Bool)
    (laws : FactLaws) (due : DueLaws) (w v : DrivenStore) (has : RunInvariant s first script w.store)
    (later : RunInvariant s first script v.store) (plain : HasPlainRows w.store) (stands : FillStands w.store)
    (holds : HoldsFill w.store w.messages) (facts : RunFacts (run_of w)) where
  abbrev z : RunSizes
  z = sizes_of w.store.super

  -- it moves so between these messages
  abbrev Moves : RunMessages → RunMessages → MoveKind → Type 0
  Moves d e kind = MovesIn z (run_state_of w.store d) (run_state_of v.store e) kind

  measured : w.store.stopped ≡ None → IsMeasured w.store
  measured = is_measured s first script channels w.store has

  -- a message on its way is a channel's
  low : (message : Msg) → IsOnTheWay (run_of w) message → message.channel < 16
  low message way = (laws.posted (run_of w) message facts way).0

  -- ---- a fill

  -- one that goes on with these messages, by which no row is seen
  fill_moves : (d : RunMessages) (message : Msg) → d.fill ≡ Some message → message.channel < 16
      → HoldsFill w.store d → (run_state_of w.store d).job ≡ None
      → FillActsOn told (record w { messages = d }) message v → Moves d v.messages FillStep
  fill_moves d message fill below held idle (fill_goes_on t same) = subst (λ e. Moves d e FillStep) (sym same)
      (going_moves w.store v.store d message fill told measured t)
  fill_moves d message fill below held idle (fill_ends t same) = subst (λ e. Moves d e FillStep) (sym same)
      (ending_moves w.store v.store d stands message d.held (the_filled fill refl) below held idle told fill refl
      measured t)

  -- the message of the command that the own row works for is on its way
  worked_on_way : (message : Msg) (held : Option Msg) → WorksFor (run_of w) message held
      → IsOnTheWay (run_of w) message
  worked_on_way message held (the_filled fill same) = is_filled_for fill
  worked_on_way message held (the_taken_over none was gone) = is_held was

  taken_on_way : (message : Msg) (held : Option Msg) (waiting : List Msg) → TakesOut (run_of w) message held waiting
      → IsOnTheWay (run_of w) message
  taken_on_way message held waiting (the_held is none same) = is_held is
  taken_on_way message held waiting (the_first same is) = is_waiting (subst (IsOneOf message) (sym is) (inl refl))

  -- ---- each act

  once : (kind : MoveKind) → due_in (run_of w) ≡ kind → Moves w.messages v.messages kind
      → MetadataMove z (run_of w) (run_of v)
  once kind is x = at_once x.move (x.due ∙ sym is)

  metadata_acts : MetadataActsOn told w v → MetadataMove z (run_of w) (run_of v)
  metadata_acts (by_job is t same) = once JobStep is (subst (λ e. Moves w.messages e JobStep) (sym same)
      (job_moves s first script channels w.store has told v.store w.messages later plain t))
  metadata_acts (by_failed_fill is t same) = once JobStep is (subst (λ e. Moves w.messages e JobStep) (sym same)
      (by_fill_of t))
    where
      -- the fill's row works for a command, since it is in the job
      by_fill_of : FailedFill w.store v.store → Moves w.messages (without_worked w.messages) JobStep
      by_fill_of t =
          let x = failed_for w.store v.store stands t in
          let m = holds x.0 x.1 in
          let works = works_by w.store w.messages m.0 m.1 in
          failing_moves w.store v.store w.messages stands m.0 (held_beside w.messages.fill w.messages.held) works
          (low m.0 (worked_on_way m.0 (held_beside w.messages.fill w.messages.held) works)) holds has.guarded t
  metadata_acts (by_closing is t same) =
      let x = due.close (run_of w) is in
      once CloseStep is (subst (λ e. Moves w.messages e CloseStep) (sym same)
      (closing_moves w.store v.store w.messages stands x.0 x.1 x.2 t))
  metadata_acts (by_fill message is fill acts) = once FillStep is
      (fill_moves w.messages message fill (low message (is_filled_for fill)) holds (due.fill (run_of w) is).0 acts)
  metadata_acts (by_message message held waiting is takes t same) = once (MessageStep message) is
      (subst (λ e. Moves w.messages e (MessageStep message)) (sym same)
      (serving_moves s first script channels w.store has told v.store w.messages message
      (low message (taken_on_way message held waiting takes)) held waiting takes t))
  metadata_acts (by_taking_up message held waiting is none takes acts) =
      let d = (taken_up w held waiting message).messages in
      let x = fill_moves d message refl (low message (taken_on_way message held waiting takes))
      (none_holds w.store d (none_works w stands none (λ bad. cc (sym is ∙ bad)) (λ bad. cc (sym is ∙ bad))))
      (due.message (run_of w) message is).0 acts in
      behind_fill message (run_state_of w.store d) (record {
        none = none;
        held = held;
        waiting = waiting;
        takes = takes;
        next = refl;
      }) is x.move x.due
  metadata_acts (by_taking front rest is queue next) = once TakeStep is (record {
    move = by_take (record {
      front = front;
      rest = rest;
      queue = queue;
      none = none_held _ w.messages.held _ _ _ _ is;
      next = ap run_of next;
    });
    due = refl;
  })

-- ---- a step

-- a channel that can move is one
channel_low : (w : RunState) (channel : ℕ) → can_channel w channel ≡ true → channel < 16
channel_low w channel can = ltb-true channel 16 (and_parts (nat_lt channel 16) _ can).0

pub step_moves : FactLaws → DueLaws → (s : Super) (first : Volumes) (script : ℕ → List Command) (told : Bool)
    (actor : ActorInRun) (w v : DrivenStore) → 0 < cluster_pages_of s → IsOfChannels script
    → RunInvariant s first script w.store → RunInvariant s first script v.store → HasPlainRows w.store
    → FillStands w.store → HoldsFill w.store w.messages → RunFacts (run_of w) → DriverStep told actor w v
    → StepOf (sizes_of s) actor (run_of w) (run_of v)
step_moves laws due s first script told (ChannelActs channel) w v some channels has later plain stands holds facts
    (inl acts) = inl (
      acts.0,
      channel_moves s first script told w v has some channel (channel_low (run_of w) channel acts.0) acts.1,
    )
step_moves laws due s first script told MetadataActs w v some channels has later plain stands holds facts
    (inl acts) = inl (
      acts.0,
      subst (λ x. MetadataMove (sizes_of s) x (run_of v)) (turn_is w)
          (subst (λ x. MetadataMove (sizes_of x) (run_of (driven_at_turn w)) (run_of v)) has.super
          (metadata_acts s first script channels told laws due (driven_at_turn w) v has later plain stands
          (holds_at_turn w stands holds) (subst RunFacts (sym (turn_is w)) (laws.turn (run_of w) facts)) acts.1)),
    )
step_moves laws due s first script told actor w v some channels has later plain stands holds facts (inr none) =
    inr (none.0, ap run_of none.1)
