-- A driver's step leaves the driver with the fill of the command that the fill's row works for.
use Rattle.std.specs.Prelude.{if◌then◌else◌, ◌&&◌, ◌||◌, not, List}
use Rattle.std.proofs.Common.{◌≡◌, ℕ, Bool, true, false, Option, None, Some, refl, sym, ap, ◌∙◌, subst, inl, inr}
use Rattle.volume_model.specs.declared.reply.Msg.{Msg}
use Rattle.store_model.specs.Filling.{FillStands}
use Rattle.store_model.specs.StoreState.{StoreState}
use Rattle.run_work.specs.Following.{ActorInRun, ChannelActs, MetadataActs}
use Rattle.run_work.specs.Reading.{is_there}
use Rattle.run_work.specs.Steps.{CloseStep, due, due_in, has_to_wait, JobStep}
use Rattle.run_moves.specs.DrivenStore.{DrivenStore, run_of}
use Rattle.run_moves.specs.DriverSteps.{behind_others, messages_at_turn}
use Rattle.run_moves.specs.DriverSteps.{by_closing, by_failed_fill, by_fill, by_job, by_message, by_posting, by_sending}
use Rattle.run_moves.specs.DriverSteps.{by_taking, by_taking_up, by_turn, ChannelActsOn, driven_at_turn, DriverStep}
use Rattle.run_moves.specs.DriverSteps.{fill_ends, fill_goes_on, FillActsOn, MetadataActsOn, taken_up}
use Rattle.run_moves.specs.FillTurns.{HoldsFill, worked_for}
use Rattle.run_moves.specs.Projection.{RunMessages}
use Rattle.run_moves.proofs.FillKept.{channel_works, ended_none, failed_none, going_holds, holds_on, job_works}
use Rattle.run_moves.proofs.FillKept.{none_holds, posting_works, serving_works, unused_works, WorksOn}

-- Where no fill goes on the own row isn't in use, unless the job's turn is due, or the ending of that row.
unused_unless : (job : Bool) (held fill : Option Msg) (used : Bool) (waiting queue : List Msg) → fill ≡ None
    → (due job held fill used waiting queue ≡ JobStep → ⊥) → (due job held fill used waiting queue ≡ CloseStep → ⊥)
    → used ≡ false
unused_unless job held (Some message) used waiting queue none not_job not_close = absurd (cc none)
unused_unless true held None used waiting queue none not_job not_close = absurd (not_job refl)
unused_unless false None None true waiting queue none not_job not_close = absurd (not_close refl)
unused_unless false (Some message) None true waiting queue none not_job not_close = absurd (not_close refl)
unused_unless false held None false waiting queue none not_job not_close = refl

-- so it works for none where a message is to be served or taken
pub none_works : (w : DrivenStore) → FillStands w.store → w.messages.fill ≡ None
    → (due_in (run_of w) ≡ JobStep → ⊥) → (due_in (run_of w) ≡ CloseStep → ⊥) → w.store.filling ≡ None
none_works w stands none not_job not_close = unused_works w.store w.store stands
    (unused_unless _ w.messages.held w.messages.fill _ w.messages.waiting w.messages.queue none not_job not_close)

-- the message of the command that the own row works for, of these messages
abbrev worked_in : RunMessages → Option Msg
worked_in d = worked_for d.fill d.held

module _ (told : Bool) (w v : DrivenStore) (stands : FillStands w.store) (holds : HoldsFill w.store w.messages) where
  -- the same while a fill goes on, whatever is held
  held_changes : (d : RunMessages) (message : Msg) → w.messages.fill ≡ Some message → d.fill ≡ w.messages.fill
      → worked_in d ≡ worked_in w.messages
  held_changes d message fill same =
      ap (λ o. worked_for o d.held) (same ∙ fill) ∙ sym (ap (λ o. worked_for o w.messages.held) fill)

  channel_holds : (channel : ℕ) → ChannelActsOn told w channel v → HoldsFill v.store v.messages
  channel_holds channel (by_turn t same) = holds_on w.store v.store w.messages v.messages
      (channel_works told w.store v.store channel t) (ap (λ m. worked_in m) same) holds
  channel_holds channel (by_posting t same) = holds_on w.store v.store w.messages v.messages
      (posting_works told w.store v.store channel t) (ap (λ m. worked_in m) same) holds
  channel_holds channel (by_sending serial waits room next) =
      subst (λ (x : DrivenStore). HoldsFill x.store x.messages) (sym next) holds

  -- a fill's act, with these messages
  acts_hold : (d : RunMessages) (message : Msg) → d.fill ≡ Some message → HoldsFill w.store d
      → FillActsOn told (record w { messages = d }) message v → HoldsFill v.store v.messages
  acts_hold d message fill held (fill_goes_on t same) = subst (HoldsFill v.store) (sym same)
      (going_holds w.store v.store stands told d message fill held t)
  acts_hold d message fill held (fill_ends t same) = none_holds v.store v.messages
      (ended_none w.store v.store stands told message.channel t)

  pub metadata_holds : MetadataActsOn told w v → HoldsFill v.store v.messages
  metadata_holds (by_job is t same) = holds_on w.store v.store w.messages v.messages
      (job_works told w.store v.store t) (ap (λ m. worked_in m) same) holds
  metadata_holds (by_failed_fill is t same) = none_holds v.store v.messages (failed_none w.store v.store stands t)
  metadata_holds (by_closing is t same) = none_holds v.store v.messages
      (ap (λ (s : StoreState). s.filling) t.next)
  metadata_holds (by_fill message is fill acts) = acts_hold w.messages message fill holds acts
  metadata_holds (by_message message held waiting is takes t same) = by_fill_of w.messages.fill refl
    where
      works : WorksOn w.store v.store
      works = serving_works told w.store v.store message.channel t

      by_fill_of : (o : Option Msg) → w.messages.fill ≡ o → HoldsFill v.store v.messages
      by_fill_of None none channel working = none_holds w.store v.messages
          (none_works w stands none (λ bad. cc (sym is ∙ bad)) (λ bad. cc (sym is ∙ bad))) channel
          (works channel working)
      by_fill_of (Some x) fill channel working = holds_on w.store v.store w.messages v.messages works
          (held_changes v.messages x fill (ap (λ (m : RunMessages). m.fill) same)) holds channel working
  metadata_holds (by_taking_up message held waiting is none takes acts) =
      let d = (taken_up w held waiting message).messages in
      acts_hold d message refl (none_holds w.store d
      (none_works w stands none (λ bad. cc (sym is ∙ bad)) (λ bad. cc (sym is ∙ bad)))) acts
  metadata_holds (by_taking front rest is queue next) =
      subst (λ (x : DrivenStore). HoldsFill x.store x.messages) (sym next) (by_fill_of w.messages.fill refl)
    where
      taken : RunMessages
      taken = record w.messages { queue = rest; held = Some front }

      by_fill_of : (o : Option Msg) → w.messages.fill ≡ o → HoldsFill w.store taken
      by_fill_of None none = none_holds w.store taken
          (none_works w stands none (λ bad. cc (sym is ∙ bad)) (λ bad. cc (sym is ∙ bad)))
      by_fill_of (Some x) fill = holds_on w.store w.store w.messages taken (λ channel was. was)
          (held_changes taken x fill refl) holds

-- a command comes to wait where a fill goes on, or the own row isn't in use
unused_or_fill : (job : Bool) (fill : Option Msg) (used b c : Bool) → fill ≡ None
    → (not job && (is_there fill || not used) && b && c) ≡ true → used ≡ false
unused_or_fill job (Some message) used b c none waits = absurd (cc none)
unused_or_fill job None false b c none waits = refl
unused_or_fill true None true b c none waits = absurd (cc waits)
unused_or_fill false None true b c none waits = absurd (cc waits)

pub holds_at_turn : (w : DrivenStore) → FillStands w.store → HoldsFill w.store w.messages
    → HoldsFill w.store (messages_at_turn w)
holds_at_turn w stands holds = go (has_to_wait (run_of w)) refl
  where
    by_fill_of : (o : Option Msg) → w.messages.fill ≡ o → has_to_wait (run_of w) ≡ true
        → HoldsFill w.store (behind_others w.messages w.messages.held)
    by_fill_of None none waits channel works = none_holds w.store (behind_others w.messages w.messages.held)
        (unused_works w.store w.store stands (unused_or_fill _ w.messages.fill _ _ _ none waits)) channel works
    by_fill_of (Some x) fill waits channel works =
        let y = holds channel works in (y.0, same w.messages.held ∙ y.1, y.2)
      where
        same : (o : Option Msg) → worked_in (behind_others w.messages o) ≡ worked_in w.messages
        same None = refl
        same (Some message) =
            ap (λ f. worked_for f None) fill ∙ sym (ap (λ f. worked_for f w.messages.held) fill)

    go : (t : Bool) → has_to_wait (run_of w) ≡ t
        → HoldsFill w.store (if t then behind_others w.messages w.messages.held else w.messages)
    go true waits = by_fill_of w.messages.fill refl waits
    go false free = holds

-- whoever acts
pub step_holds : (told : Bool) (actor : ActorInRun) (w v : DrivenStore)
    → FillStands w.store → HoldsFill w.store w.messages → DriverStep told actor w v → HoldsFill v.store v.messages
step_holds told (ChannelActs channel) w v stands holds (inl acts) = channel_holds told w v stands holds channel acts.1
step_holds told MetadataActs w v stands holds (inl acts) =
    metadata_holds told (driven_at_turn w) v stands (holds_at_turn w stands holds) acts.1
step_holds told actor w v stands holds (inr none) =
    subst (λ (x : DrivenStore). HoldsFill x.store x.messages) (sym none.1) holds
