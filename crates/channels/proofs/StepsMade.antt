-- The step of a channel, by what its calls answer.
use Rattle.std.proofs.Common.{◌≡◌, ℕ, Option, Some, None, true, List, [], ◌∷◌, ◌++◌, refl, sym, ◌∙◌, ap}
use Rattle.std.specs.Option.{option_map}
use Rattle.page_disk.specs.declared.disk.PageDisk.{Ghosts}
use Rattle.volume_model.specs.declared.reply.Msg.{Msg}
use Rattle.md_queue.specs.Queue.{Appends, HasNoRoom}
use Rattle.md_thread.specs.declared.state.Next.TheVariants as next
use Rattle.md_thread.specs.declared.state.Turn.{Turn}
use Rattle.md_thread.specs.declared.state.Turn.TheVariants.{Idle, Moved}
use Rattle.store_model.specs.Rows.{Ended, Row}
use Rattle.running_store.specs.Stages.{is_stage}
use Rattle.running_store.specs.StoreView.{rows_of, state_of, WithOpening}
use Rattle.running_store.specs.declared.rows.RowStage.{RowStage}
use Rattle.running_store.specs.declared.rows.RowStage.TheVariants as waits
use Rattle.channels.specs.ChannelState.{ChannelState, has_ended_at, message_of, next_step_of}
use Rattle.channels.specs.ChannelSteps.{by_end, IsHeldUp, made_turn, MadeStep, TurnsOrPosts, was_held, was_kept}
use Rattle.channels.specs.ChannelSteps.{was_sent}
use Rattle.channels.specs.Driving.{IsChannelOf}
use Rattle.channels.proofs.NextSteps.{nothing_unsent, over_unsent, something_unsent}
use Rattle.channels.proofs.Stages.{stage_of}

ended_by : (w : RowStage) → has_ended_at w ≡ true → w ≡ waits.Ended
ended_by waits.Ended is = refl
ended_by _ is = absurd (cc is)

-- a row's stage, where the channel has ended by what it waits for
pub ended_stage : (row : Row) (channel : ℕ) → has_ended_at (is_stage row channel) ≡ true → row.stage ≡ Ended
ended_stage row channel is = stage_of row channel waits.Ended (ended_by (is_stage row channel) is)

module _ {D : Type 0} (d : Ghosts D) (p q : WithOpening D) (c e : ChannelState) (queue later : List Msg) where
  abbrev Made : Type 0
  Made = MadeStep d p q c e queue later

  -- on the store
  pub by_turn : next_step_of c ≡ next.Plant → later ≡ queue → (turn : Turn)
      → (turn ≡ Moved → TurnsOrPosts d.tells (state_of d p.at) (state_of d q.at) c.channel e.unsent)
      → (turn ≡ Idle → IsHeldUp (state_of d p.at) c.channel) → (turn ≡ Idle → (q ≡ p) × (e.unsent ≡ None)) → Made
  by_turn is same Moved moved idle kept = made_turn (nothing_unsent c is) (moved refl) same
  by_turn is same Idle moved idle kept =
      was_held (nothing_unsent c is) (kept refl).1 (idle refl) (kept refl).0 same

  -- on the queue
  pub by_send : next_step_of c ≡ next.Queue → q ≡ p → (turn : Turn)
      → ((msg : Msg) → turn ≡ Moved → message_of c ≡ Some msg → Appends queue msg later × (later ≡ queue ++ msg ∷ []))
      → (turn ≡ Moved → e ≡ record c { unsent = None }) → (turn ≡ Idle → HasNoRoom queue)
      → (turn ≡ Idle → (later ≡ queue) × (e ≡ c)) → Made
  by_send is kept Moved sent emptied full same =
      let x = something_unsent c is in
      let msg : Msg = record { channel = c.channel; serial = x.0 } in
      was_sent x.0 x.1 (ap (λ (s : ChannelState). s.unsent) (emptied refl))
      (sent msg refl
      (ap (λ (o : Option ℕ). option_map (λ serial. record { channel = c.channel; serial = serial }) o) x.1)).0 kept
  by_send is kept Idle sent emptied full same =
      let x = something_unsent c is in
      was_kept x.0 x.1 (ap (λ (s : ChannelState). s.unsent) (same refl).1) (full refl) kept (same refl).0

  -- not at all
  pub by_ending : next_step_of c ≡ next.Ended → IsChannelOf p.at.rows c.channel c → e ≡ c → q ≡ p → later ≡ queue → Made
  by_ending is own same kept still =
      let x = over_unsent c is in
      was_held x.0 (ap (λ (s : ChannelState). s.unsent) same ∙ x.0) (by_end (own.ended x.1)) kept still

-- ---- the channel then

-- behind a turn
pub turned_own : (rows later : List Row) (c e : ChannelState) → e.channel ≡ c.channel
    → e.ended ≡ has_ended_at (is_stage (rows_of later c.channel) c.channel) → IsChannelOf later c.channel e
turned_own rows later c e number ended = record {
  number = number;
  ended = λ is. ended_stage (rows_of later c.channel) c.channel (sym ended ∙ is);
}

-- behind a message
pub sent_own : (rows : List Row) (c e : ChannelState) → IsChannelOf rows c.channel c → (turn : Turn)
    → (turn ≡ Moved → e ≡ record c { unsent = None }) → (turn ≡ Idle → e ≡ c) → IsChannelOf rows c.channel e
sent_own rows c e own Moved emptied same =
    let is = emptied refl in
    record {
      number = ap (λ (s : ChannelState). s.channel) is;
      ended = λ t. own.ended (sym (ap (λ (s : ChannelState). s.ended) is) ∙ t);
    }
sent_own rows c e own Idle emptied same =
    let is = same refl in
    record {
      number = ap (λ (s : ChannelState). s.channel) is;
      ended = λ t. own.ended (sym (ap (λ (s : ChannelState). s.ended) is) ∙ t);
    }
