-- What a driver keeps over steps: which of its rows have ended, and what is known of posted rows and of the fill's.
use Rattle.std.proofs.Common.{◌≡◌, ◌⊎◌, inl, inr, ℕ, Bool, List, [], length, None, refl}
use Rattle.std.proofs.Common.{sym, ◌∙◌, ap, subst, arith}
use Rattle.std.proofs.Math.ListN.{get_or-eq_default}
use Rattle.std.proofs.lemmas.Bool.{cases_eq}
use Rattle.store_model.specs.Filling.{FillStands, IsFilledFor}
use Rattle.store_model.specs.StateLaws.{StateLaws}
use Rattle.run_moves.specs.FillTurns as fills
use Rattle.run_moves.specs.FillTurns.{FailedFill, FillEnd, FillTurn}
use Rattle.page_disk.specs.declared.disk.PageDisk.{Ghosts}
use Rattle.volume_model.specs.declared.reply.Msg.{Msg}
use Rattle.store_model.specs.Cases as kind
use Rattle.store_model.specs.Rows.{Ended, fill_row, Posted, Row}
use Rattle.store_model.specs.StoreState.{shown, StoreState}
use Rattle.store_core.specs.StoreInvariant.{opening_script, StoreInvariant}
use Rattle.running_store.specs.StoreView.{rows_of, state_of, WithOpening}
use Rattle.run_work.specs.Following.{ActorInRun, ChannelActs, MetadataActs}
use Rattle.run_moves.specs.DrivenStore.{DrivenStore}
use Rattle.run_moves.specs.DriverLaws.{DriverLaws, DriverLawsOf, IsOfChannels}
use Rattle.run_moves.specs.DriverSteps as turns
use Rattle.run_moves.specs.DriverSteps.{ChannelActsOn, ChannelTurn, DriverStep, MetadataActsOn, PostingTurn}
use Rattle.run_moves.specs.DriverSteps.{driven_at_turn, FillActsOn}
use Rattle.md_thread.proofs.TurnsRepaired.{job_kind, serving_kind, SomeTurn}
use Rattle.channels.specs.ChannelState.{ChannelState}
use Rattle.channels.specs.Driving.{AreChannelsOf, IsChannelOf}
use Rattle.turn_columns.proofs.RowSteps.{row_steps, RowStep, RowsStep, stays}

-- ---- each turn is one of a kind

module _ (told : Bool) (p q : StoreState) (channel : ℕ) where
  pub channel_kind : ChannelTurn told p q channel → SomeTurn told p q
  channel_kind (turns.reads t is) = (kind.reads, t)
  channel_kind (turns.refuses_write t is) = (kind.refuses_write, t)
  channel_kind (turns.writes_page t is) = (kind.writes_page, t)
  channel_kind (turns.fails_to_write t is) = (kind.fails_to_write, t)
  channel_kind (turns.finds_empty t is) = (kind.finds_empty, t)
  channel_kind (turns.finds_filled t is) = (kind.finds_filled, t)
  channel_kind (turns.claims t is) = (kind.claims, t)
  channel_kind (turns.refuses_claim t is) = (kind.refuses_claim, t)
  channel_kind (turns.copies t is) = (kind.copies, t)
  channel_kind (turns.loses_copy t is) = (kind.loses_copy, t)
  channel_kind (turns.copy_not_read t is) = (kind.copy_not_read, t)
  channel_kind (turns.copy_fails t is) = (kind.copy_fails, t)
  channel_kind (turns.flushes t is) = (kind.flushes, t)
  channel_kind (turns.flush_fails t is) = (kind.flush_fails, t)
  channel_kind (turns.settles t is) = (kind.settles, t)
  channel_kind (turns.ends t is) = (kind.ends, t)
  channel_kind (turns.halts t is itself) = (kind.halts, t)

  pub posting_kind : PostingTurn told p q channel → SomeTurn told p q
  posting_kind (turns.posts t is) = (kind.posts, t)
  posting_kind (turns.sends t is) = (kind.sends, t)

module _ (told : Bool) (p q : StoreState) (channel : ℕ) where
  fill_kind : FillTurn told p q channel → SomeTurn told p q
  fill_kind (fills.claims_fill t is) = (kind.claims_fill, t)
  fill_kind (fills.copies t is) = (kind.copies, t)
  fill_kind (fills.loses_copy t is) = (kind.loses_copy, t)
  fill_kind (fills.sends t is) = (kind.sends, t)
  fill_kind (fills.begins_insert t is) = (kind.begins_insert, t)
  fill_kind (fills.loses_insert t is) = (kind.loses_insert, t)
  fill_kind (fills.settles t is) = (kind.settles, t)

  end_kind : FillEnd told p q channel → SomeTurn told p q
  end_kind (fills.begins t is unused) = (kind.begins, t)
  end_kind (fills.answers t is unused) = (kind.answers, t)
  end_kind (fills.refuses t is unused) = (kind.refuses, t)
  end_kind (fills.halts serial t at is unused) = (kind.halts, t)
  end_kind (fills.lacks_for_fill t is) = (kind.lacks_for_fill, t)
  end_kind (fills.halts_fill t is) = (kind.halts_fill, t)
  end_kind (fills.copy_not_read t is) = (kind.copy_not_read, t)
  end_kind (fills.copy_fails t is) = (kind.copy_fails, t)
  end_kind (fills.lacks_for_insert t is) = (kind.lacks_for_insert, t)
  end_kind (fills.lacks_memory_for_insert t is) = (kind.lacks_memory_for_insert, t)

failed_kind : (told : Bool) (p q : StoreState) → FailedFill p q → SomeTurn told p q
failed_kind told p q (fills.insert_fails t is) = (kind.insert_fails, t)
failed_kind told p q (fills.insert_breaks_down t is) = (kind.insert_breaks_down, t)

-- ---- rows over a step

some_step : (told : Bool) (p q : StoreState) → FillStands p → SomeTurn told p q → RowsStep p q
some_step told p q stands x = row_steps told p q stands x.0 x.1

same_step : (p q : StoreState) → q ≡ p → RowsStep p q
same_step p q is k = subst (λ (s : StoreState). RowStep (p.rows k) (s.rows k)) (sym is) (stays (p.rows k))

module _ (told : Bool) (w v : DrivenStore) where
  abbrev TurnOrNone : Type 0
  TurnOrNone = SomeTurn told w.store v.store ⊎ (v.store ≡ w.store)

  by_channel : (channel : ℕ) → ChannelActsOn told w channel v → TurnOrNone
  by_channel channel (turns.by_turn turn is) = inl (channel_kind told w.store v.store channel turn)
  by_channel channel (turns.by_posting turn is) = inl (posting_kind told w.store v.store channel turn)
  by_channel channel (turns.by_sending serial waits room is) = inr (ap (λ (x : DrivenStore). x.store) is)

  by_fill : (u : DrivenStore) (message : Msg) → u.store ≡ w.store → FillActsOn told u message v → TurnOrNone
  by_fill u message same (turns.fill_goes_on turn is) = inl (subst (λ (p : StoreState). SomeTurn told p v.store) same
      (fill_kind told u.store v.store message.channel turn))
  by_fill u message same (turns.fill_ends turn is) = inl (subst (λ (p : StoreState). SomeTurn told p v.store) same
      (end_kind told u.store v.store message.channel turn))

  by_metadata : MetadataActsOn told (driven_at_turn w) v → TurnOrNone
  by_metadata (turns.by_job due turn is) = inl (job_kind told w.store v.store turn)
  by_metadata (turns.by_failed_fill due turn is) = inl (failed_kind told w.store v.store turn)
  by_metadata (turns.by_closing due turn is) = inl (kind.ends_fill, turn)
  by_metadata (turns.by_fill message due fill acts) = by_fill (driven_at_turn w) message refl acts
  by_metadata (turns.by_taking_up message held waiting due none takes acts) =
      by_fill (turns.taken_up (driven_at_turn w) held waiting message) message refl acts
  by_metadata (turns.by_message message held waiting due takes turn is) =
      inl (serving_kind told w.store v.store message.channel turn)
  by_metadata (turns.by_taking front rest due queue is) = inr (ap (λ (x : DrivenStore). x.store) is)

  -- a step makes a turn, or the store is as it was
  pub turn_or_none : (actor : ActorInRun) → DriverStep told actor w v → TurnOrNone
  turn_or_none (ChannelActs channel) (inl acts) = by_channel channel acts.1
  turn_or_none MetadataActs (inl acts) = by_metadata acts.1
  turn_or_none actor (inr none) = inr (ap (λ (x : DrivenStore). x.store) none.1)

  -- each row takes a step
  pub rows_step : FillStands w.store → (actor : ActorInRun) → DriverStep told actor w v → RowsStep w.store v.store
  rows_step stands actor step = elim (turn_or_none actor step) [
    | inl turn ↦ some_step told w.store v.store stands turn
    | inr same ↦ same_step w.store v.store same
  ]

-- ---- what is kept

module _ (rows later : List Row) (steps : (k : ℕ) → RowStep (rows_of rows k) (rows_of later k)) where
  pub still_own : (k : ℕ) (c : ChannelState) → IsChannelOf rows k c → IsChannelOf later k c
  still_own k c own = record {
    number = own.number;
    ended = λ is.
        let ended = own.ended is in ap (λ (r : Row). r.stage) ((steps k).ended ended) ∙ ended;
  }

  pub still_channels : (channels : List ChannelState) → AreChannelsOf rows channels → AreChannelsOf later channels
  still_channels channels are =
      record { sixteen = are.sixteen; each = λ k c at. still_own k c (are.each k c at) }

-- ---- what a run gives

-- what is known of the fill's row
pub stands : {D : Type 0} (d : Ghosts D) (laws : StateLaws) (p : WithOpening D) → StoreInvariant d p
    → FillStands (state_of d p.at)
stands d laws p kept =
    laws.fill_stands d.tells (state_of d p.opening) (state_of d p.at) kept.run.0 kept.began kept.run.1

-- the laws of a driver, of this store
pub laws_on : {D : Type 0} (d : Ghosts D) (laws : DriverLaws) (p : WithOpening D)
    → DriverLawsOf p.opening.super (shown (state_of d p.opening)) (opening_script p.opening)
laws_on d laws p = laws p.opening.super (shown (state_of d p.opening)) (opening_script p.opening)

-- the rows of channels alone have commands
pub of_channels : {D : Type 0} (d : Ghosts D) (p : WithOpening D) → StoreInvariant d p → length p.opening.rows ≡ 17
    → IsOfChannels (opening_script p.opening)
of_channels d p kept seventeen k high = elim (cases_eq k fill_row) [
  | inl e ↦ ap (λ n. (rows_of p.opening.rows n).left) e ∙ ap (λ (r : Row). r.left) kept.began.fill
  | inr ne ↦ ap (λ (r : Row). r.left) (get_or-eq_default p.opening.rows
      (record { left = []; stage = Ended; claim = None }) (omega (arith, high, ne, seventeen)))
]

-- a row that is posted still is as it was
pub filled_still : {D : Type 0} (d : Ghosts D) (p q : WithOpening D) → RowsStep (state_of d p.at) (state_of d q.at)
    → (channel serial : ℕ) → (rows_of q.at.rows channel).stage ≡ Posted serial → IsFilledFor (rows_of p.at.rows channel)
    → IsFilledFor (rows_of q.at.rows channel)
filled_still d p q steps channel serial now was = subst IsFilledFor (sym ((steps channel).posted was.serial serial
    (ap (λ (r : Row). r.stage) was.is) now)) was
