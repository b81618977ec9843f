-- What a turn of the running job makes of the command that the fill's row works for: it goes on, or the row's insert
-- failed and the command is logged.
use Rattle.std.proofs.Common.{◌≡◌, ◌≢◌, ◌⊎◌, ℕ, Option, Some, None, refl, sym, ap, ◌∙◌, subst, inl, inr}
use Rattle.std.proofs.Common.{Bool, true, false, List, Result, Ok, Err}
use Rattle.std.specs.Prelude.{IfErr, IfOk}
use Rattle.std.specs.Result.{is_err}
use Rattle.std.proofs.lemmas.Bool.{cases_eq}
use Rattle.page_disk.specs.declared.disk.PageDisk.{Ghosts}
use Rattle.volume_model.specs.declared.reply.Msg.{Msg}
use Rattle.volume_model.specs.declared.reply.Reply.{Reply}
use Rattle.store_model.specs.Cases as kind
use Rattle.store_model.specs.Cases.{Kind}
use Rattle.store_model.specs.Claiming.{given_back, logs_filled, logs_own, LogsWork}
use Rattle.store_model.specs.Device.{Device}
use Rattle.store_model.specs.Filling.{FillStands, IsFilledFor}
use Rattle.store_model.specs.Rows.{Answered, Decided, fill_row, Posted, Row, Rows}
use Rattle.store_model.specs.StoreState.{StoreState}
use Rattle.store_model.specs.Turning.{stopped_now}
use Rattle.store_model.proofs.FillKept.{with_command}
use Rattle.store_model.proofs.RowsKept.{row_here}
use Rattle.run_work.specs.RunFacts.{is_filled_for, is_held}
use Rattle.run_moves.specs.DriverSteps as turn
use Rattle.run_moves.specs.DriverSteps.{JobTurn}
use Rattle.run_moves.specs.FillTurns as fill
use Rattle.run_moves.specs.FillTurns.{FailedFill, held_beside, worked_for}
use Rattle.metadata_turns.specs.JobTurns.{IsOfJob, TurnsJob}
use Rattle.running_store.specs.Requests.{AsksNow, IsStale}
use Rattle.running_store.specs.declared.requests.Request.{Request}
use Rattle.running_store.specs.declared.requests.Stale.{Stale}
use Rattle.running_store.specs.TurnMade.{TurnMade}
use Rattle.running_store.specs.StoreView.{rows_of, state_of, StoreView}
use Rattle.md_thread.specs.Holding.{IsHeldOn, IsKept, KeepsMessage, let_go, MetadataState, still_held}
use Rattle.md_thread.specs.Turns as made
use Rattle.md_thread.specs.Turns.{JobMade}
use Rattle.md_thread.proofs.RowsLeft.{job_leaves}

-- it works for none where neither a fill goes on nor a message is held
pub none_of_both : (fill held : Option Msg) → worked_for fill held ≡ None → (fill ≡ None) × (held ≡ None)
none_of_both None held none = (refl, none)
none_of_both (Some msg) held none = absurd (cc none)

-- What is held behind the turn: as before, or none, where the command was logged.
pub held_on : (rows : List Row) (own : MetadataState) (msg : Msg) → worked_for own.fill own.held ≡ Some msg
    → (rows_of rows msg.channel).stage ≢ Posted msg.serial
    → IsHeldOn rows own (held_beside own.fill own.held)
held_on rows own msg worked stale = go own.fill refl
  where
    go : (o : Option Msg) → own.fill ≡ o → IsHeldOn rows own (held_beside own.fill own.held)
    go None none = let_go msg none (sym (ap (λ o. worked_for o own.held) none) ∙ worked) stale
        (ap (λ o. held_beside o own.held) none)
    go (Some x) fills = still_held (ap (λ o. held_beside o own.held) fills)

module _ {D : Type 0} (d : Ghosts D) (p q : StoreView D) (stands : FillStands (state_of d p)) (own : MetadataState)
    (kept : IsKept d p own) where
  abbrev s : StoreState
  s = state_of d p

  abbrev t : StoreState
  t = state_of d q

  turn_of : TurnsJob d p q → JobTurn d.tells s t ⊎ FailedFill s t
  turn_of x = by x.kind x.of_job x.made
    where
      by : (k : Kind) → IsOfJob k → TurnMade d p q k → JobTurn d.tells s t ⊎ FailedFill s t
      by kind.marks_dirty is m = inl (turn.marks_dirty m.0)
      by kind.zeroes is m = inl (turn.zeroes m.0)
      by kind.writes is m = inl (turn.writes m.0)
      by kind.commits is m = inl (turn.commits m.0)
      by kind.erases is m = inl (turn.erases m.0)
      by kind.frees is m = inl (turn.frees m.0)
      by kind.fails is m = inl (turn.fails m.0)
      by kind.breaks_off is m = inl (turn.breaks_off m.0)
      by kind.breaks_down is m = inl (turn.breaks_down m.0)
      by kind.replaces_more is m = inl (turn.replaces_more m.0)
      by kind.more_fails is m = inl (turn.more_fails m.0)
      by kind.more_breaks_off is m = inl (turn.more_breaks_off m.0)
      by kind.inserts is m = inl (turn.inserts m.0)
      by kind.insert_ends is m = inl (turn.insert_ends m.0)
      by kind.insert_fails is m = elim (cases_eq m.0.inserting.row fill_row) [
        | inl e ↦ inr (fill.insert_fails m.0 e)
        | inr ne ↦ inl (turn.insert_fails m.0 ne)
      ]
      by kind.insert_breaks_down is m = elim (cases_eq m.0.inserting.row fill_row) [
        | inl e ↦ inr (fill.insert_breaks_down m.0 e)
        | inr ne ↦ inl (turn.insert_breaks_down m.0 ne)
      ]
      by _ is m = absurd is

  module _ (msg : Msg) (worked : worked_for own.fill own.held ≡ Some msg) where
    -- that command's message is kept
    keeps : KeepsMessage own msg
    keeps = go own.fill refl
      where
        go : (o : Option Msg) → own.fill ≡ o → KeepsMessage own msg
        go None none = is_held (sym (ap (λ o. worked_for o own.held) none) ∙ worked)
        go (Some x) fills = is_filled_for (fills ∙ (sym (ap (λ o. worked_for o own.held) fills) ∙ worked))

    posted : (rows_of p.rows msg.channel).stage ≡ Posted msg.serial
    posted = (kept.current msg keeps).1

    -- its row is as it was
    stays : JobTurn d.tells s t → rows_of q.rows msg.channel ≡ rows_of p.rows msg.channel
    stays j = job_leaves s t msg.channel msg.serial posted d.tells j

    -- its channel is to be told, where the insert of the fill's row failed
    told : (mid : StoreState) → mid.filling ≡ p.filling → mid.rows ≡ s.rows → (row : ℕ) → row ≡ fill_row
        → (reply : Reply) (device : Device) → LogsWork mid row (Decided Answered) reply device t
        → (rows_of q.rows msg.channel).stage ≡ Decided Answered
    told mid filling rows row is reply device (logs_own x) =
        absurd (with_command s stands row _ x.rest (ap (λ (r : Rows). (r row).left) (sym rows) ∙ x.left) (sym is))
    told mid filling rows row is reply device (logs_filled x) =
        let held = kept.works x.posted.channel (sym filling ∙ x.works) in
        let both : Some msg ≡ Some held.0 = sym worked ∙ held.1 in
        let same : msg ≡ held.0 = cc both in
        let here : msg.channel ≡ x.posted.channel = ap (λ (m : Msg). m.channel) same ∙ held.2 in
        ap (λ (v : StoreState). (v.rows msg.channel).stage) x.next
        ∙ ap (λ (r : Row). r.stage) (row_here (given_back mid row (Decided Answered)).rows x.posted.channel
        (record { left = x.posted.rest; stage = Decided Answered; claim = None }) msg.channel here)

    failed_told : FailedFill s t → (rows_of q.rows msg.channel).stage ≢ Posted msg.serial
    failed_told f at = let bad = sym (decided f) ∙ at in cc bad
      where
        decided : FailedFill s t → (rows_of q.rows msg.channel).stage ≡ Decided Answered
        decided (fill.insert_fails x is) =
            told (record (stopped_now s) { job = None }) refl refl x.inserting.row is _ x.device x.logs
        decided (fill.insert_breaks_down x is) =
            told (record s { job = None }) refl refl x.inserting.row is _ s.device x.logs

    -- the message is out of date, or still current
    pub made_stale : (rows_of q.rows msg.channel).stage ≢ Posted msg.serial → TurnsJob d p q
        → JobMade d.tells s t own (record own { held = held_beside own.fill own.held; fill = None })
    made_stale stale turned = elim (turn_of turned) [
      | inl j ↦ absurd (stale (ap (λ (r : Row). r.stage) (stays j) ∙ posted))
      | inr f ↦ made.failed f refl
    ]

    pub made_current : (rows_of q.rows msg.channel).stage ≡ Posted msg.serial → TurnsJob d p q
        → JobMade d.tells s t own own
    made_current at turned = elim (turn_of turned) [
      | inl j ↦ made.goes_on j refl
      | inr f ↦ absurd (failed_told f at)
    ]

    pub asked_current : own.fill ≡ Some msg → (rows_of q.rows msg.channel).stage ≡ Posted msg.serial → TurnsJob d p q
        → IsFilledFor (rows_of q.rows msg.channel)
    asked_current fills at turned = elim (turn_of turned) [
      | inl j ↦ subst IsFilledFor (sym (stays j)) (kept.asked msg fills)
      | inr f ↦ absurd (failed_told f at)
    ]

  -- without such a command
  pub made_without : worked_for own.fill own.held ≡ None → TurnsJob d p q → JobMade d.tells s t own own
  made_without none turned = elim (turn_of turned) [
    | inl j ↦ made.goes_on j refl
    | inr f ↦
        let both = none_of_both own.fill own.held none in
        let beside : own.held ≡ held_beside own.fill own.held =
        both.1 ∙ sym (ap (λ o. held_beside o own.held) both.0) in
        made.failed f (λ i. record own { held = beside i; fill = both.0 i })
  ]

-- what a request tells of a message's row
pub stale_now : (rows : List Row) (msg : Msg) (x : Result Request Stale) → IfErr x (IsStale rows msg) → {b : Bool}
    → b ≡ is_err x → b ≡ true → (rows_of rows msg.channel).stage ≢ Posted msg.serial
stale_now rows msg (Ok request) stale same err = absurd (let bad = sym err ∙ same in cc bad)
stale_now rows msg (Err found) stale same err = stale.not_posted

pub posted_now : (rows : List Row) (msg : Msg) (x : Result Request Stale) → IfOk x (AsksNow rows msg) → {b : Bool}
    → b ≡ is_err x → b ≡ false → (rows_of rows msg.channel).stage ≡ Posted msg.serial
posted_now rows msg (Ok request) found same ok = found.posted
posted_now rows msg (Err none) found same ok = absurd (let bad = sym ok ∙ same in cc bad)
