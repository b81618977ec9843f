-- Which rows the turns of the metadata thread leave as they were.
use Rattle.std.proofs.Common.{◌≡◌, ◌≢◌, ℕ, ◌<◌, Bool, None, refl, sym, ap, ◌∙◌, inl, inr, arith}
use Rattle.volume_model.specs.declared.reply.Reply.{Reply}
use Rattle.store_model.specs.Cases.BreakDown.{BreaksDown}
use Rattle.store_model.specs.Claiming.{logs_filled, logs_own, LogsWork}
use Rattle.store_model.specs.Device.{Device}
use Rattle.store_model.specs.Rows.{fill_row, InJob, Posted, Row, Rows, Stage, with_row}
use Rattle.store_model.specs.StoreState.{JobState, StoreState}
use Rattle.store_model.specs.Turning.{IsServedNow, stopped_now}
use Rattle.store_model.proofs.RowsKept.{row_other}
use Rattle.run_moves.specs.DriverSteps as turn
use Rattle.run_moves.specs.DriverSteps.{JobTurn, ServingTurn}
use Rattle.run_moves.specs.FillTurns as fill
use Rattle.run_moves.specs.FillTurns.{FillTurn}

module _ (p q : StoreState) where
  -- no row changes
  none : (next : StoreState) → q ≡ next → next.rows ≡ p.rows → (n : ℕ) → q.rows n ≡ p.rows n
  none next is rows n = ap (λ (s : StoreState). s.rows n) is ∙ ap (λ (r : Rows). r n) rows

  -- one does
  one : (next : StoreState) → q ≡ next → (channel : ℕ) (row : Row) → next.rows ≡ with_row p.rows channel row → (n : ℕ)
      → n ≢ channel → q.rows n ≡ p.rows n
  one next is channel row rows n apart =
      ap (λ (s : StoreState). s.rows n) is ∙ ap (λ (r : Rows). r n) rows ∙ row_other p.rows channel row n apart

  -- a row that isn't the fill's gives up
  logs : (mid : StoreState) → mid.rows ≡ p.rows → (row : ℕ) (stage : Stage) (reply : Reply) (device : Device)
      → row ≢ fill_row → LogsWork mid row stage reply device q → (n : ℕ) → n ≢ row → q.rows n ≡ p.rows n
  logs mid rows row stage reply device other (logs_own t) n apart =
      ap (λ (s : StoreState). s.rows n) t.next
      ∙ row_other (with_row mid.rows row (record { left = (mid.rows row).left; stage = stage; claim = None })) row
      (record { left = t.rest; stage = stage; claim = None }) n apart
      ∙ row_other mid.rows row (record { left = (mid.rows row).left; stage = stage; claim = None }) n apart
      ∙ ap (λ (r : Rows). r n) rows
  logs mid rows row stage reply device other (logs_filled t) n apart = absurd (other t.fills)

  module _ (n serial : ℕ) (posted : (p.rows n).stage ≡ Posted serial) where
    in_job : (channel : ℕ) → (p.rows channel).stage ≡ InJob → n ≢ channel
    in_job channel at e =
        let bad : Posted serial ≡ InJob = sym posted ∙ ap (λ k. (p.rows k).stage) e ∙ at in cc bad

    serves : {job : JobState} → (served : IsServedNow p job) → n ≢ served.channel
    serves served = in_job served.channel (ap (λ (r : Row). r.stage) served.row)

    breaks_down : BreaksDown p q → q.rows n ≡ p.rows n
    breaks_down t = elim t.ends [
      | inl x ↦ one _ x.next x.served.channel _ refl n (serves x.served)
      | inr x ↦ none _ x.next refl n
    ]

    -- a turn of a job leaves the rows that are posted
    pub job_leaves : (told : Bool) → JobTurn told p q → q.rows n ≡ p.rows n
    job_leaves told (turn.marks_dirty t) = none _ t.next refl n
    job_leaves told (turn.zeroes t) = none _ t.next refl n
    job_leaves told (turn.writes t) = none _ t.next refl n
    job_leaves told (turn.commits t) = one _ t.next t.served.channel _ refl n (serves t.served)
    job_leaves told (turn.erases t) = none _ t.next refl n
    job_leaves told (turn.frees t) = none _ t.next refl n
    job_leaves told (turn.fails t) = one _ t.next t.served.channel _ refl n (serves t.served)
    job_leaves told (turn.breaks_off t) = none _ t.next refl n
    job_leaves told (turn.breaks_down t) = breaks_down t
    job_leaves told (turn.replaces_more t) = none _ t.next refl n
    job_leaves told (turn.more_fails t) = one _ t.next t.served.channel _ refl n (serves t.served)
    job_leaves told (turn.more_breaks_off t) = none _ t.next refl n
    job_leaves told (turn.inserts t) =
        one _ t.next t.inserting.row _ refl n (in_job t.inserting.row t.inserting.waits)
    job_leaves told (turn.insert_ends t) =
        one _ t.next t.inserting.row _ refl n (in_job t.inserting.row t.inserting.waits)
    job_leaves told (turn.insert_fails t apart) =
        logs (record (stopped_now p) { job = None }) refl t.inserting.row _ _ t.device apart t.logs n
        (in_job t.inserting.row t.inserting.waits)
    job_leaves told (turn.insert_breaks_down t apart) =
        logs (record p { job = None }) refl t.inserting.row _ _ p.device apart t.logs n
        (in_job t.inserting.row t.inserting.waits)

  module _ (channel n : ℕ) (apart : n ≢ channel) where
    other_row : (row : ℕ) → row ≡ channel → n ≢ row
    other_row row is e = apart (e ∙ is)

    -- one that serves a message leaves all others than its channel's
    pub serving_leaves : (told : Bool) → channel < 16 → ServingTurn told p q channel → q.rows n ≡ p.rows n
    serving_leaves told low (turn.answers t is) = one _ t.next t.posted.channel _ refl n (other_row t.posted.channel is)
    serving_leaves told low (turn.refuses t is) = one _ t.next t.posted.channel _ refl n (other_row t.posted.channel is)
    serving_leaves told low (turn.begins t is) = one _ t.next t.posted.channel _ refl n (other_row t.posted.channel is)
    serving_leaves told low (turn.loses_insert t is) = one _ t.next t.posted.row _ refl n (other_row t.posted.row is)
    serving_leaves told low (turn.begins_insert t is) = one _ t.next t.posted.row _ refl n (other_row t.posted.row is)
    serving_leaves told low (turn.lacks_for_insert t is) =
        logs p refl t.posted.row _ _ p.device (λ e. omega (arith, low, e, is)) t.logs n (other_row t.posted.row is)
    serving_leaves told low (turn.lacks_memory_for_insert t is) =
        logs p refl t.posted.row _ _ p.device (λ e. omega (arith, low, e, is)) t.logs n (other_row t.posted.row is)
    serving_leaves told low (turn.halts serial t at is) = one _ t.next t.channel _ refl n (other_row t.channel is)

  -- one by which a fill goes on leaves all others than the fill's
  pub filling_leaves : (told : Bool) (channel n : ℕ) → n ≢ fill_row → FillTurn told p q channel → q.rows n ≡ p.rows n
  filling_leaves told channel n apart (fill.claims_fill t is) = one _ t.next fill_row _ refl n apart
  filling_leaves told channel n apart (fill.copies t is) = one _ t.next t.copying.row _ refl n (λ e. apart (e ∙ is))
  filling_leaves told channel n apart (fill.loses_copy t is) = one _ t.next t.copying.row _ refl n (λ e. apart (e ∙ is))
  filling_leaves told channel n apart (fill.sends t is) = one _ t.next t.copying.row _ refl n (λ e. apart (e ∙ is))
  filling_leaves told channel n apart (fill.begins_insert t is) =
      one _ t.next t.posted.row _ refl n (λ e. apart (e ∙ is))
  filling_leaves told channel n apart (fill.loses_insert t is) =
      one _ t.next t.posted.row _ refl n (λ e. apart (e ∙ is))
  filling_leaves told channel n apart (fill.settles t is) = one _ t.next t.channel _ refl n (λ e. apart (e ∙ is))
