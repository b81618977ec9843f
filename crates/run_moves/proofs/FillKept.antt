-- Each turn leaves the fill's row working for the command that it worked for, or for none, but for a fill's claim.
use Rattle.std.proofs.Common.{◌≡◌, ℕ, Bool, true, false, [], Option, Some, None, refl, sym, ap, ◌∙◌, subst, inl, inr}
use Rattle.std.specs.Prelude.{◌==◌, if◌then◌else◌}
use Rattle.volume_model.specs.declared.reply.Msg.{Msg}
use Rattle.volume_model.specs.declared.reply.Reply.{Reply}
use Rattle.store_model.specs.Cases.BreakDown.{BreaksDown}
use Rattle.store_model.specs.Claiming.{logs_filled, logs_own, LogsWork}
use Rattle.store_model.specs.Device.{Device}
use Rattle.store_model.specs.Filling.{filling_behind, FillStands, StandsAt, unused_row}
use Rattle.store_model.specs.Rows.{Claiming, Copying, Decided, Ended, fill_row, Idle, InJob, Posted, Ready, Row, Stage}
use Rattle.store_model.specs.StoreState.{StoreState}
use Rattle.store_model.specs.Turning.{stopped_now}
use Rattle.run_work.specs.Reading.{is_in_use}
use Rattle.run_moves.specs.DriverSteps.{ChannelTurn, JobTurn, PostingTurn, ServingTurn}
use Rattle.run_moves.specs.DriverSteps as turn
use Rattle.run_moves.specs.FillTurns as fills
use Rattle.run_moves.specs.FillTurns.{FailedFill, FillEnd, FillTurn, HoldsFill, worked_for}
use Rattle.run_moves.specs.Projection.{RunMessages, stage_in_run}
use Rattle.run_moves.proofs.WorkLogged.{of_fill}

-- for whom the fill's row works, behind a turn
filling_then : {p q : StoreState} → p ≡ q → p.filling ≡ q.filling
filling_then is = ap (λ (v : StoreState). v.filling) is

-- for the same or none
abbrev pub WorksOn : StoreState → StoreState → Type 0
WorksOn p q = (channel : ℕ) → q.filling ≡ Some channel → p.filling ≡ Some channel

module _ (p q : StoreState) where
  still : q.filling ≡ p.filling → WorksOn p q
  still same channel is = sym same ∙ is

  for_none : q.filling ≡ None → WorksOn p q
  for_none none channel is = let bad = sym none ∙ is in absurd (cc bad)

  waits_then : (row : ℕ) → q.filling ≡ filling_behind p row → WorksOn p q
  waits_then row same channel is = by (row == fill_row) (sym same ∙ is)
    where
      by : (b : Bool) → (if b then None else p.filling) ≡ Some channel → p.filling ≡ Some channel
      by true bad = absurd (cc bad)
      by false was = was

  logs_then : (row : ℕ) (stage : Stage) (reply : Reply) (device : Device) → LogsWork p row stage reply device q
      → WorksOn p q
  logs_then row stage reply device (logs_own t) = still (filling_then t.next)
  logs_then row stage reply device (logs_filled t) = for_none (filling_then t.next)

-- ---- whichever turn it is

module _ (told : Bool) (p q : StoreState) where
  pub channel_works : (channel : ℕ) → ChannelTurn told p q channel → WorksOn p q
  channel_works channel (turn.reads t is) = still p q (filling_then t.next)
  channel_works channel (turn.refuses_write t is) = still p q (filling_then t.next)
  channel_works channel (turn.writes_page t is) = still p q (filling_then t.next)
  channel_works channel (turn.fails_to_write t is) = still p q (filling_then t.next)
  channel_works channel (turn.finds_empty t is) = still p q (filling_then t.next)
  channel_works channel (turn.finds_filled t is) = still p q (filling_then t.next)
  channel_works channel (turn.claims t is) = still p q (filling_then t.next)
  channel_works channel (turn.refuses_claim t is) = still p q (filling_then t.next)
  channel_works channel (turn.copies t is) = still p q (filling_then t.next)
  channel_works channel (turn.loses_copy t is) = waits_then p q t.copying.row (filling_then t.next)
  channel_works channel (turn.copy_not_read t is) = logs_then p q t.copying.row _ _ t.device t.logs
  channel_works channel (turn.copy_fails t is) = logs_then (stopped_now p) q t.copying.row _ _ t.device t.logs
  channel_works channel (turn.flushes t is) = still p q (filling_then t.next)
  channel_works channel (turn.flush_fails t is) = still p q (filling_then t.next)
  channel_works channel (turn.settles t is) = waits_then p q t.channel (filling_then t.next)
  channel_works channel (turn.ends t is) = still p q (filling_then t.next)
  channel_works channel (turn.halts t is logs) = still p q (filling_then t.next)

  pub posting_works : (channel : ℕ) → PostingTurn told p q channel → WorksOn p q
  posting_works channel (turn.posts t is) = still p q (filling_then t.next)
  posting_works channel (turn.sends t is) = still p q (filling_then t.next)

  pub serving_works : (channel : ℕ) → ServingTurn told p q channel → WorksOn p q
  serving_works channel (turn.answers t is) = still p q (filling_then t.next)
  serving_works channel (turn.refuses t is) = still p q (filling_then t.next)
  serving_works channel (turn.begins t is) = still p q (filling_then t.next)
  serving_works channel (turn.loses_insert t is) = still p q (filling_then t.next)
  serving_works channel (turn.begins_insert t is) = still p q (filling_then t.next)
  serving_works channel (turn.lacks_for_insert t is) = logs_then p q t.posted.row _ _ p.device t.logs
  serving_works channel (turn.lacks_memory_for_insert t is) = logs_then p q t.posted.row _ _ p.device t.logs
  serving_works channel (turn.halts serial t at is) = still p q (filling_then t.next)

  breaks_down_works : BreaksDown p q → WorksOn p q
  breaks_down_works t = elim t.ends [
    | inl x ↦ still p q (filling_then x.next)
    | inr x ↦ still p q (filling_then x.next)
  ]

  pub job_works : JobTurn told p q → WorksOn p q
  job_works (turn.marks_dirty t) = still p q (filling_then t.next)
  job_works (turn.zeroes t) = still p q (filling_then t.next)
  job_works (turn.writes t) = still p q (filling_then t.next)
  job_works (turn.commits t) = still p q (filling_then t.next)
  job_works (turn.erases t) = still p q (filling_then t.next)
  job_works (turn.frees t) = still p q (filling_then t.next)
  job_works (turn.fails t) = still p q (filling_then t.next)
  job_works (turn.breaks_off t) = still p q (filling_then t.next)
  job_works (turn.breaks_down t) = breaks_down_works t
  job_works (turn.replaces_more t) = still p q (filling_then t.next)
  job_works (turn.more_fails t) = still p q (filling_then t.next)
  job_works (turn.more_breaks_off t) = still p q (filling_then t.next)
  job_works (turn.inserts t) = still p q (filling_then t.next)
  job_works (turn.insert_ends t) = still p q (filling_then t.next)
  job_works (turn.insert_fails t apart) =
      logs_then (record (stopped_now p) { job = None }) q t.inserting.row _ _ t.device t.logs
  job_works (turn.insert_breaks_down t apart) =
      logs_then (record p { job = None }) q t.inserting.row _ _ p.device t.logs

-- ---- the fill

-- a row in a job works for a command
in_job : (filling : Option ℕ) (stage : Stage) → StandsAt filling stage → stage ≡ InJob → (ch : ℕ) × (filling ≡ Some ch)
in_job None stage at is = absurd (subst (StandsAt None) is at)
in_job (Some ch) stage at is = (ch, refl)

-- where the job of the fill's insert fails, its row works for a command
pub failed_for : (p q : StoreState) → FillStands p → FailedFill p q → (ch : ℕ) × (p.filling ≡ Some ch)
failed_for p q stands (fills.insert_fails t is) = in_job p.filling (p.rows fill_row).stage stands.stage
    (ap (λ k. (p.rows k).stage) (sym is) ∙ t.inserting.waits)
failed_for p q stands (fills.insert_breaks_down t is) = in_job p.filling (p.rows fill_row).stage stands.stage
    (ap (λ k. (p.rows k).stage) (sym is) ∙ t.inserting.waits)

module _ (p q : StoreState) (stands : FillStands p) where
  -- it works for none where it isn't used
  unused_none : p.rows fill_row ≡ unused_row → q.filling ≡ p.filling → q.filling ≡ None
  unused_none unused same = by p.filling same stands.stage
    where
      by : (o : Option ℕ) → q.filling ≡ o → StandsAt o (p.rows fill_row).stage → q.filling ≡ None
      by None is at = is
      by (Some ch) is at = absurd (subst (StandsAt (Some ch)) (ap (λ (r : Row). r.stage) unused) at)

  none_left : (row : ℕ) → row ≡ fill_row → (p.rows row).left ≡ []
  none_left row is = ap (λ k. (p.rows k).left) is ∙ stands.left

  -- nor where the fill has ended
  pub ended_none : (told : Bool) (channel : ℕ) → FillEnd told p q channel → q.filling ≡ None
  ended_none told channel (fills.begins t is unused) = unused_none unused (filling_then t.next)
  ended_none told channel (fills.answers t is unused) = unused_none unused (filling_then t.next)
  ended_none told channel (fills.refuses t is unused) = unused_none unused (filling_then t.next)
  ended_none told channel (fills.halts serial t at is unused) = unused_none unused (filling_then t.next)
  ended_none told channel (fills.lacks_for_fill t is) = unused_none t.fill.unused (filling_then t.next)
  ended_none told channel (fills.halts_fill t is) = filling_then t.next
  ended_none told channel (fills.copy_not_read t is) =
      filling_then (of_fill p q t.copying.row _ _ t.device t.logs (none_left t.copying.row is)).next
  ended_none told channel (fills.copy_fails t is) =
      filling_then (of_fill (stopped_now p) q t.copying.row _ _ t.device t.logs (none_left t.copying.row is)).next
  ended_none told channel (fills.lacks_for_insert t is) =
      filling_then (of_fill p q t.posted.row _ _ p.device t.logs (none_left t.posted.row is)).next
  ended_none told channel (fills.lacks_memory_for_insert t is) =
      filling_then (of_fill p q t.posted.row _ _ p.device t.logs (none_left t.posted.row is)).next

  pub failed_none : FailedFill p q → q.filling ≡ None
  failed_none (fills.insert_fails t is) = filling_then (of_fill (record (stopped_now p) { job = None }) q
      t.inserting.row _ _ t.device t.logs (none_left t.inserting.row is)).next
  failed_none (fills.insert_breaks_down t is) = filling_then (of_fill (record p { job = None }) q
      t.inserting.row _ _ p.device t.logs (none_left t.inserting.row is)).next

  -- a row that isn't in use works for none
  pub unused_works : is_in_use (stage_in_run (p.rows fill_row).stage) ≡ false → p.filling ≡ None
  unused_works unused = by p.filling (p.rows fill_row).stage stands.stage unused
    where
      by : (o : Option ℕ) (stage : Stage) → StandsAt o stage → is_in_use (stage_in_run stage) ≡ false → o ≡ None
      by None stage at unused = refl
      by (Some ch) Idle at unused = absurd at
      by (Some ch) Claiming at unused = absurd at
      by (Some ch) (Copying left) at unused = absurd (cc unused)
      by (Some ch) Ready at unused = absurd (cc unused)
      by (Some ch) (Posted serial) at unused = absurd (cc unused)
      by (Some ch) InJob at unused = absurd (cc unused)
      by (Some ch) (Decided outcome) at unused = absurd (cc unused)
      by (Some ch) Ended at unused = absurd at

  -- while it goes on the driver holds it
  pub going_holds : (told : Bool) (d : RunMessages) (message : Msg) → d.fill ≡ Some message → HoldsFill p d
      → FillTurn told p q message.channel → HoldsFill q d
  going_holds told d message fill holds (fills.claims_fill t is) channel works =
      let both : Some t.fill.posted.channel ≡ Some channel = sym (filling_then t.next) ∙ works in
      let same : t.fill.posted.channel ≡ channel = cc both in
      (message, ap (λ o. worked_for o d.held) fill, sym is ∙ same)
  going_holds told d message fill holds (fills.copies t is) channel works =
      holds channel (sym (filling_then t.next) ∙ works)
  going_holds told d message fill holds (fills.loses_copy t is) channel works =
      holds channel (waits_then p q t.copying.row (filling_then t.next) channel works)
  going_holds told d message fill holds (fills.sends t is) channel works =
      holds channel (sym (filling_then t.next) ∙ works)
  going_holds told d message fill holds (fills.begins_insert t is) channel works =
      holds channel (sym (filling_then t.next) ∙ works)
  going_holds told d message fill holds (fills.loses_insert t is) channel works =
      holds channel (sym (filling_then t.next) ∙ works)
  going_holds told d message fill holds (fills.settles t is) channel works =
      holds channel (waits_then p q t.channel (filling_then t.next) channel works)

-- it works for none, whatever the driver holds
pub none_holds : (q : StoreState) (e : RunMessages) → q.filling ≡ None → HoldsFill q e
none_holds q e none channel works = let bad = sym none ∙ works in absurd (cc bad)

-- and the driver has its command as before
pub holds_on : (p q : StoreState) (d e : RunMessages) → WorksOn p q
    → worked_for e.fill e.held ≡ worked_for d.fill d.held → HoldsFill p d → HoldsFill q e
holds_on p q d e works same holds channel is = let x = holds channel (works channel is) in (x.0, same ∙ x.1, x.2)
