-- Each move lowers the work.
use Rattle.std.proofs.Common.{◌≡◌, ◌≢◌, ◌⊎◌, inl, inr, ℕ, ◌<◌, ◌≤◌, if◌then◌else◌, Option, Some, None, Bool, true}
use Rattle.std.proofs.Common.{false, ◌&&◌, nat_lt, [], ◌∷◌, ◌++◌, refl, sym, ◌∙◌, ap, arith}
use Rattle.std.proofs.lemmas.Bool.Decides.{nat_tests}
use Rattle.volume_model.specs.declared.reply.Msg.{Msg}
use Rattle.run_work.specs.Steps.{at_once, at_turn, behind_fill, by_answer, by_begin_insert, by_begin_job, by_close}
use Rattle.run_work.specs.Steps.{by_commit, by_drop, by_fail, by_insert, by_log_fill, by_lose_insert, by_own_row}
use Rattle.run_work.specs.Steps.{by_page, by_replace, by_take, by_win, can_at, can_channel, can_move, can_send}
use Rattle.run_work.specs.Steps.{has_to_wait, is_free_at, MetadataMove, OneMove, queued_behind, StepOf}
use Rattle.run_work.specs.RunState.{AtClaiming, AtCopying, AtDecided, AtEnded, AtIdle, AtInJob, AtPosted}
use Rattle.run_work.specs.RunState.{MetadataCommand, RowInRun, RowsInRun, RunSizes, RunState, StageInRun}
use Rattle.run_work.specs.Reading.{is_in_use, logged_row, row_at, stage_after_insert, stage_of_copy, unclaimed_at}
use Rattle.run_work.specs.Reading.{with_row_in_run}
use Rattle.run_work.specs.Work.{work}
use Rattle.run_work.specs.ChannelMoves.{by_claim, by_copy, by_empty, by_end, by_filled, by_log, by_lose, by_post}
use Rattle.run_work.specs.ChannelMoves.{by_row, by_send, by_settle, ChannelMove, RowMove}
use Rattle.run_work.specs.ServingMoves.{BeginJobMove, for_filled, for_message, TakeUpMove}
use Rattle.run_work.specs.Following.{ActorInRun, ChannelActs, MetadataActs}
use Rattle.run_work.proofs.Sums.{row_there}
use Rattle.run_work.proofs.ChannelLowers.{channel_base, row_base}
use Rattle.run_work.proofs.ServingLowers as serving
use Rattle.run_work.proofs.JobLowers as job
use Rattle.run_work.proofs.OwnRow.{fill_own, own_most, row_own, same_own, unused_own, with_own}

module _ (z : RunSizes) where
  -- ---- channels

  -- a channel's move leaves the other rows and the fill
  abbrev RowStays : RunState → ℕ → RunState → Type 0
  RowStays w ch v =
      (row : RowInRun) × ((v.rows ≡ with_row_in_run w.rows ch row) ⊎ (v.rows ≡ w.rows)) × (v.fill ≡ w.fill)

  row_stays : (w v : RunState) (ch : ℕ) → RowMove z w ch v → RowStays w ch v
  row_stays w v ch (by_claim c) = (
    record (w.rows ch) {
      stage = AtCopying z.pages;
      claim = Some (record { head = c.head; slot = c.slot; generation = c.blob.generation });
    },
    inl (ap (λ x. x.rows) c.next),
    ap (λ x. x.fill) c.next,
  )
  row_stays w v ch (by_copy c) =
      (row_at (w.rows ch) (stage_of_copy c.left), inl (ap (λ x. x.rows) c.next), ap (λ x. x.fill) c.next)
  row_stays w v ch (by_lose c) =
      (unclaimed_at (w.rows ch) AtIdle, inl (ap (λ x. x.rows) c.next), ap (λ x. x.fill) c.next)
  row_stays w v ch (by_post c) =
      (row_at (w.rows ch) (AtPosted c.serial), inl (ap (λ x. x.rows) c.next), ap (λ x. x.fill) c.next)
  row_stays w v ch (by_settle c) =
      (unclaimed_at (w.rows ch) AtIdle, inl (ap (λ x. x.rows) c.next), ap (λ x. x.fill) c.next)

  stays : (w v : RunState) (ch : ℕ) → ChannelMove z w ch v → RowStays w ch v
  stays w v ch (by_row c) = row_stays w v ch c
  stays w v ch (by_empty c) =
      (row_at (w.rows ch) AtClaiming, inl (ap (λ x. x.rows) c.next), ap (λ x. x.fill) c.next)
  stays w v ch (by_filled c) = (row_at (w.rows ch) AtIdle, inl (ap (λ x. x.rows) c.next), ap (λ x. x.fill) c.next)
  stays w v ch (by_end c) = (logged_row [] AtEnded, inl (ap (λ x. x.rows) c.next), ap (λ x. x.fill) c.next)
  stays w v ch (by_log c) = (logged_row c.commands AtIdle, inl (ap (λ x. x.rows) c.next), ap (λ x. x.fill) c.next)
  stays w v ch (by_send c) = (w.rows ch, inr (ap (λ x. x.rows) c.next), ap (λ x. x.fill) c.next)

  apart : (ch : ℕ) → ch < 16 → ch ≢ 16
  apart ch low = λ is. absurd (let i = is in omega (arith, i, low))

  -- a move of a channel
  pub channel_lowers : (w v : RunState) (ch : ℕ) → 16 < z.rows → ch < 16 → ChannelMove z w ch v → work z v < work z w
  channel_lowers w v ch enough low c =
      let base = channel_base z w v ch (omega (arith, low, enough)) c in
      let s = stays w v ch c in
      with_own z w v base (elim s.1 [
        | inl rows ↦ row_own z w v ch s.0 rows s.2 (inl (apart ch low))
        | inr rows ↦ same_own z w v s.2 (ap (λ (r : RowsInRun). r 16) rows)
      ])

  -- ---- the metadata thread

  used_at : (s t : StageInRun) → s ≡ t → is_in_use t ≡ true → is_in_use s ≡ true
  used_at s t is so = ap is_in_use is ∙ so

  begins_job : (w v : RunState) (ch : ℕ) → 16 < z.rows → ch < 16 → BeginJobMove z w ch v → work z v < work z w
  begins_job w v ch enough low c =
      let stays_there : v.rows 16 ≡ w.rows 16 =
      ap (λ x. x.rows 16) c.next
      ∙ row_there w.rows ch (logged_row (MetadataCommand ∷ c.commands) AtInJob) 16 (λ is. apart ch low (sym is)) in
      with_own z w v (serving.begins_job z w v ch (omega (arith, low, enough)) c) (elim c.begins [
        | for_message same serves ↦ same_own z w v (ap (λ x. x.fill) c.next ∙ same) stays_there
        | for_filled m fills channel unused held waiting none ↦
            unused_own z w v (ap (λ (r : RowInRun). is_in_use r.stage) stays_there ∙ unused)
      ])

  one_lowers : (w v : RunState) → 16 < z.rows → OneMove z w v → work z v < work z w
  one_lowers w v enough (by_own_row m is c) =
      with_own z w v (row_base z w v 16 enough c) (fill_own z w v m ((row_stays w v 16 c).2 ∙ is))
  one_lowers w v enough (by_take c) =
      with_own z w v (serving.takes z w v c)
      (same_own z w v (ap (λ x. x.fill) c.next) (ap (λ x. x.rows 16) c.next))
  one_lowers w v enough (by_lose_insert ch low c) =
      with_own z w v (serving.loses_insert z w v ch low c)
      (row_own z w v ch (unclaimed_at (w.rows ch) AtDecided) (ap (λ x. x.rows) c.next) (ap (λ x. x.fill) c.next)
      (inr (used_at (w.rows ch).stage (AtPosted c.serial) c.stage refl)))
  one_lowers w v enough (by_begin_insert ch low c) =
      with_own z w v (serving.begins_insert z w v ch low c)
      (row_own z w v ch (row_at (w.rows ch) AtInJob) (ap (λ x. x.rows) c.next) (ap (λ x. x.fill) c.next)
      (inr (used_at (w.rows ch).stage (AtPosted c.serial) c.stage refl)))
  one_lowers w v enough (by_answer ch low c) =
      with_own z w v (serving.answers z w v ch (omega (arith, low, enough)) c)
      (row_own z w v ch (logged_row c.commands AtDecided) (ap (λ x. x.rows) c.next) (ap (λ x. x.fill) c.next)
      (inl (apart ch low)))
  one_lowers w v enough (by_begin_job ch low c) = begins_job w v ch enough low c
  one_lowers w v enough (by_log_fill ch low c) =
      let base = serving.logs_fill z w v ch (apart ch low) (omega (arith, low, enough)) enough c in
      let most = own_most z v in
      omega (arith, base, most)
  one_lowers w v enough (by_close c) = serving.closes z w v enough c
  one_lowers w v enough (by_page c) =
      with_own z w v (job.writes z w v c)
      (same_own z w v (ap (λ x. x.fill) c.next) (ap (λ x. x.rows 16) c.next))
  one_lowers w v enough (by_insert ch low c) =
      with_own z w v (job.inserts z w v ch low c)
      (row_own z w v ch (unclaimed_at (w.rows ch) (stage_after_insert c.rest)) (ap (λ x. x.rows) c.next)
      (ap (λ x. x.fill) c.next) (inr (used_at (w.rows ch).stage AtInJob c.stage refl)))
  one_lowers w v enough (by_win ch low c) =
      with_own z w v (job.wins z w v ch low c)
      (row_own z w v ch (unclaimed_at (w.rows ch) AtDecided) (ap (λ x. x.rows) c.next) (ap (λ x. x.fill) c.next)
      (inr (used_at (w.rows ch).stage AtInJob c.stage refl)))
  one_lowers w v enough (by_replace c) =
      with_own z w v (job.replaces z w v c)
      (same_own z w v (ap (λ x. x.fill) c.next) (ap (λ x. x.rows 16) c.next))
  one_lowers w v enough (by_commit ch low c) =
      with_own z w v (job.commits z w v ch (omega (arith, low, enough)) c)
      (row_own z w v ch (logged_row c.commands AtDecided) (ap (λ x. x.rows) c.next) (ap (λ x. x.fill) c.next)
      (inl (apart ch low)))
  one_lowers w v enough (by_fail ch low c) =
      with_own z w v (job.fails z w v ch (omega (arith, low, enough)) c)
      (row_own z w v ch (logged_row c.commands AtDecided) (ap (λ x. x.rows) c.next) (ap (λ x. x.fill) c.next)
      (inl (apart ch low)))
  one_lowers w v enough (by_drop c) =
      with_own z w v (job.drops z w v c)
      (same_own z w v (ap (λ x. x.fill) c.next) (ap (λ x. x.rows 16) c.next))

  taken_up : (w v : RunState) (m : Msg) → TakeUpMove z w m v → work z v < work z w
  taken_up w v m c =
      with_own z w v (serving.takes_up z w v m c) (fill_own z w v m (ap (λ x. x.fill) c.next))

  -- a move of the metadata thread
  pub metadata_lowers : (w v : RunState) → 16 < z.rows → MetadataMove z w v → work z v < work z w
  metadata_lowers w v enough (at_once c due) = one_lowers w v enough c
  metadata_lowers w v enough (behind_fill m mid up due c fill) =
      let first = taken_up w mid m up in
      let second = one_lowers mid v enough c in
      omega (arith, first, second)

  -- ---- steps

  -- a channel that can move is one
  pub channel_below : (w : RunState) (ch : ℕ) → can_channel w ch ≡ true → ch < 16
  channel_below w ch can = go (nat_lt ch 16) refl can
    where
      go : (t : Bool) → nat_lt ch 16 ≡ t → (t
          && can_at (is_free_at w ch) (can_send w ch)
          (w.rows ch).stage) ≡ true → ch < 16
      go true is can = grind (arith, nat_tests)
      go false is can = absurd (cc can)

  behind_lowers : (w : RunState) (o : Option Msg) → w.held ≡ o → work z (queued_behind w o) ≤ work z w
  behind_lowers w None is = omega arith
  behind_lowers w (Some m) is =
      let v : RunState = record w { held = None; waiting = w.waiting ++ m ∷ [] } in
      let less = with_own z w v (serving.joins z w m is) (same_own z w v refl refl) in
      omega (arith, less)

  -- that a command comes to wait
  pub turn_lowers : (w : RunState) → work z (at_turn w) ≤ work z w
  turn_lowers w = go (has_to_wait w)
    where
      go : (t : Bool) → work z (if t then queued_behind w w.held else w) ≤ work z w
      go true = behind_lowers w w.held refl
      go false = omega arith

  -- a step lowers the work, or its actor can't move and nothing changes
  pub step_lowers : (actor : ActorInRun) (w v : RunState) → 16 < z.rows → StepOf z actor w v
      → (work z v < work z w) ⊎ ((can_move w actor ≡ false) × (v ≡ w))
  step_lowers (ChannelActs ch) w v enough (inl a) =
      inl (channel_lowers w v ch enough (channel_below w ch a.0) a.1)
  step_lowers MetadataActs w v enough (inl a) = inl (
      let less = metadata_lowers (at_turn w) v enough a.1 in
      let most = turn_lowers w in
      omega (arith, less, most)
      )
  step_lowers actor w v enough (inr b) = inr b
