-- Each step keeps what every state of a run has, and what follows of messages.
use Rattle.std.proofs.Common.{◌∙◌, ◌≡◌, inl, inr, ℕ, ◌<◌, nat_lt, if◌then◌else◌, Option, Some, None, Bool, true, false}
use Rattle.std.proofs.Common.{[], ◌∷◌, ◌++◌, refl, sym, ap, subst, arith}
use Rattle.std.proofs.lemmas.Bool.Decides.{nat_tests}
use Rattle.volume_model.specs.declared.reply.Msg.{Msg}
use Rattle.run_work.specs.RunState.{AtClaiming, AtCopying, AtDecided, AtEnded, AtIdle, AtInJob, AtPosted, AtReady}
use Rattle.run_work.specs.RunState.{RunSizes, RunState, StageInRun}
use Rattle.run_work.specs.Reading.{logged_row, unclaimed_at}
use Rattle.run_work.specs.Work.{one_if}
use Rattle.run_work.specs.RunFacts.{awaited, in_queue, is_filled_for, is_from, is_held, is_waiting, IsAmongThese}
use Rattle.run_work.specs.RunFacts.{IsOnTheWay, not_sent, RunFacts}
use Rattle.run_work.specs.Following.{ActorInRun, ChannelActs, MetadataActs}
use Rattle.run_work.specs.Steps.{at_once, at_turn, behind_fill, by_answer, by_begin_insert, by_begin_job, by_close}
use Rattle.run_work.specs.Steps.{by_commit, by_drop, by_fail, by_insert, by_log_fill, by_lose_insert, by_own_row}
use Rattle.run_work.specs.Steps.{by_page, by_replace, by_take, by_win, has_to_wait, MetadataMove, OneMove}
use Rattle.run_work.specs.Steps.{queued_behind, StepOf}
use Rattle.run_work.proofs.Changing.{is_counted, occurs_end, one_of_end, same_rows}
use Rattle.run_work.proofs.ChannelKeeps.{channel_keeps, row_keeps}
use Rattle.run_work.proofs.ServingKeeps.{begun_insert, begun_job, closed, decided, logged_fill, taken, taken_up}
use Rattle.run_work.proofs.JobKeeps as job

behind_keeps : (w : RunState) (o : Option Msg) → w.held ≡ o → RunFacts w → RunFacts (queued_behind w o)
behind_keeps w None is f = f
behind_keeps w (Some x) is f =
    same_rows w (record w { held = None; waiting = w.waiting ++ x ∷ [] }) refl f f.frozen (λ k s. s) (λ k.
    let last = occurs_end k x w.waiting in
    let some = ap (is_from k) is in
    omega (arith, last, some)) ways
  where
    ways : (m : Msg) → IsAmongThese w.unsent w.queue None (w.waiting ++ x ∷ []) w.fill m → IsOnTheWay w m
    ways m (not_sent at) = not_sent at
    ways m (in_queue at) = in_queue at
    ways m (is_held at) = absurd (cc at)
    ways m (is_waiting at) = elim (one_of_end m x w.waiting at) [
      | inl before ↦ is_waiting before
      | inr last ↦ is_held (is ∙ ap (λ y. Some y) last)
    ]
    ways m (is_filled_for at) = is_filled_for at

-- that a command comes to wait keeps it
pub turn_keeps : (w : RunState) → RunFacts w → RunFacts (at_turn w)
turn_keeps w f = go (has_to_wait w)
  where
    go : (t : Bool) → RunFacts (if t then queued_behind w w.held else w)
    go true = behind_keeps w w.held refl f
    go false = f

module _ (z : RunSizes) where
  one_keeps : (w v : RunState) → RunFacts w → OneMove z w v → RunFacts v
  one_keeps w v f (by_own_row x is c) = row_keeps z w v 16 f c
  one_keeps w v f (by_take c) = taken z w v f c
  one_keeps w v f (by_lose_insert ch low c) =
      decided z w v ch c.serial (unclaimed_at (w.rows ch) AtDecided) w.finds c.held c.waiting f c.serves c.stage refl
      c.next
  one_keeps w v f (by_begin_insert ch low c) = begun_insert z w v ch f c
  one_keeps w v f (by_answer ch low c) =
      decided z w v ch c.serial (logged_row c.commands AtDecided) c.finds c.held c.waiting f c.serves c.stage refl
      c.next
  one_keeps w v f (by_begin_job ch low c) = begun_job z w v ch f c
  one_keeps w v f (by_log_fill ch low c) = logged_fill z w v ch f c
  one_keeps w v f (by_close c) = closed z w v f c
  one_keeps w v f (by_page c) = job.written z w v f c
  one_keeps w v f (by_insert ch low c) = job.inserted z w v ch f c
  one_keeps w v f (by_win ch low c) = job.won z w v ch f c
  one_keeps w v f (by_replace c) = job.replaced z w v f c
  one_keeps w v f (by_commit ch low c) = job.committed z w v ch f c
  one_keeps w v f (by_fail ch low c) = job.failed z w v ch f c
  one_keeps w v f (by_drop c) = job.dropped z w v f c

  -- a move of the metadata thread
  pub metadata_keeps : (w v : RunState) → RunFacts w → MetadataMove z w v → RunFacts v
  metadata_keeps w v f (at_once c due) = one_keeps w v f c
  metadata_keeps w v f (behind_fill x mid up due c fill) = one_keeps mid v (taken_up z w mid x f up) c

  -- a step of an actor
  pub step_keeps : (actor : ActorInRun) (w v : RunState) → RunFacts w → StepOf z actor w v → RunFacts v
  step_keeps (ChannelActs ch) w v f (inl a) = channel_keeps z w v ch f a.1
  step_keeps MetadataActs w v f (inl a) = metadata_keeps (at_turn w) v (turn_keeps w f) a.1
  step_keeps actor w v f (inr b) = subst RunFacts (sym b.1) f

-- ---- messages

-- a row for which a message is on its way is a channel's
channel_if : (ch : ℕ) (s : StageInRun) → 0 < awaited ch s → ch < 16
channel_if ch (AtPosted n) low = go (nat_lt ch 16) refl low
  where
    go : (t : Bool) → nat_lt ch 16 ≡ t → 0 < one_if t → ch < 16
    go true is low = grind (arith, nat_tests)
    go false is low = absurd (omega (arith, low))
channel_if ch AtIdle low = absurd (omega (arith, low))
channel_if ch AtClaiming low = absurd (omega (arith, low))
channel_if ch (AtCopying n) low = absurd (omega (arith, low))
channel_if ch AtReady low = absurd (omega (arith, low))
channel_if ch AtInJob low = absurd (omega (arith, low))
channel_if ch AtDecided low = absurd (omega (arith, low))
channel_if ch AtEnded low = absurd (omega (arith, low))

-- no message is stale
pub message_is_posted : (w : RunState) (m : Msg) → RunFacts w → IsOnTheWay w m
    → (m.channel < 16) × ((w.rows m.channel).stage ≡ AtPosted m.serial)
message_is_posted w m f way =
    let all = f.counted m.channel in
    let some = is_counted w m way in
    (channel_if m.channel (w.rows m.channel).stage (omega (arith, all, some)), f.current m way)
