-- Each move of a row keeps what every state of a run has.
use Rattle.std.proofs.Common.{None, ◌≡◌, Option, ◌≢◌, ◌⊎◌, inl, inr, ℕ, zero, suc, ◌+◌, ◌<◌, ◌≤◌, ◌==◌, nat_lt, Some}
use Rattle.std.proofs.Common.{Bool, true, false, [], ◌∷◌, ◌++◌, refl, sym, ◌∙◌, ap, subst, arith}
use Rattle.std.proofs.lemmas.Bool.Decides.{eqb_tells, nat_tests}
use Rattle.volume_model.specs.declared.reply.Msg.{Msg}
use Rattle.run_work.specs.RunState.{AtClaiming, AtCopying, AtEnded, AtIdle, AtPosted, RowInRun, RunSizes, RunState}
use Rattle.run_work.specs.RunState.{StageInRun}
use Rattle.run_work.specs.Reading.{is_there, logged_row, row_at, stage_of_copy, unclaimed_at}
use Rattle.run_work.specs.Work.{one_if}
use Rattle.run_work.specs.ChannelMoves.{asking, by_claim, by_copy, by_empty, by_end, by_filled, by_log, by_lose}
use Rattle.run_work.specs.ChannelMoves.{by_post, by_row, by_send, by_settle, ChannelMove, copied, for_fill, for_write}
use Rattle.run_work.specs.ChannelMoves.{LogMove, logs_itself, moved_row, PostMove, RowMove, SendMove}
use Rattle.run_work.specs.RunFacts.{awaited, in_queue, is_filled_for, is_from, is_held, is_waiting, IsAmongThese}
use Rattle.run_work.specs.RunFacts.{IsOnTheWay, not_sent, occurs, on_the_way, RunFacts}
use Rattle.run_work.proofs.Changing.{calm, changes_row, IsCalm, none_counted, not_posted, occurs_end, one_of_end}
use Rattle.run_work.proofs.Changing.{same_rows, unposts_row}

module _ (z : RunSizes) where
  copied_calm : (left : ℕ) → IsCalm (stage_of_copy left)
  copied_calm zero = (λ n is. absurd (cc is), λ is. absurd (cc is))
  copied_calm (suc n) = (λ n is. absurd (cc is), λ is. absurd (cc is))

  below_is : (ch : ℕ) → ch < 16 → nat_lt ch 16 ≡ true
  below_is ch low = grind (arith, nat_tests)

  above_is : (ch : ℕ) → 16 ≤ ch → nat_lt ch 16 ≡ false
  above_is ch high = grind (arith, nat_tests)

  posted : (w v : RunState) (ch : ℕ) → RunFacts w → PostMove z w ch v → RunFacts v
  posted w v ch f c =
      let row : RowInRun = row_at (w.rows ch) (AtPosted c.serial) in
      let next : RunState = record (moved_row w ch row) { unsent = c.unsent } in
      let none : on_the_way w ch ≡ 0 = f.counted ch ∙ elim c.from [
        | copied at ↦ ap (awaited ch) at
        | asking commands left at ↦ ap (awaited ch) at
      ] in
      subst RunFacts (sym c.next)
      (changes_row w next ch row refl f f.frozen (λ k ne s. s) (λ is. absurd (cc is))
      (λ k ne. ap (λ o. one_if (is_there o) + occurs k w.queue + is_from k w.held + occurs k w.waiting
      + is_from k w.fill) (c.others k ne))
      (elim (tells (nat_lt ch 16)) [
        | inl below ↦
            let is = ap one_if below in
            let set = ap (λ o. one_if (is_there o)) (c.message (grind (arith, nat_tests, below))) in
            omega (arith, none, set, is)
        | inr above ↦
            let is = ap one_if above in
            let same = ap (λ o. one_if (is_there o)) (c.no_message (grind (arith, nat_tests, above))) in
            omega (arith, none, same, is)
      ]) (others_way none) (own_way none))
    where
      tells : (t : Bool) → (t ≡ true) ⊎ (t ≡ false)
      tells true = inl refl
      tells false = inr refl

      others_way : on_the_way w ch ≡ 0 → (m : Msg) → IsAmongThese c.unsent w.queue w.held w.waiting w.fill m
          → m.channel ≢ ch → IsOnTheWay w m
      others_way none m (not_sent is) ne = not_sent (sym (c.others m.channel ne) ∙ is)
      others_way none m (in_queue is) ne = in_queue is
      others_way none m (is_held is) ne = is_held is
      others_way none m (is_waiting is) ne = is_waiting is
      others_way none m (is_filled_for is) ne = is_filled_for is

      or_zero : Option ℕ → ℕ
      or_zero None = 0
      or_zero (Some x) = x

      own_way : on_the_way w ch ≡ 0 → (m : Msg) → IsAmongThese c.unsent w.queue w.held w.waiting w.fill m
          → m.channel ≡ ch → AtPosted c.serial ≡ AtPosted m.serial
      own_way none m (in_queue is) at = absurd (none_counted w m ch at none (in_queue is))
      own_way none m (is_held is) at = absurd (none_counted w m ch at none (is_held is))
      own_way none m (is_waiting is) at = absurd (none_counted w m ch at none (is_waiting is))
      own_way none m (is_filled_for is) at = absurd (none_counted w m ch at none (is_filled_for is))
      own_way none m (not_sent is) at = elim (tells (nat_lt ch 16)) [
        | inl below ↦
            let set = c.message (grind (arith, nat_tests, below)) in
            ap (λ o. AtPosted (or_zero o)) (sym set ∙ ap c.unsent (sym at) ∙ is)
        | inr above ↦
            let same = c.no_message (grind (arith, nat_tests, above)) in
            absurd (none_counted w m ch at none
            (not_sent (ap w.unsent at ∙ sym same ∙ ap c.unsent (sym at) ∙ is)))
      ]

  -- a move of a row of its own
  pub row_keeps : (w v : RunState) (ch : ℕ) → RunFacts w → RowMove z w ch v → RunFacts v
  row_keeps w v ch f (by_claim c) =
      subst RunFacts (sym c.next) (calm w ch (record (w.rows ch) {
        stage = AtCopying z.pages;
        claim = Some (record { head = c.head; slot = c.slot; generation = c.blob.generation });
      }) f (λ n is. elim c.claims [
        | for_write at write ↦ absurd (cc (sym is ∙ at))
        | for_fill own at ↦ absurd (cc (sym is ∙ at))
      ]) (λ n is. absurd (cc is), λ is. absurd (cc is)))
  row_keeps w v ch f (by_copy c) =
      subst RunFacts (sym c.next)
      (calm w ch (row_at (w.rows ch) (stage_of_copy c.left)) f (λ n is. absurd (cc (sym is ∙ c.stage)))
      (copied_calm c.left))
  row_keeps w v ch f (by_lose c) =
      subst RunFacts (sym c.next)
      (calm w ch (unclaimed_at (w.rows ch) AtIdle) f (λ n is. absurd (cc (sym is ∙ c.stage)))
      (λ n is. absurd (cc is), λ is. absurd (cc is)))
  row_keeps w v ch f (by_post c) = posted w v ch f c
  row_keeps w v ch f (by_settle c) =
      subst RunFacts (sym c.next)
      (calm w ch (unclaimed_at (w.rows ch) AtIdle) f (λ n is. absurd (cc (sym is ∙ c.stage)))
      (λ n is. absurd (cc is), λ is. absurd (cc is)))

  -- a row that logs itself isn't posted
  logs_unposted : (s : StageInRun) → logs_itself s ≡ true → (n : ℕ) → s ≢ AtPosted n
  logs_unposted s so n is = absurd (cc (sym so ∙ ap logs_itself is))

  logged : (w v : RunState) (ch : ℕ) → RunFacts w → LogMove z w ch v → RunFacts v
  logged w v ch f c =
      let row : RowInRun = logged_row c.commands AtIdle in
      subst RunFacts (sym c.next)
      (unposts_row w (record (moved_row w ch row) { frozen = c.frozen }) ch row refl f
      (λ h is. f.frozen h (c.fewer h is)) (λ k ne s. s) (λ is. absurd (cc is)) (λ k ne. refl)
      (λ n is. absurd (cc is))
      (f.counted ch ∙ not_posted ch (w.rows ch).stage (logs_unposted (w.rows ch).stage c.stage)) (λ m way. way))

  sent : (w v : RunState) (ch : ℕ) → RunFacts w → SendMove z w ch v → RunFacts v
  sent w v ch f c =
      let message : Msg = record { channel = ch; serial = c.serial } in
      subst RunFacts (sym c.next)
      (same_rows w (record w { unsent = c.unsent; queue = w.queue ++ message ∷ [] }) refl f f.frozen (λ k s. s) (λ k.
      let last = occurs_end k message w.queue in
      elim (eqb_tells k ch) [
        | inl e ↦
            let here : one_if (k == ch) ≡ 1 = ap one_if e.0 in
            let a : one_if (is_there (w.unsent k)) ≡ 1 =
            ap (λ j. one_if (is_there (w.unsent j))) e.1 ∙ ap (λ o. one_if (is_there o)) c.waits in
            let b : one_if (is_there (c.unsent k)) ≡ 0 =
            ap (λ j. one_if (is_there (c.unsent j))) e.1 ∙ ap (λ o. one_if (is_there o)) c.sent in
            omega (arith, last, here, a, b)
        | inr e ↦
            let here : one_if (k == ch) ≡ 0 = ap one_if e.0 in
            let a = ap (λ o. one_if (is_there o)) (c.others k e.1) in
            omega (arith, last, here, a)
      ]) (ways message refl))
    where
      ways : (x : Msg) → x ≡ record { channel = ch; serial = c.serial } → (m : Msg)
          → IsAmongThese c.unsent (w.queue ++ x ∷ []) w.held w.waiting w.fill m → IsOnTheWay w m
      ways x is m (not_sent sent_is) = elim (eqb_tells m.channel ch) [
        | inl e ↦ absurd (cc (sym sent_is ∙ ap c.unsent e.1 ∙ c.sent))
        | inr e ↦ not_sent (sym (c.others m.channel e.1) ∙ sent_is)
      ]
      ways x is m (in_queue among) = elim (one_of_end m x w.queue among) [
        | inl before ↦ in_queue before
        | inr last ↦
            let same = sym last ∙ is in
            not_sent (ap (λ (y : Msg). w.unsent y.channel) same ∙ c.waits ∙ ap (λ (y : Msg). Some y.serial) (sym same))
      ]
      ways x is m (is_held held) = is_held held
      ways x is m (is_waiting among) = is_waiting among
      ways x is m (is_filled_for fills) = is_filled_for fills

  -- a move of a channel
  pub channel_keeps : (w v : RunState) (ch : ℕ) → RunFacts w → ChannelMove z w ch v → RunFacts v
  channel_keeps w v ch f (by_row c) = row_keeps w v ch f c
  channel_keeps w v ch f (by_empty c) =
      subst RunFacts (sym c.next)
      (calm w ch (row_at (w.rows ch) AtClaiming) f (λ n is. absurd (cc (sym is ∙ c.stage)))
      (λ n is. absurd (cc is), λ is. absurd (cc is)))
  channel_keeps w v ch f (by_filled c) =
      subst RunFacts (sym c.next)
      (calm w ch (row_at (w.rows ch) AtIdle) f (λ n is. absurd (cc (sym is ∙ c.stage)))
      (λ n is. absurd (cc is), λ is. absurd (cc is)))
  channel_keeps w v ch f (by_end c) =
      subst RunFacts (sym c.next)
      (calm w ch (logged_row [] AtEnded) f (λ n is. absurd (cc (sym is ∙ c.stage)))
      (λ n is. absurd (cc is), λ is. absurd (cc is)))
  channel_keeps w v ch f (by_log c) = logged w v ch f c
  channel_keeps w v ch f (by_send c) = sent w v ch f c
