-- Each move by which a message is taken or served, or a fill goes on, keeps what every state of a run has.
use Rattle.std.proofs.Common.{◌+◌, ◌==◌, ◌≡◌, ◌≢◌, inl, inr, ℕ, ◌≤◌, nat_lt, if◌then◌else◌, Option, Some, None, Bool}
use Rattle.std.proofs.Common.{true, false, List, [], ◌∷◌, refl, sym, ◌∙◌, ap, subst, arith}
use Rattle.std.proofs.lemmas.Bool.Decides.{eqb_tells}
use Rattle.volume_model.specs.declared.reply.Msg.{Msg}
use Rattle.run_work.specs.RunState.{AtClaiming, AtCopying, AtDecided, AtEnded, AtIdle, AtInJob, AtPosted, AtReady}
use Rattle.run_work.specs.RunState.{FoundHeads, JobInRun, MetadataCommand, RowInRun, RunSizes, RunState, StageInRun}
use Rattle.run_work.specs.Reading.{frozen_set, is_there, logged_row, row_at}
use Rattle.run_work.specs.Work.{one_if}
use Rattle.run_work.specs.ChannelMoves.{moved_row}
use Rattle.run_work.specs.ServingMoves.{BeginInsertMove, BeginJobMove, BeginsFor, CloseMove, for_filled, for_message}
use Rattle.run_work.specs.ServingMoves.{in_fill, in_insert, LogFillMove, Serves, TakeMove, TakesOut, TakeUpMove}
use Rattle.run_work.specs.ServingMoves.{the_filled, the_first, the_held, the_taken_over, WorksFor}
use Rattle.run_work.specs.RunFacts.{awaited, in_queue, is_filled_for, is_from, is_held, is_waiting, IsAmongThese}
use Rattle.run_work.specs.RunFacts.{IsOneOf, IsOnTheWay, not_sent, occurs, on_the_way, RunFacts}
use Rattle.run_work.proofs.Changing.{FrozenBy, IsCalm, itself, other, same_rows, unposts_row}
use Rattle.run_work.proofs.Waited.{idle_thaws, none_left, only_row, others_wait, others_worked, taken_out, ways_out}
use Rattle.run_work.proofs.Waited.{ways_served, ways_unfilled, ways_worked}

one_most : (t : Bool) → one_if t ≤ 1
one_most true = omega arith
one_most false = omega arith

-- no message is the own row's
at_own : (s : StageInRun) → awaited 16 s ≡ 0
at_own AtIdle = refl
at_own AtClaiming = refl
at_own (AtCopying n) = refl
at_own AtReady = refl
at_own (AtPosted n) = refl
at_own AtInJob = refl
at_own AtDecided = refl
at_own AtEnded = refl

module _ (z : RunSizes) where
  -- a message that is taken is on its way still
  pub taken : (w v : RunState) → RunFacts w → TakeMove w v → RunFacts v
  taken w v f c =
      subst RunFacts (sym c.next)
      (same_rows w (record w { queue = c.rest; held = Some c.front }) refl f f.frozen (λ k s. s) (λ k.
      let first = ap (occurs k) c.queue in
      let none = ap (is_from k) c.none in
      omega (arith, first, none)) ways)
    where
      ways : (m : Msg) → IsAmongThese w.unsent c.rest (Some c.front) w.waiting w.fill m → IsOnTheWay w m
      ways m (not_sent is) = not_sent is
      ways m (in_queue is) = in_queue (subst (IsOneOf m) (sym c.queue) (inr is))
      ways m (is_held is) = in_queue (subst (IsOneOf m) (sym c.queue) (inl (ap (λ o. or_front o) is)))
        where
          or_front : Option Msg → Msg
          or_front None = c.front
          or_front (Some x) = x
      ways m (is_waiting is) = is_waiting is
      ways m (is_filled_for is) = is_filled_for is

  -- one that is served leaves a row that is decided
  pub decided : (w v : RunState) (ch serial : ℕ) (row : RowInRun) (finds : FoundHeads) (held : Option Msg)
      (waiting : List Msg) → RunFacts w → Serves w ch held waiting → (w.rows ch).stage ≡ AtPosted serial
      → row.stage ≡ AtDecided
      → v ≡ record (moved_row w ch row) { finds = finds; held = held; waiting = waiting } → RunFacts v
  decided w v ch serial row finds held waiting f c was at next =
      subst RunFacts (sym next)
      (unposts_row w (record (moved_row w ch row) { finds = finds; held = held; waiting = waiting }) ch row refl f
      f.frozen (λ k ne s. s) (λ is. absurd (cc (sym is ∙ at)))
      (λ k ne. let same = others_wait w ch held waiting c k ne in omega (arith, same))
      (λ n is. absurd (cc (sym is ∙ at))) (none_left w ch serial held waiting f c was)
      (ways_served w ch held waiting c))

  -- the job of an insert begins
  pub begun_insert : (w v : RunState) (ch : ℕ) → RunFacts w → BeginInsertMove z w ch v → RunFacts v
  begun_insert w v ch f c =
      let row : RowInRun = row_at (w.rows ch) AtInJob in
      subst RunFacts (sym c.next)
      (unposts_row w (record (moved_row w ch row) { job = Some c.job; held = c.held; waiting = c.waiting }) ch row refl
      f (λ h is. absurd (idle_thaws w f c.idle h is)) (λ k ne s. absurd (cc (sym s.1 ∙ c.idle)))
      (λ _. (c.job, refl, c.waits))
      (λ k ne. let same = others_wait w ch c.held c.waiting c.serves k ne in omega (arith, same))
      (λ n is. absurd (cc is)) (none_left w ch c.serial c.held c.waiting f c.serves c.stage)
      (ways_served w ch c.held c.waiting c.serves))

  -- a blob that is frozen at the begin of a job is the job's
  frozen_at_begin : (w v : RunState) (j : JobInRun) → RunFacts w → w.job ≡ None → v.job ≡ Some j → (h : ℕ)
      → frozen_set w.frozen j.freeze true h ≡ true → FrozenBy v h
  frozen_at_begin w v j f idle runs h is = (j, runs, go j.freeze is)
    where
      go : (o : Option ℕ) → frozen_set w.frozen o true h ≡ true → o ≡ Some h
      go None was = absurd (idle_thaws w f idle h was)
      go (Some blob) was = elim (eqb_tells h blob) [
        | inl e ↦ ap (λ k. Some k) (sym e.1)
        | inr e ↦ absurd (idle_thaws w f idle h (sym (ap (λ t. if t then true else w.frozen h) e.0) ∙ was))
      ]

  -- the fill's message is the only one of its channel
  only_fill : (w : RunState) (ch serial : ℕ) (x : Msg) → RunFacts w → w.fill ≡ Some x → x.channel ≡ ch
      → (w.rows ch).stage ≡ AtPosted serial
      → one_if (is_there (w.unsent ch)) + occurs ch w.queue + is_from ch w.held + occurs ch w.waiting ≡ 0
  only_fill w ch serial x f fills channel at =
      let was = ap (is_from ch) fills in
      let one : one_if (ch == x.channel) ≡ 1 = ap (λ k. one_if (ch == k)) channel ∙ itself ch in
      let all = f.counted ch ∙ ap (awaited ch) at in
      let most = one_most (nat_lt ch 16) in
      omega (arith, was, one, all, most)

  not_fill : (k ch : ℕ) (x : Msg) → x.channel ≡ ch → k ≢ ch → one_if (k == x.channel) ≡ 0
  not_fill k ch x channel ne = other k x.channel (λ is. ne (is ∙ channel))

  -- nor is another one of the command's that the own row works for
  only_worked : (w : RunState) (ch serial : ℕ) (x : Msg) (held : Option Msg) → RunFacts w → WorksFor w x held
      → x.channel ≡ ch → (w.rows ch).stage ≡ AtPosted serial
      → one_if (is_there (w.unsent ch)) + occurs ch w.queue + is_from ch held + occurs ch w.waiting ≡ 0
  only_worked w ch serial x held f (the_filled fills same) channel at =
      let rest = only_fill w ch serial x f fills channel at in
      let stays = ap (is_from ch) same in
      omega (arith, rest, stays)
  only_worked w ch serial x held f (the_taken_over none was gone) channel at =
      let is = ap (is_from ch) was in
      let one : one_if (ch == x.channel) ≡ 1 = ap (λ k. one_if (ch == k)) channel ∙ itself ch in
      let left = ap (is_from ch) gone in
      let all = f.counted ch ∙ ap (awaited ch) at in
      let most = one_most (nat_lt ch 16) in
      omega (arith, is, one, left, all, most)

  -- the job of a command begins
  pub begun_job : (w v : RunState) (ch : ℕ) → RunFacts w → BeginJobMove z w ch v → RunFacts v
  begun_job w v ch f c =
      let row : RowInRun = logged_row (MetadataCommand ∷ c.commands) AtInJob in
      let next : RunState = record (moved_row w ch row) {
        job = Some c.job;
        frozen = frozen_set w.frozen c.job.freeze true;
        held = c.held;
        waiting = c.waiting;
        fill = c.fill;
      } in
      subst RunFacts (sym c.next)
      (unposts_row w next ch row refl f (frozen_at_begin w next c.job f c.idle refl)
      (λ k ne s. absurd (cc (sym s.1 ∙ c.idle))) (λ _. (c.job, refl, c.waits))
      (λ k ne. elim c.begins [
        | for_message same serves ↦
            let wait = others_wait w ch c.held c.waiting serves k ne in
            let fill = ap (is_from k) same in
            omega (arith, wait, fill)
        | for_filled x fills channel unused held waiting none ↦
            let a = ap (is_from k) held in
            let b = ap (occurs k) waiting in
            let was = ap (is_from k) fills in
            let gone = ap (is_from k) none in
            let no_match = not_fill k ch x channel ne in
            omega (arith, a, b, was, gone, no_match)
      ]) (λ n is. absurd (cc is))
      (elim c.begins [
        | for_message same serves ↦
            let wait = none_left w ch c.serial c.held c.waiting f serves c.stage in
            let fill = ap (is_from ch) same in
            omega (arith, wait, fill)
        | for_filled x fills channel unused held waiting none ↦
            let a = ap (is_from ch) held in
            let b = ap (occurs ch) waiting in
            let gone = ap (is_from ch) none in
            let rest = only_fill w ch c.serial x f fills channel c.stage in
            omega (arith, a, b, gone, rest)
      ]) (ways c.begins))
    where
      ways : BeginsFor w ch c.held c.waiting c.fill → (m : Msg)
          → IsAmongThese w.unsent w.queue c.held c.waiting c.fill m → IsOnTheWay w m
      ways (for_message same serves) m way =
          ways_served w ch c.held c.waiting serves m
          (subst (λ o. IsAmongThese w.unsent w.queue c.held c.waiting o m) same way)
      ways (for_filled x fills channel unused held waiting none) m way =
          subst (λ o. IsAmongThese w.unsent w.queue o w.waiting w.fill m) held
          (subst (λ l. IsAmongThese w.unsent w.queue c.held l w.fill m) waiting
          (ways_unfilled w c.held c.waiting c.fill none m way))

  -- a command that becomes the fill is on its way still
  pub taken_up : (w v : RunState) (x : Msg) → RunFacts w → TakeUpMove z w x v → RunFacts v
  taken_up w v x f c =
      subst RunFacts (sym c.next)
      (same_rows w (record w { held = c.held; waiting = c.waiting; fill = Some x }) refl f f.frozen (λ k s. s) (λ k.
      let none = ap (is_from k) c.none in
      let out = taken_out w x c.held c.waiting c.takes k in
      omega (arith, none, out)) ways)
    where
      was : TakesOut w x c.held c.waiting → IsOnTheWay w x
      was (the_held held none same) = is_held held
      was (the_first same first) = is_waiting (subst (IsOneOf x) (sym first) (inl refl))

      or_it : Option Msg → Msg
      or_it None = x
      or_it (Some y) = y

      ways : (m : Msg) → IsAmongThese w.unsent w.queue c.held c.waiting (Some x) m → IsOnTheWay w m
      ways m (not_sent is) = not_sent is
      ways m (in_queue is) = in_queue is
      ways m (is_held is) = ways_out w x c.held c.waiting c.takes m (is_held is)
      ways m (is_waiting is) = ways_out w x c.held c.waiting c.takes m (is_waiting is)
      ways m (is_filled_for is) = subst (IsOnTheWay w) (ap (λ o. or_it o) is) (was c.takes)

  -- the command that slots are filled for is logged
  pub logged_fill : (w v : RunState) (ch : ℕ) → RunFacts w → LogFillMove z w ch v → RunFacts v
  logged_fill w v ch f c =
      let row : RowInRun = logged_row c.commands AtDecided in
      let over : RowInRun = logged_row [] c.own in
      let mid : RunState = record (moved_row w ch row) { held = c.held; fill = None } in
      let rest = only_worked w ch c.serial c.message c.held f c.works c.channel c.stage in
      let first : RunFacts mid = unposts_row w mid ch row refl f f.frozen (λ k ne s. s) (λ is. absurd (cc is))
      (λ k ne.
      let others = others_worked w c.message c.held c.works k (λ is. ne (is ∙ c.channel)) in
      omega (arith, others)) (λ n is. absurd (cc is)) (omega (arith, rest))
      (ways_worked w c.message c.held c.works) in
      let own : IsCalm over.stage = elim c.own_is [
        | inl is ↦ (λ n at. absurd (cc (sym at ∙ is)), λ at. absurd (cc (sym at ∙ is)))
        | inr is ↦ (λ n at. absurd (cc (sym at ∙ is)), λ at. absurd (cc (sym at ∙ is)))
      ] in
      let left : on_the_way mid 16 ≡ 0 = first.counted 16 ∙ at_own (mid.rows 16).stage in
      subst RunFacts (sym c.next)
      (unposts_row mid (record (moved_row mid 16 over) { finds = c.finds; job = c.job; frozen = c.frozen }) 16 over refl
      first
      (λ h is. elim c.ends [
        | in_fill idle none fewer ↦ absurd (idle_thaws w f idle h (fewer h is))
        | in_insert waits none thaws ↦ absurd (cc (sym is ∙ thaws h))
      ])
      (λ k ne s. elim c.ends [
        | in_fill idle none fewer ↦ absurd (cc (sym s.1 ∙ idle))
        | in_insert waits none thaws ↦ absurd (ne (only_row w waits.0 16 k waits.1 waits.2 s))
      ]) (λ is. absurd (own.1 is)) (λ k ne. refl) own.0 left (λ m way. way))

  -- the own row waits again
  pub closed : (w v : RunState) → RunFacts w → CloseMove z w v → RunFacts v
  closed w v f c =
      let row : RowInRun = logged_row [] AtIdle in
      subst RunFacts (sym c.next)
      (unposts_row w (moved_row w 16 row) 16 row refl f f.frozen (λ k ne s. s) (λ is. absurd (cc is)) (λ k ne. refl)
      (λ n is. absurd (cc is)) (f.counted 16 ∙ at_own (w.rows 16).stage) (λ m way. way))
