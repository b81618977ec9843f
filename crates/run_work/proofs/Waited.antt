-- Messages that are served, and the job that rows wait for and blobs are frozen by.
use Rattle.std.proofs.Common.{◌==◌, subst, ◌≡◌, ◌≢◌, inl, inr, ℕ, ◌+◌, ◌≤◌, nat_lt, if◌then◌else◌, Option, Some, None}
use Rattle.std.proofs.Common.{Bool, true, false, List, [], ◌∷◌, refl, sym, ◌∙◌, ap, arith}
use Rattle.std.proofs.lemmas.Bool.Decides.{eqb_tells}
use Rattle.volume_model.specs.declared.reply.Msg.{Msg}
use Rattle.run_work.specs.RunState.{AtPosted, JobInRun, PhaseInRun, RunState}
use Rattle.run_work.specs.Reading.{frozen_left, frozen_set, is_there, job_left_in_run}
use Rattle.run_work.specs.Work.{one_if}
use Rattle.run_work.specs.ServingMoves.{Serves, TakesOut, the_filled, the_first, the_held, the_message, the_own}
use Rattle.run_work.specs.ServingMoves.{the_taken_over, WaitsInJob, WorksFor}
use Rattle.run_work.specs.RunFacts.{awaited, in_queue, is_filled_for, is_from, is_held, is_waiting, IsAmongThese}
use Rattle.run_work.specs.RunFacts.{IsOneOf, IsOnTheWay, not_sent, occurs, on_the_way, RunFacts}
use Rattle.run_work.proofs.Changing.{FrozenBy, itself, other}

-- ---- messages that are served

-- what is taken out is held no more, or waits no more
pub taken_out : (w : RunState) (m : Msg) (held : Option Msg) (waiting : List Msg) → TakesOut w m held waiting → (k : ℕ)
    → is_from k held + occurs k waiting + one_if (k == m.channel) ≡ is_from k w.held + occurs k w.waiting
taken_out w m held waiting (the_held was none same) k =
    let a = ap (is_from k) was in
    let b = ap (is_from k) none in
    let c = ap (occurs k) same in
    omega (arith, a, b, c)
taken_out w m held waiting (the_first same first) k =
    let a = ap (is_from k) same in
    let b = ap (occurs k) first in
    omega (arith, a, b)

-- what is held or waits of the other channels stays
pub others_wait : (w : RunState) (ch : ℕ) (held : Option Msg) (waiting : List Msg) → Serves w ch held waiting → (k : ℕ)
    → k ≢ ch → is_from k held + occurs k waiting ≡ is_from k w.held + occurs k w.waiting
others_wait w ch held waiting (the_message m channel takes) k ne =
    let all = taken_out w m held waiting takes k in
    let no_match = other k m.channel (λ is. ne (is ∙ channel)) in
    omega (arith, all, no_match)
others_wait w ch held waiting (the_own own same too) k ne =
    let a = ap (is_from k) same in
    let b = ap (occurs k) too in
    omega (arith, a, b)

-- the message that is served was the only one of its channel
pub none_left : (w : RunState) (ch serial : ℕ) (held : Option Msg) (waiting : List Msg) → RunFacts w
    → Serves w ch held waiting → (w.rows ch).stage ≡ AtPosted serial
    → one_if (is_there (w.unsent ch)) + occurs ch w.queue + is_from ch held + occurs ch waiting + is_from ch w.fill ≡ 0
none_left w ch serial held waiting f serves at = go serves
  where
    all : on_the_way w ch ≡ one_if (nat_lt ch 16)
    all = f.counted ch ∙ ap (awaited ch) at

    one_most : (t : Bool) → one_if t ≤ 1
    one_most true = omega arith
    one_most false = omega arith

    most : one_if (nat_lt ch 16) ≤ 1
    most = one_most (nat_lt ch 16)

    go : Serves w ch held waiting
        → one_if (is_there (w.unsent ch)) + occurs ch w.queue + is_from ch held + occurs ch waiting
        + is_from ch w.fill ≡ 0
    go (the_message m channel takes) =
        let out = taken_out w m held waiting takes ch in
        let one : one_if (ch == m.channel) ≡ 1 = ap (λ k. one_if (ch == k)) channel ∙ itself ch in
        omega (arith, all, most, out, one)
    go (the_own own same too) =
        let a = ap (is_from ch) same in
        let b = ap (occurs ch) too in
        let none : one_if (nat_lt ch 16) ≡ 0 = ap (λ k. one_if (nat_lt k 16)) own in
        omega (arith, all, none, a, b)

-- what is on its way behind the taking out of a message was before
pub ways_out : (w : RunState) (x : Msg) (held : Option Msg) (waiting : List Msg) → TakesOut w x held waiting → (m : Msg)
    → IsAmongThese w.unsent w.queue held waiting w.fill m → IsOnTheWay w m
ways_out w x held waiting takes m (not_sent is) = not_sent is
ways_out w x held waiting takes m (in_queue is) = in_queue is
ways_out w x held waiting takes m (is_filled_for is) = is_filled_for is
ways_out w x held waiting (the_held was none same) m (is_held is) = absurd (cc (sym none ∙ is))
ways_out w x held waiting (the_first same first) m (is_held is) = is_held (sym same ∙ is)
ways_out w x held waiting (the_held was none same) m (is_waiting is) = is_waiting (subst (IsOneOf m) same is)
ways_out w x held waiting (the_first same first) m (is_waiting is) = is_waiting (subst (IsOneOf m) (sym first) (inr is))

-- or behind the serving of a row
pub ways_served : (w : RunState) (ch : ℕ) (held : Option Msg) (waiting : List Msg) → Serves w ch held waiting
    → (m : Msg) → IsAmongThese w.unsent w.queue held waiting w.fill m → IsOnTheWay w m
ways_served w ch held waiting (the_message x channel takes) m way = ways_out w x held waiting takes m way
ways_served w ch held waiting (the_own own same too) m (not_sent is) = not_sent is
ways_served w ch held waiting (the_own own same too) m (in_queue is) = in_queue is
ways_served w ch held waiting (the_own own same too) m (is_held is) = is_held (sym same ∙ is)
ways_served w ch held waiting (the_own own same too) m (is_waiting is) = is_waiting (subst (IsOneOf m) too is)
ways_served w ch held waiting (the_own own same too) m (is_filled_for is) = is_filled_for is

-- the same without the fill's
pub ways_unfilled : (w : RunState) (held : Option Msg) (waiting : List Msg) (fill : Option Msg) → fill ≡ None
    → (m : Msg) → IsAmongThese w.unsent w.queue held waiting fill m
    → IsAmongThese w.unsent w.queue held waiting w.fill m
ways_unfilled w held waiting fill none m (not_sent is) = not_sent is
ways_unfilled w held waiting fill none m (in_queue is) = in_queue is
ways_unfilled w held waiting fill none m (is_held is) = is_held is
ways_unfilled w held waiting fill none m (is_waiting is) = is_waiting is
ways_unfilled w held waiting fill none m (is_filled_for is) = absurd (cc (sym none ∙ is))

-- what is held or filled for of the other channels stays where the command that the own row works for is logged
pub others_worked : (w : RunState) (x : Msg) (held : Option Msg) → WorksFor w x held → (k : ℕ) → k ≢ x.channel
    → is_from k held ≡ is_from k w.held + is_from k w.fill
others_worked w x held (the_filled fills same) k ne =
    let a = ap (is_from k) same in
    let b = ap (is_from k) fills in
    let no_match = other k x.channel ne in
    omega (arith, a, b, no_match)
others_worked w x held (the_taken_over none was gone) k ne =
    let a = ap (is_from k) gone in
    let b = ap (is_from k) was in
    let c = ap (is_from k) none in
    let no_match = other k x.channel ne in
    omega (arith, a, b, c, no_match)

-- what is on its way behind that logging was before
pub ways_worked : (w : RunState) (x : Msg) (held : Option Msg) → WorksFor w x held → (m : Msg)
    → IsAmongThese w.unsent w.queue held w.waiting None m → IsOnTheWay w m
ways_worked w x held works m (not_sent is) = not_sent is
ways_worked w x held works m (in_queue is) = in_queue is
ways_worked w x held works m (is_waiting is) = is_waiting is
ways_worked w x held works m (is_filled_for is) = absurd (cc is)
ways_worked w x held (the_filled fills same) m (is_held is) = is_held (sym same ∙ is)
ways_worked w x held (the_taken_over none was gone) m (is_held is) = absurd (cc (sym gone ∙ is))

-- ---- jobs

abbrev job_or : Option JobInRun → JobInRun → JobInRun
job_or None j = j
job_or (Some x) j = x

-- the job that runs is one
pub same_job : (w : RunState) (j x : JobInRun) → w.job ≡ Some j → w.job ≡ Some x → x ≡ j
same_job w j x is too = ap (λ o. job_or o j) (sym too ∙ is)

-- a row in the job is the one that waits for it
pub only_row : (w : RunState) (j : JobInRun) (ch k : ℕ) → w.job ≡ Some j → j.waits ≡ Some ch → WaitsInJob w k → k ≡ ch
only_row w j ch k runs waits s =
    ap (λ o. or_zero o) (sym s.2 ∙ ap (λ (x : JobInRun). x.waits) (same_job w j s.0 runs s.1) ∙ waits)
  where
    or_zero : Option ℕ → ℕ
    or_zero None = 0
    or_zero (Some x) = x

-- none is where none waits
pub no_row : (w : RunState) (j : JobInRun) (k : ℕ) → w.job ≡ Some j → j.waits ≡ None → WaitsInJob w k → ⊥
no_row w j k runs waits s =
    cc (sym s.2 ∙ ap (λ (x : JobInRun). x.waits) (same_job w j s.0 runs s.1) ∙ waits)

-- a job that goes on is waited for as before
pub waits_on : (w v : RunState) (j : JobInRun) (rest : List PhaseInRun) → w.job ≡ Some j → v.job
    ≡ job_left_in_run j rest
    → (rest ≡ [] → j.waits ≡ None) → (k : ℕ) → WaitsInJob w k → WaitsInJob v k
waits_on w v j [] runs left ends k s = absurd (no_row w j k runs (ends refl) s)
waits_on w v j (x ∷ xs) runs left ends k s =
    (record j { phases = x ∷ xs }, left, sym (ap (λ (y : JobInRun). y.waits) (same_job w j s.0 runs s.1)) ∙ s.2)

-- a blob that is frozen while the job goes on is its own
pub frozen_on : (w v : RunState) (j : JobInRun) (o : Option ℕ) (rest : List PhaseInRun) → RunFacts w → w.job ≡ Some j
    → v.job ≡ job_left_in_run (record j { waits = o }) rest → (h : ℕ) → frozen_left w.frozen j rest h ≡ true
    → FrozenBy v h
frozen_on w v j o (x ∷ xs) f runs left h is =
    let was = f.frozen h is in (
      record j { phases = x ∷ xs; waits = o },
      left,
      sym (ap (λ (y : JobInRun). y.freeze) (same_job w j was.0 runs was.1)) ∙ was.2,
    )
frozen_on w v j o [] f runs left h is = absurd (go j.freeze refl is)
  where
    none : (t : Option ℕ) → j.freeze ≡ t → w.frozen h ≡ true → t ≡ Some h
    none t freeze was =
        let by = f.frozen h was in
        sym freeze ∙ sym (ap (λ (y : JobInRun). y.freeze) (same_job w j by.0 runs by.1)) ∙ by.2

    go : (t : Option ℕ) → j.freeze ≡ t → frozen_set w.frozen t false h ≡ true → ⊥
    go None freeze was = cc (none None freeze was)
    go (Some blob) freeze was = elim (eqb_tells h blob) [
      | inl e ↦ cc (sym was ∙ ap (λ t. if t then false else w.frozen h) e.0)
      | inr e ↦
          let here = none (Some blob) freeze (sym (ap (λ t. if t then false else w.frozen h) e.0) ∙ was) in
          e.1 (sym (ap (λ o. or_zero o) here))
    ]
      where
        or_zero : Option ℕ → ℕ
        or_zero None = 0
        or_zero (Some x) = x

-- a job that freezes none leaves none frozen
pub unfrozen : (w : RunState) (j : JobInRun) → RunFacts w → w.job ≡ Some j → j.freeze ≡ None → (h : ℕ)
    → w.frozen h ≡ true → ⊥
unfrozen w j f runs thaws h is =
    let by = f.frozen h is in
    cc (sym by.2 ∙ ap (λ (y : JobInRun). y.freeze) (same_job w j by.0 runs by.1) ∙ thaws)

-- none is frozen where no job runs
pub idle_thaws : (w : RunState) → RunFacts w → w.job ≡ None → (h : ℕ) → w.frozen h ≡ true → ⊥
idle_thaws w f idle h is = cc (sym (f.frozen h is).1 ∙ idle)
