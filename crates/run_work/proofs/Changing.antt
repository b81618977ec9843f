-- What every state of a run has, where one row changes or none does.
use Rattle.std.proofs.Common.{◌≡◌, ◌<◌, ◌≢◌, ◌⊎◌, inl, inr, ℕ, ◌+◌, ◌==◌, Some, true, List, [], ◌∷◌, ◌++◌, refl, sym}
use Rattle.std.proofs.Common.{◌∙◌, ap, subst, arith}
use Rattle.std.proofs.lemmas.Bool.Decides.{eqb_tells}
use Rattle.volume_model.specs.declared.reply.Msg.{Msg}
use Rattle.run_work.specs.RunState.{AtClaiming, AtCopying, AtDecided, AtEnded, AtIdle, AtInJob, AtPosted, AtReady}
use Rattle.run_work.specs.RunState.{JobInRun, RowInRun, RowsInRun, RunState, StageInRun}
use Rattle.run_work.specs.Reading.{is_there, with_row_in_run}
use Rattle.run_work.specs.Work.{one_if}
use Rattle.run_work.specs.ChannelMoves.{moved_row}
use Rattle.run_work.specs.ServingMoves.{WaitsInJob}
use Rattle.run_work.specs.RunFacts.{awaited, in_queue, is_filled_for, is_from, is_held, is_waiting, IsOneOf}
use Rattle.run_work.specs.RunFacts.{IsOnTheWay, not_sent, occurs, on_the_way, RunFacts}
use Rattle.run_work.proofs.Sums.{row_here, row_there}

-- ---- stages

-- a row that neither waits for a message nor for a job
abbrev pub IsCalm : StageInRun → Type 0
IsCalm s = ((n : ℕ) → s ≢ AtPosted n) × (s ≢ AtInJob)

-- for a row that isn't posted no message is on its way
pub not_posted : (ch : ℕ) (s : StageInRun) → ((n : ℕ) → s ≢ AtPosted n) → awaited ch s ≡ 0
not_posted ch AtIdle ne = refl
not_posted ch AtClaiming ne = refl
not_posted ch (AtCopying n) ne = refl
not_posted ch AtReady ne = refl
not_posted ch (AtPosted n) ne = absurd (ne n refl)
not_posted ch AtInJob ne = refl
not_posted ch AtDecided ne = refl
not_posted ch AtEnded ne = refl

-- ---- counting messages

-- a message is its own channel's
pub itself : (k : ℕ) → one_if (k == k) ≡ 1
itself k = elim (eqb_tells k k) [ inl h ↦ ap one_if h.0 | inr h ↦ absurd (h.1 refl) ]

-- and no other's
pub other : (k x : ℕ) → k ≢ x → one_if (k == x) ≡ 0
other k x ne = elim (eqb_tells k x) [ inl h ↦ absurd (ne h.1) | inr h ↦ ap one_if h.0 ]

-- a message joins the end
pub occurs_end : (k : ℕ) (x : Msg) (l : List Msg) → occurs k (l ++ x ∷ []) ≡ occurs k l + one_if (k == x.channel)
occurs_end k x [] = omega arith
occurs_end k x (y ∷ l) = let rest = occurs_end k x l in omega (arith, rest)

-- and is one of those before it, or the last
pub one_of_end : (m x : Msg) (l : List Msg) → IsOneOf m (l ++ x ∷ []) → IsOneOf m l ⊎ (x ≡ m)
one_of_end m x [] (inl is) = inr is
one_of_end m x [] (inr none) = absurd none
one_of_end m x (y ∷ l) (inl is) = inl (inl is)
one_of_end m x (y ∷ l) (inr rest) = elim (one_of_end m x l rest) [
  | inl before ↦ inl (inr before)
  | inr last ↦ inr last
]

occurs_some : (m : Msg) (l : List Msg) → IsOneOf m l → 0 < occurs m.channel l
occurs_some m [] none = absurd none
occurs_some m (x ∷ l) (inl is) =
    let one = ap (λ (y : Msg). one_if (m.channel == y.channel)) is ∙ itself m.channel in omega (arith, one)
occurs_some m (x ∷ l) (inr rest) = let some = occurs_some m l rest in omega (arith, some)

-- a message on its way is counted
pub is_counted : (w : RunState) (m : Msg) → IsOnTheWay w m → 0 < on_the_way w m.channel
is_counted w m (not_sent is) = let one = ap (λ o. one_if (is_there o)) is in omega (arith, one)
is_counted w m (in_queue is) = let some = occurs_some m w.queue is in omega (arith, some)
is_counted w m (is_held is) =
    let one = ap (is_from m.channel) is ∙ itself m.channel in omega (arith, one)
is_counted w m (is_waiting is) = let some = occurs_some m w.waiting is in omega (arith, some)
is_counted w m (is_filled_for is) =
    let one = ap (is_from m.channel) is ∙ itself m.channel in omega (arith, one)

-- so none is where none is counted
pub none_counted : (w : RunState) (m : Msg) (ch : ℕ) → m.channel ≡ ch → on_the_way w ch ≡ 0 → IsOnTheWay w m → ⊥
none_counted w m ch is none way =
    let some = is_counted w m way in
    let same = ap (on_the_way w) is in
    absurd (omega (arith, some, same, none))

-- ---- rows

-- what holds of each row at a stage, where one row changes
module _ (rows : RowsInRun) (ch : ℕ) (row : RowInRun) (P : ℕ → Type 0) (s : StageInRun) where
  by_row_changed : ((k : ℕ) → k ≢ ch → (rows k).stage ≡ s → P k) → (row.stage ≡ s → P ch) → (k : ℕ)
      → (with_row_in_run rows ch row k).stage ≡ s → P k
  by_row_changed others here k is = elim (eqb_tells k ch) [
    | inl e ↦
        subst P (sym e.1)
        (here (sym (ap (λ (r : RowInRun). r.stage) (row_here rows ch row))
        ∙ subst (λ x. (with_row_in_run rows ch row x).stage ≡ s) e.1 is))
    | inr e ↦ others k e.1 (sym (ap (λ (r : RowInRun). r.stage) (row_there rows ch row k e.1)) ∙ is)
  ]

-- a number for each row, where one row changes
counts_by : (rows : RowsInRun) (ch : ℕ) (row : RowInRun) (n : ℕ → ℕ)
    → ((k : ℕ) → k ≢ ch → n k ≡ awaited k (rows k).stage) → n ch ≡ awaited ch row.stage → (k : ℕ)
    → n k ≡ awaited k (with_row_in_run rows ch row k).stage
counts_by rows ch row n others here k = elim (eqb_tells k ch) [
  | inl e ↦
      subst (λ x. n x ≡ awaited x (with_row_in_run rows ch row x).stage) (sym e.1)
      (here ∙ sym (ap (λ (r : RowInRun). awaited ch r.stage) (row_here rows ch row)))
  | inr e ↦ others k e.1 ∙ sym (ap (λ (r : RowInRun). awaited k r.stage) (row_there rows ch row k e.1))
]

-- a frozen blob is the job's
abbrev pub FrozenBy : RunState → ℕ → Type 0
FrozenBy w h = (job : JobInRun) × (w.job ≡ Some job) × (job.freeze ≡ Some h)

-- a message of a row that changes, or of another
current_by : (w v : RunState) (ch : ℕ) (row : RowInRun) → v.rows ≡ with_row_in_run w.rows ch row → RunFacts w
    → ((m : Msg) → IsOnTheWay v m → m.channel ≢ ch → IsOnTheWay w m)
    → ((m : Msg) → IsOnTheWay v m → m.channel ≡ ch → row.stage ≡ AtPosted m.serial) → (m : Msg) → IsOnTheWay v m
    → (v.rows m.channel).stage ≡ AtPosted m.serial
current_by w v ch row rows f ways own m way =
    ap (λ (r : RowsInRun). (r m.channel).stage) rows ∙ elim (eqb_tells m.channel ch) [
      | inl e ↦
          ap (λ k. (with_row_in_run w.rows ch row k).stage) e.1
          ∙ ap (λ (r : RowInRun). r.stage) (row_here w.rows ch row) ∙ own m way e.1
      | inr e ↦
          ap (λ (r : RowInRun). r.stage) (row_there w.rows ch row m.channel e.1) ∙ f.current m (ways m way e.1)
    ]

-- one row changes, and what is said of the others is kept
pub changes_row : (w v : RunState) (ch : ℕ) (row : RowInRun) → v.rows ≡ with_row_in_run w.rows ch row → RunFacts w
    → ((h : ℕ) → v.frozen h ≡ true → FrozenBy v h)
    → ((k : ℕ) → k ≢ ch → WaitsInJob w k → WaitsInJob v k) → (row.stage ≡ AtInJob → WaitsInJob v ch)
    → ((k : ℕ) → k ≢ ch → on_the_way v k ≡ on_the_way w k) → on_the_way v ch ≡ awaited ch row.stage
    → ((m : Msg) → IsOnTheWay v m → m.channel ≢ ch → IsOnTheWay w m)
    → ((m : Msg) → IsOnTheWay v m → m.channel ≡ ch → row.stage ≡ AtPosted m.serial) → RunFacts v
changes_row w v ch row rows f frozen jobs job others here ways own = record {
  frozen = frozen;
  in_job = λ k is. by_row_changed w.rows ch row (λ j. WaitsInJob v j) AtInJob
      (λ j ne at. jobs j ne (f.in_job j at)) job k (sym (ap (λ (r : RowsInRun). (r k).stage) rows) ∙ is);
  counted = λ k. counts_by w.rows ch row (λ j. on_the_way v j) (λ j ne. others j ne ∙ f.counted j) here k
      ∙ sym (ap (λ (r : RowsInRun). awaited k (r k).stage) rows);
  current = current_by w v ch row rows f ways own;
}

-- the same of a row that isn't posted behind it
pub unposts_row : (w v : RunState) (ch : ℕ) (row : RowInRun) → v.rows ≡ with_row_in_run w.rows ch row → RunFacts w
    → ((h : ℕ) → v.frozen h ≡ true → FrozenBy v h)
    → ((k : ℕ) → k ≢ ch → WaitsInJob w k → WaitsInJob v k) → (row.stage ≡ AtInJob → WaitsInJob v ch)
    → ((k : ℕ) → k ≢ ch → on_the_way v k ≡ on_the_way w k) → ((n : ℕ) → row.stage ≢ AtPosted n)
    → on_the_way v ch ≡ 0 → ((m : Msg) → IsOnTheWay v m → IsOnTheWay w m) → RunFacts v
unposts_row w v ch row rows f frozen jobs job others isnt none ways =
    changes_row w v ch row rows f frozen jobs job others (none ∙ sym (not_posted ch row.stage isnt))
    (λ m way ne. ways m way) (λ m way is. absurd (none_counted v m ch is none way))

-- no row changes
pub same_rows : (w v : RunState) → v.rows ≡ w.rows → RunFacts w → ((h : ℕ) → v.frozen h ≡ true → FrozenBy v h)
    → ((k : ℕ) → WaitsInJob w k → WaitsInJob v k) → ((k : ℕ) → on_the_way v k ≡ on_the_way w k)
    → ((m : Msg) → IsOnTheWay v m → IsOnTheWay w m) → RunFacts v
same_rows w v rows f frozen jobs counts ways = record {
  frozen = frozen;
  in_job = λ k is. jobs k (f.in_job k (sym (ap (λ (r : RowsInRun). (r k).stage) rows) ∙ is));
  counted = λ k. counts k ∙ f.counted k ∙ sym (ap (λ (r : RowsInRun). awaited k (r k).stage) rows);
  current = λ m way. ap (λ (r : RowsInRun). (r m.channel).stage) rows ∙ f.current m (ways m way);
}

-- a calm row takes the place of one that wasn't posted
pub calm : (w : RunState) (ch : ℕ) (row : RowInRun) → RunFacts w → ((n : ℕ) → (w.rows ch).stage ≢ AtPosted n)
    → IsCalm row.stage → RunFacts (moved_row w ch row)
calm w ch row f was c =
    unposts_row w (moved_row w ch row) ch row refl f f.frozen (λ k ne s. s) (λ is. absurd (c.1 is)) (λ k ne. refl)
    c.0 (f.counted ch ∙ not_posted ch (w.rows ch).stage was) (λ m way. way)
