-- What stands where a step of the metadata thread is due.
use Rattle.std.proofs.Common.{◌≡◌, ◌⊎◌, inl, inr, nat_lt, if◌then◌else◌, Option, Some, None, Bool, true, false, ◌||◌}
use Rattle.std.proofs.Common.{List, [], ◌∷◌, length, refl, sym, ◌∙◌, subst}
use Rattle.volume_model.specs.declared.reply.Msg.{Msg}
use Rattle.run_work.specs.RunState.{JobInRun, RunState}
use Rattle.run_work.specs.Reading.{has_any, is_in_use, is_there}
use Rattle.run_work.specs.Steps.{can_metadata, CloseStep, due, due_in, FillStep, JobStep, MessageStep, MoveKind}
use Rattle.run_work.specs.Steps.{TakeStep}

-- what stands, for a kind of step
abbrev StandsFor : Bool → Option Msg → Option Msg → Bool → List Msg → List Msg → MoveKind → Type 0
StandsFor job held fill used waiting queue JobStep = job ≡ true
StandsFor job held fill used waiting queue CloseStep = (job ≡ false) × (fill ≡ None) × (used ≡ true)
StandsFor job held fill used waiting queue FillStep =
    (job ≡ false) × (held ≡ None) × ((m : Msg) × (fill ≡ Some m))
StandsFor job held fill used waiting queue TakeStep =
    (job ≡ false) × (held ≡ None) × ((has_any queue ≡ true)
    ⊎ ((job || is_there held || has_any queue || has_any waiting || is_there fill || used) ≡ false))
StandsFor job held fill used waiting queue (MessageStep m) =
    (job ≡ false) × ((held ≡ Some m) ⊎ ((rest : List Msg) × (held ≡ None) × (waiting ≡ m ∷ rest)))

stands_by : (job : Bool) (held fill : Option Msg) (used : Bool) (waiting queue : List Msg)
    → StandsFor job held fill used waiting queue (due job held fill used waiting queue)
stands_by true held fill used waiting queue = refl
stands_by false None None true waiting queue = (refl, refl, refl)
stands_by false (Some ch) None true waiting queue = (refl, refl, refl)
stands_by false (Some ch) None false waiting queue = (refl, inl refl)
stands_by false (Some ch) (Some x) used waiting queue = (refl, inl refl)
stands_by false None (Some x) used waiting (q ∷ queue) = go (nat_lt (length waiting) 16)
  where
    go : (t : Bool) → StandsFor false None (Some x) used waiting (q ∷ queue) (if t then TakeStep else FillStep)
    go true = (refl, refl, inl refl)
    go false = (refl, refl, (x, refl))
stands_by false None (Some x) used waiting [] = (refl, refl, (x, refl))
stands_by false None None false (ch ∷ l) queue = (refl, inr (l, refl, refl))
stands_by false None None false [] (q ∷ queue) = (refl, refl, inl refl)
stands_by false None None false [] [] = (refl, refl, inr refl)

-- ---- of a state

abbrev Stands : RunState → MoveKind → Type 0
Stands w = StandsFor (is_there w.job) w.held w.fill (is_in_use (w.rows 16).stage) w.waiting w.queue

stands : (w : RunState) (kind : MoveKind) → due_in w ≡ kind → Stands w kind
stands w kind is =
    subst (Stands w) is
    (stands_by (is_there w.job) w.held w.fill (is_in_use (w.rows 16).stage) w.waiting w.queue)

no_job : (o : Option JobInRun) → is_there o ≡ false → o ≡ None
no_job None is = refl
no_job (Some j) is = absurd (cc is)

some_job : (o : Option JobInRun) → is_there o ≡ true → (job : JobInRun) × (o ≡ Some job)
some_job None is = absurd (cc is)
some_job (Some j) is = (j, refl)

-- a job, where its turn is due
pub due_job : (w : RunState) → due_in w ≡ JobStep → (job : JobInRun) × (w.job ≡ Some job)
due_job w is = some_job w.job (stands w JobStep is)

-- the own row in use without a fill, where it is to be ended
pub due_close : (w : RunState) → due_in w ≡ CloseStep
    → (w.job ≡ None) × (w.fill ≡ None) × (is_in_use (w.rows 16).stage ≡ true)
due_close w is = let s = stands w CloseStep is in (no_job w.job s.0, s.1, s.2)

-- a fill, and nothing held, where its turn is due
pub due_fill : (w : RunState) → due_in w ≡ FillStep
    → (w.job ≡ None) × (w.held ≡ None) × ((m : Msg) × (w.fill ≡ Some m))
due_fill w is = let s = stands w FillStep is in (no_job w.job s.0, s.1, s.2)

-- a queued message, where one is to be taken
pub due_take : (w : RunState) → can_metadata w ≡ true → due_in w ≡ TakeStep
    → (w.job ≡ None) × (w.held ≡ None) × (has_any w.queue ≡ true)
due_take w can is =
    let s = stands w TakeStep is in (
      no_job w.job s.0,
      s.1,
      elim s.2 [
        | inl some ↦ some
        | inr none ↦ absurd (cc (sym can ∙ none))
      ],
    )

-- the message that is to be served, held or the first that waits
pub due_message : (w : RunState) (m : Msg) → due_in w ≡ MessageStep m
    → (w.job ≡ None) × ((w.held ≡ Some m) ⊎ ((rest : List Msg) × (w.held ≡ None) × (w.waiting ≡ m ∷ rest)))
due_message w m is = let s = stands w (MessageStep m) is in (no_job w.job s.0, s.1)
