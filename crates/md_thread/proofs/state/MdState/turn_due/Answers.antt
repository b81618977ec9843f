use Rattle.std.proofs.Common.{◌≡◌, Bool, true, None, Option, refl, sym, ◌∙◌, ap, subst}
use Rattle.std.proofs.lemmas.Bool.{false≢true}
use Rattle.std.specs.Prelude.{is_some, IsSome}
use Rattle.store_model.specs.Cases as kind
use Rattle.store_model.specs.Rows.{fill_row}
use Rattle.store_model.specs.StoreState.{JobState}
use Rattle.running_store.specs.StoreView.{rows_of, state_of}
use Rattle.md_thread.specs.Holding.{MetadataState}
use Rattle.md_thread.proofs.StandsNow.{stands}
use Rattle.md_thread.proofs.StepsDue.{used}
use Rattle.md_thread.proofs.StepsMade.{by_closing, by_job, none_of, some_of}
use Rattle.md_thread.proofs.TurnsRepaired.{led, turned}
use Rattle.md_thread.proofs.state.MdState.turn_due.Goals as goal

-- no job is there where one runs
runs_none : {o : Option JobState} {runs : Bool} → runs ≡ is_some o → runs ≡ true → o ≡ None → ⊥
runs_none is runs none =
    false≢true (sym (ap (λ (j : Option JobState). is_some j) none) ∙ sym is ∙ runs)

pub returns-then-job_runs-clause-step : goal.returns-then-job_runs-clause-step
returns-then-job_runs-clause-step g c = λ moved kept.
    let d = g.D.PageDisk in
    let p = c.args.plant.now.at in
    by_job d.tells (state_of d p) (state_of d c.job_turn.new.plant.at) c.args.self.now c.job_turn.new.self
    (some_of p.job (sym c.job_runs.ensures ∙ c.if-job_runs.true)) (c.job_turn.ensures.made kept)

pub returns-then-not-fill_row_is_over-clause-step : goal.returns-then-not-fill_row_is_over-clause-step
returns-then-not-fill_row_is_over-clause-step g c = λ moved kept.
    let d = g.D.PageDisk in
    let p = c.args.plant.now.at in
    let fill = ap (λ (s : MetadataState). s.fill) (sym c.self.view_is)
    ∙ none_of c.self.inside.fill c.if-is_none.ensures in
    let now = stands d c.state_turns.ensures c.args.plant.now c.keeps.ensures in
    let in_hand = used p.filling (rows_of p.rows fill_row) fill_row now.stage now.left
    (λ over. false≢true (sym c.if-not-fill_row_is_over.true ∙ c.fill_row_is_over.ensures.1 over)) in
    by_closing d.tells (state_of d p) (state_of d c.end_fill.new.self.at) c.args.self.now
    (none_of p.job (sym c.job_runs.ensures ∙ c.if-job_runs.false)) fill in_hand c.end_fill.ensures.case.0

pub returns-then-not-fill_row_is_over-clause-repaired : goal.returns-then-not-fill_row_is_over-clause-repaired
returns-then-not-fill_row_is_over-clause-repaired g c =
    turned g.D.PageDisk c.state_turns.ensures c.args.plant.now c.end_fill.new.self c.keeps.ensures
    (kind.ends_fill, c.end_fill.ensures.case.0) c.requires.repaired

pub returns-then-not-fill_row_is_over-clause-leads : goal.returns-then-not-fill_row_is_over-clause-leads
returns-then-not-fill_row_is_over-clause-leads g c =
    led _ _ _ (kind.ends_fill, c.end_fill.ensures.case.0)

pub returns-then-job_runs-clause-stale : goal.returns-then-job_runs-clause-stale
returns-then-job_runs-clause-stale g c = λ none over fill msg comes stale.
    absurd (runs_none c.job_runs.ensures c.if-job_runs.true none)

pub returns-then-not-fill_row_is_over-clause-stale : goal.returns-then-not-fill_row_is_over-clause-stale
returns-then-not-fill_row_is_over-clause-stale g c = λ none over fill msg comes stale.
    absurd (false≢true (sym c.if-not-fill_row_is_over.true ∙ c.fill_row_is_over.ensures.1 over))

pub returns-then-not-fill_row_is_over-clause-job : goal.returns-then-not-fill_row_is_over-clause-job
returns-then-not-fill_row_is_over-clause-job g c = λ runs.
    let bad = subst (λ (j : Option JobState). IsSome j)
    (none_of c.args.plant.now.at.job (sym c.job_runs.ensures ∙ c.if-job_runs.false)) runs in
    absurd (cc bad)

pub returns-then-job_runs-clause-message : goal.returns-then-job_runs-clause-message
returns-then-job_runs-clause-message g c = λ none over fill msg comes low posted.
    absurd (runs_none c.job_runs.ensures c.if-job_runs.true none)

pub returns-then-not-fill_row_is_over-clause-message : goal.returns-then-not-fill_row_is_over-clause-message
returns-then-not-fill_row_is_over-clause-message g c = λ none over fill msg comes low posted.
    absurd (false≢true (sym c.if-not-fill_row_is_over.true ∙ c.fill_row_is_over.ensures.1 over))

pub returns-then-job_runs-clause-nothing : goal.returns-then-job_runs-clause-nothing
returns-then-job_runs-clause-nothing g c = λ none over held fill waits.
    absurd (runs_none c.job_runs.ensures c.if-job_runs.true none)

pub returns-then-not-fill_row_is_over-clause-nothing : goal.returns-then-not-fill_row_is_over-clause-nothing
returns-then-not-fill_row_is_over-clause-nothing g c = λ none over held fill waits.
    absurd (false≢true (sym c.if-not-fill_row_is_over.true ∙ c.fill_row_is_over.ensures.1 over))

pub returns-then-job_runs-clause-closes : goal.returns-then-job_runs-clause-closes
returns-then-job_runs-clause-closes g c = λ none fill in_hand.
    absurd (runs_none c.job_runs.ensures c.if-job_runs.true none)

pub returns-then-not-fill_row_is_over-clause-closes : goal.returns-then-not-fill_row_is_over-clause-closes
returns-then-not-fill_row_is_over-clause-closes g c = λ none fill in_hand. (refl, c.end_fill.ensures.case, refl)
