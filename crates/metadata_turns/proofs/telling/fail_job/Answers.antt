use Rattle.std.proofs.Common.{◌≡◌, ℕ, Option, sym, ◌∙◌, ap, subst}
use Rattle.volume_model.specs.declared.reply.Reply.TheVariants.{Fault}
use Rattle.store_model.specs.Rows.{Answered, Decided}
use Rattle.store_model.specs.StoreState.{JobState}
use Rattle.metadata_turns.specs.JobTurns.{answer_of, stopped_at}
use Rattle.metadata_turns.specs.Telling.{HasFailed, HasWaitingRow}
use Rattle.running_store.specs.GivingBack.{HasWork, IsGivenUp}
use Rattle.running_store.specs.Jobs.{freeze_of}
use Rattle.running_store.specs.Running.{view_of}
use Rattle.running_store.specs.StoreView.{StoreView}
use Rattle.running_store.proofs.WorkLogged.{given_up_rest}
use Rattle.metadata_turns.proofs.telling.fail_job.Goals as goal

-- what is answered goes by whether the store stopped and what job it has
answers_same : {D : Type 0} (p q : StoreView D) → p.stopped ≡ q.stopped → p.job ≡ q.job → answer_of p ≡ answer_of q
answers_same p q stopped job =
    ap (λ (o : Option ℕ). answer_of (record p { stopped = o })) stopped
    ∙ ap (λ (o : Option JobState). answer_of (record p { stopped = q.stopped; job = o })) job

pub give_up-requires-clause-works : goal.give_up-requires-clause-works
give_up-requires-clause-works g c =
    subst (λ (v : StoreView g.row.D.Denot). HasWork v.filling v.rows c.in-Some.row) (sym c.stop-turn.ensures.stopped)
    (subst (HasWaitingRow c.args.running.now.filling c.args.running.now.rows.items) c.in-Some.is c.requires.row)

pub returns-clause-answer : goal.returns-clause-answer
returns-clause-answer g c =
    let works = subst (λ (v : StoreView g.row.D.Denot). HasWork v.filling v.rows c.in-Some.row)
    (sym c.stop-turn.ensures.stopped)
    (subst (HasWaitingRow c.args.running.now.filling c.args.running.now.rows.items) c.in-Some.is c.requires.row) in
    let rest = given_up_rest (view_of c.stop-turn.new.running) (view_of c.give_up.new.running) c.in-Some.row
    (Decided Answered) Fault (g.D.PageDisk.clock c.give_up.new.running.disk) works c.give_up.ensures.logged in
    c.stop-turn.ensures.answer ∙ answers_same (view_of c.stop-turn.new.running) (view_of c.give_up.new.running)
    (sym rest.0) (sym rest.1)

pub returns-clause-failed : goal.returns-clause-failed
returns-clause-failed g c =
    let old = view_of c.args.running.now in
    let q = view_of c.give_up.new.running in
    let freeze = freeze_of c.args.serves in
    subst (λ (o : Option ℕ). HasFailed freeze o old q (g.D.PageDisk.clock q.disk)) (sym c.in-Some.is)
    (subst (λ (v : StoreView g.row.D.Denot). IsGivenUp v q c.in-Some.row (Decided Answered) Fault
    (g.D.PageDisk.clock q.disk)) (c.stop-turn.ensures.stopped ∙ ap (stopped_at old) c.freeze.ensures)
    c.give_up.ensures.logged)
