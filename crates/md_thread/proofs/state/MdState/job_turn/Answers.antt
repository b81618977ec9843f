use Rattle.std.proofs.Common.{◌≡◌, None, Some, refl, sym, ap, ◌∙◌, subst}
use Rattle.store_model.specs.Filling.{IsFilledFor}
use Rattle.volume_model.specs.declared.reply.Msg.{Msg}
use Rattle.run_moves.specs.FillTurns.{worked_for}
use Rattle.running_store.specs.StoreView.{rows_of, state_of}
use Rattle.md_thread.specs.Holding.{IsHeldOn, MetadataState, still_held}
use Rattle.md_thread.specs.Turns.{JobMade}
use Rattle.md_thread.proofs.JobsMade.{asked_current, held_on, made_current, made_stale, made_without, none_of_both}
use Rattle.md_thread.proofs.JobsMade.{posted_now, stale_now}
use Rattle.md_thread.proofs.StandsNow.{stands}
use Rattle.md_thread.proofs.TurnsRepaired.{led, turned}
use Rattle.md_thread.proofs.state.MdState.job_turn.Goals as goal

pub returns-then-is_err-clause-turn : goal.returns-then-is_err-clause-turn
returns-then-is_err-clause-turn g c =
    let q = c.job_turn.new.self.at in (
      c.job_turn.ensures.case,
      subst (λ (x : MetadataState). IsHeldOn q.rows c.args.self.now x.held) (sym c.let_go.ensures)
          (held_on q.rows c.args.self.now c.in-Some.msg (sym c.worked_for.ensures ∙ c.in-Some.is)
          (stale_now q.rows c.in-Some.msg c.request.result c.request.ensures.stale (c.is_err.ensures.value)
          c.if-is_err.true)),
      ap (λ (x : MetadataState). x.waiting) c.let_go.ensures,
    )

pub returns-else-is_err-clause-turn : goal.returns-else-is_err-clause-turn
returns-else-is_err-clause-turn g c = (c.job_turn.ensures.case, still_held refl, refl)

pub returns-in_default-clause-turn : goal.returns-in_default-clause-turn
returns-in_default-clause-turn g c = (c.job_turn.ensures.case, still_held refl, refl)

pub returns-then-is_err-clause-made : goal.returns-then-is_err-clause-made
returns-then-is_err-clause-made g c = λ kept.
    let d = g.D.PageDisk in
    let p = c.args.plant.now.at in
    let q = c.job_turn.new.self.at in
    let now = stands d c.state_turns.ensures c.args.plant.now c.keeps.ensures in
    subst (λ (x : MetadataState). JobMade d.tells (state_of d p) (state_of d q) c.args.self.now x)
    (sym c.let_go.ensures)
    (made_stale d p q now c.args.self.now kept c.in-Some.msg (sym c.worked_for.ensures ∙ c.in-Some.is)
    (stale_now q.rows c.in-Some.msg c.request.result c.request.ensures.stale
    (c.is_err.ensures.value) c.if-is_err.true) c.job_turn.ensures.case)

pub returns-else-is_err-clause-made : goal.returns-else-is_err-clause-made
returns-else-is_err-clause-made g c = λ kept.
    let d = g.D.PageDisk in
    let p = c.args.plant.now.at in
    let q = c.job_turn.new.self.at in
    let now = stands d c.state_turns.ensures c.args.plant.now c.keeps.ensures in
    made_current d p q now c.args.self.now kept c.in-Some.msg (sym c.worked_for.ensures ∙ c.in-Some.is)
    (posted_now q.rows c.in-Some.msg c.request.result c.request.ensures.found
    (c.is_err.ensures.value) c.if-is_err.false) c.job_turn.ensures.case

pub returns-in_default-clause-made : goal.returns-in_default-clause-made
returns-in_default-clause-made g c = λ kept.
    let d = g.D.PageDisk in
    let p = c.args.plant.now.at in
    let q = c.job_turn.new.self.at in
    let now = stands d c.state_turns.ensures c.args.plant.now c.keeps.ensures in
    made_without d p q now c.args.self.now kept (sym c.worked_for.ensures ∙ c.in_default.is) c.job_turn.ensures.case

pub returns-then-is_err-clause-asked : goal.returns-then-is_err-clause-asked
returns-then-is_err-clause-asked g c = λ kept msg fills.
    let bad : None ≡ Some msg = sym (ap (λ (x : MetadataState). x.fill) c.let_go.ensures) ∙ fills in absurd (cc bad)

pub returns-else-is_err-clause-asked : goal.returns-else-is_err-clause-asked
returns-else-is_err-clause-asked g c = λ kept msg fills.
    let d = g.D.PageDisk in
    let p = c.args.plant.now.at in
    let q = c.job_turn.new.self.at in
    let own = c.args.self.now in
    let now = stands d c.state_turns.ensures c.args.plant.now c.keeps.ensures in
    let worked = sym c.worked_for.ensures ∙ c.in-Some.is in
    let both : Some c.in-Some.msg ≡ Some msg = sym worked ∙ ap (λ o. worked_for o own.held) fills in
    let same : c.in-Some.msg ≡ msg = cc both in
    subst (λ (m : Msg). IsFilledFor (rows_of q.rows m.channel)) same
    (asked_current d p q now own kept c.in-Some.msg worked (fills ∙ sym both)
    (posted_now q.rows c.in-Some.msg c.request.result c.request.ensures.found
    (c.is_err.ensures.value) c.if-is_err.false) c.job_turn.ensures.case)

pub returns-in_default-clause-asked : goal.returns-in_default-clause-asked
returns-in_default-clause-asked g c = λ kept msg fills.
    let own = c.args.self.now in
    let none = none_of_both own.fill own.held (sym c.worked_for.ensures ∙ c.in_default.is) in
    let bad : None ≡ Some msg = sym none.0 ∙ fills in absurd (cc bad)

pub returns-then-is_err-clause-repaired : goal.returns-then-is_err-clause-repaired
returns-then-is_err-clause-repaired g c =
    let turn = c.job_turn.ensures.case in
    turned g.D.PageDisk c.state_turns.ensures c.args.plant.now c.job_turn.new.self c.keeps.ensures
    (turn.kind, turn.made.0) c.requires.repaired

pub returns-then-is_err-clause-leads : goal.returns-then-is_err-clause-leads
returns-then-is_err-clause-leads g c =
    let turn = c.job_turn.ensures.case in
    led _ _ _ (turn.kind, turn.made.0)

pub returns-else-is_err-clause-repaired : goal.returns-else-is_err-clause-repaired
returns-else-is_err-clause-repaired g c =
    let turn = c.job_turn.ensures.case in
    turned g.D.PageDisk c.state_turns.ensures c.args.plant.now c.job_turn.new.self c.keeps.ensures
    (turn.kind, turn.made.0) c.requires.repaired

pub returns-else-is_err-clause-leads : goal.returns-else-is_err-clause-leads
returns-else-is_err-clause-leads g c =
    let turn = c.job_turn.ensures.case in
    led _ _ _ (turn.kind, turn.made.0)

pub returns-in_default-clause-repaired : goal.returns-in_default-clause-repaired
returns-in_default-clause-repaired g c =
    let turn = c.job_turn.ensures.case in
    turned g.D.PageDisk c.state_turns.ensures c.args.plant.now c.job_turn.new.self c.keeps.ensures
    (turn.kind, turn.made.0) c.requires.repaired

pub returns-in_default-clause-leads : goal.returns-in_default-clause-leads
returns-in_default-clause-leads g c =
    let turn = c.job_turn.ensures.case in
    led _ _ _ (turn.kind, turn.made.0)
