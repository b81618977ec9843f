use Rattle.std.proofs.Common.{◌≡◌, List, None, Some, sym, ◌∙◌, ap, subst}
use Rattle.std.specs.Prelude.{IsSome}
use Rattle.volume_model.specs.declared.reply.Msg.{Msg}
use Rattle.run_work.specs.RunFacts.{is_held}
use Rattle.running_store.specs.StoreView.{rows_of, state_of}
use Rattle.md_thread.specs.contracts.state.MdState.{the_view}
use Rattle.md_thread.specs.Holding.{IsKept, MetadataState}
use Rattle.md_thread.specs.Turns.{HasJoined}
use Rattle.md_thread.proofs.Joining.{joined_alone, joined_command, joined_insert, joined_none, kept_waiting}
use Rattle.md_thread.proofs.Joining.{waiting_too}
use Rattle.md_thread.proofs.StandsNow.{works_for_none}
use Rattle.md_thread.proofs.StepsDue.{unused}
use Rattle.md_thread.proofs.state.MdState.let_wait.Goals as goal

pub returns-in_default-clause-joined : goal.returns-in_default-clause-joined
returns-in_default-clause-joined g c = λ kept.
    joined_none (state_of g.D.PageDisk c.args.plant.now.at) c.args.self.now
    (ap (λ (s : MetadataState). s.held) (sym c.self.view_is) ∙ c.in_default.is)

pub returns-then-is_unoccupied-clause-joined : goal.returns-then-is_unoccupied-clause-joined
returns-then-is_unoccupied-clause-joined g c = λ kept.
    let x = c.is_unoccupied.ensures.0 c.if-is_unoccupied.true in
    joined_alone (state_of g.D.PageDisk c.args.plant.now.at) c.args.self.now x.0 x.1

pub returns-then-is_insert-clause-joined : goal.returns-then-is_insert-clause-joined
returns-then-is_insert-clause-joined g c = λ kept.
    joined_insert (state_of g.D.PageDisk c.args.plant.now.at) c.args.self.now c.in-Some.msg
    (ap (λ (s : MetadataState). s.held) (sym c.self.view_is) ∙ c.in-Some.is)
    (c.is_insert.ensures.insert c.if-is_insert.true)

pub returns-then-is_insert-clause-held : goal.returns-then-is_insert-clause-held
returns-then-is_insert-clause-held g c = λ msg held posted.
    let own = ap (λ (s : MetadataState). s.held) (sym c.self.view_is) ∙ c.in-Some.is in
    let both : Some c.in-Some.msg ≡ Some msg = sym own ∙ held in
    let same : c.in-Some.msg ≡ msg = cc both in
    let some = subst (λ (m : Msg). IsSome (rows_of c.args.plant.now.at.rows m.channel).claim) same
    (c.is_insert.ensures.insert c.if-is_insert.true) in
    absurd (let bad = subst IsSome posted.unclaimed some in cc bad)

pub returns-clause-joined : goal.returns-clause-joined
returns-clause-joined g c = λ kept.
    let s = state_of g.D.PageDisk c.args.plant.now.at in
    let x = the_view c.self.inside in
    let own = ap (λ (s : MetadataState). s.held) (sym c.self.view_is) ∙ c.in-Some.is in
    subst (λ (l : List Msg). HasJoined s c.args.self.now (record x { held = None; waiting = l })) (sym c.push.ensures)
    (subst (λ (y : MetadataState). HasJoined s y (waiting_too x c.in-Some.msg)) c.self.view_is
    (joined_command s x c.in-Some.msg c.in-Some.is c.requires.no_job
    (λ none. unused (s.rows 16) 16 (c.requires.over (ap (λ (y : MetadataState). y.fill) (sym c.self.view_is) ∙ none)))
    (c.is_insert.ensures.command c.if-is_insert.false (kept.current c.in-Some.msg (is_held own)).1)
    (λ none alone. let bad = sym c.if-is_unoccupied.false ∙ c.is_unoccupied.ensures.1 (
      ap (λ (y : MetadataState). y.fill) (sym c.self.view_is) ∙ none,
      ap (λ (y : MetadataState). y.waiting) (sym c.self.view_is) ∙ alone,
    ) in cc bad)))

pub returns-clause-kept : goal.returns-clause-kept
returns-clause-kept g c = λ kept.
    let x = the_view c.self.inside in
    subst (λ (l : List Msg). IsKept g.D.PageDisk c.args.plant.now.at (record x { held = None; waiting = l }))
    (sym c.push.ensures)
    (kept_waiting g.D.PageDisk c.args.plant.now.at x c.in-Some.msg c.in-Some.is
    (λ none. works_for_none g.D.PageDisk c.state_turns.ensures c.args.plant.now c.keeps.ensures
    (c.requires.over (ap (λ (y : MetadataState). y.fill) (sym c.self.view_is) ∙ none)))
    (subst (IsKept g.D.PageDisk c.args.plant.now.at) (sym c.self.view_is) kept))

pub returns-clause-alone : goal.returns-clause-alone
returns-clause-alone g c = λ fill alone.
    absurd (let bad = sym c.if-is_unoccupied.false ∙ c.is_unoccupied.ensures.1 (fill, alone) in cc bad)
