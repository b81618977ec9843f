use Rattle.std.proofs.Common.{sym, ap, ◌∙◌, false, subst}
use Rattle.running_store.specs.StoreView.{state_of}
use Rattle.md_thread.specs.contracts.state.MdState.{the_view}
use Rattle.md_thread.specs.Holding.{IsHeldOn, LooksForMessage, MakesStep, MetadataState}
use Rattle.md_thread.proofs.state.MdState.md_turn.Goals as goal

pub returns-clause-step : goal.returns-clause-step
returns-clause-step g c = λ moved kept.
    let d = g.D.PageDisk in
    subst
    (λ (x : MetadataState). MakesStep d.tells (state_of d c.args.plant.now.at) c.args.self.now
    (state_of d c.turn_due-turn.new.plant.at) x) (sym c.self.view_is) (c.turn_due-turn.ensures.step moved kept)

pub returns-clause-looks : goal.returns-clause-looks
returns-clause-looks g c = λ idle kept.
    let p = state_of g.D.PageDisk c.args.plant.now.at in
    let looks : LooksForMessage p c.args.self.now (the_view c.self.inside) =
    subst (λ (x : MetadataState). LooksForMessage p c.args.self.now x) (sym c.self.view_is)
    (c.turn_due-turn.ensures.looks idle kept) in
    record { joined = looks.joined; takes = looks.takes; ends = looks.ends }

pub returns-clause-stale : goal.returns-clause-stale
returns-clause-stale g c = λ none over fill msg comes stale.
    let left = c.turn_due-turn.ensures.stale none over fill msg comes stale in (
      left.0,
      left.1,
      ap (λ (s : MetadataState). record s { found_none = false; next = c.next_after-self-inside.result })
          (c.self.view_is ∙ left.2),
    )

pub returns-clause-job : goal.returns-clause-job
returns-clause-job g c = λ runs.
    let made = c.turn_due-turn.ensures.job runs in (
      made.0,
      made.1,
      subst (λ (s : MetadataState). IsHeldOn c.turn_due-turn.new.plant.at.rows c.args.self.now s.held)
          (sym c.self.view_is) made.2,
      ap (λ (s : MetadataState). s.waiting) c.self.view_is ∙ made.3,
    )

pub returns-clause-message : goal.returns-clause-message
returns-clause-message g c = λ none over fill msg comes low posted.
    let made = c.turn_due-turn.ensures.message none over fill msg comes low posted in (
      made.0,
      (
        c.turn_due-turn.new.self,
        made.1,
        ap (λ (s : MetadataState). record s { found_none = false; next = c.next_after-self-inside.result })
            c.self.view_is,
      ),
    )

pub returns-clause-nothing : goal.returns-clause-nothing
returns-clause-nothing g c = λ none over held fill waits.
    let left = c.turn_due-turn.ensures.nothing none over held fill waits in (
      left.0,
      left.1,
      ap (λ (s : MetadataState). record s { found_none = false; next = c.next_after-self-inside.result })
          (c.self.view_is ∙ left.2),
    )

pub returns-clause-closes : goal.returns-clause-closes
returns-clause-closes g c = λ none fill in_hand.
    let made = c.turn_due-turn.ensures.closes none fill in_hand in (
      made.0,
      made.1,
      ap (λ (s : MetadataState). record s { found_none = false; next = c.next_after-self-inside.result })
          (c.self.view_is ∙ made.2),
    )
