use Rattle.std.proofs.Common.{◌≡◌, ◌≢◌, ◌<◌, List, ◌∷◌, None, sym, ◌∙◌, ap, refl, subst, inl}
use Rattle.volume_model.specs.declared.reply.Msg.{Msg}
use Rattle.store_model.specs.Rows.{Posted}
use Rattle.run_work.specs.RunFacts.{is_waiting, IsOneOf}
use Rattle.running_store.specs.StoreView.{rows_of, state_of}
use Rattle.md_thread.specs.contracts.state.MdState.{the_view}
use Rattle.md_thread.specs.Holding.{IsKept, MetadataState}
use Rattle.md_thread.specs.Turns.{FillMade, ServiceMade}
use Rattle.md_thread.proofs.FillMade.{fill_asked, fill_ended, fill_went_on}
use Rattle.md_thread.proofs.Joining.{kept_without_first}
use Rattle.md_thread.proofs.StepsDue.{unused}
use Rattle.md_thread.proofs.StepsMade.{by_fill, by_first}
use Rattle.md_thread.proofs.state.MdState.turn_without_held.Goals as goal

pub returns-in-Ended-clause-acts : goal.returns-in-Ended-clause-acts
returns-in-Ended-clause-acts g c = λ moved kept.
    let d = g.D.PageDisk in
    let p = c.args.plant.now.at in
    let q = c.fill_turn.new.plant.at in
    let own = c.args.self.now in
    let fills = ap (λ (x : MetadataState). x.fill) (sym c.self.view_is) ∙ c.in-Some.is in
    by_fill d.tells (state_of d p) (state_of d q) own (record (the_view c.self.inside) { fill = None })
    c.requires.no_job c.in-Some.msg c.requires.held fills
    (c.is_fill_due.ensures.due c.if-not-is_fill_due.false)
    (subst
    (λ (x : MetadataState). FillMade d.tells (state_of d p) (state_of d q) c.in-Some.msg own (record x { fill = None }))
    (sym c.self.view_is)
    (fill_ended d p q own kept c.in-Some.msg fills c.fill_turn.result c.fill_turn.ensures.moves c.in-Ended.is))

pub returns-in-GoesOn-clause-acts : goal.returns-in-GoesOn-clause-acts
returns-in-GoesOn-clause-acts g c = λ moved kept.
    let d = g.D.PageDisk in
    let p = c.args.plant.now.at in
    let q = c.fill_turn.new.plant.at in
    let own = c.args.self.now in
    let fills = ap (λ (x : MetadataState). x.fill) (sym c.self.view_is) ∙ c.in-Some.is in
    by_fill d.tells (state_of d p) (state_of d q) own own c.requires.no_job c.in-Some.msg c.requires.held fills
    (c.is_fill_due.ensures.due c.if-not-is_fill_due.false)
    (fill_went_on d p q own kept c.in-Some.msg fills c.fill_turn.result c.fill_turn.ensures.moves c.in-GoesOn.is)

pub returns-in-GoesOn-clause-asked : goal.returns-in-GoesOn-clause-asked
returns-in-GoesOn-clause-asked g c = λ kept.
    let d = g.D.PageDisk in
    let p = c.args.plant.now.at in
    let q = c.fill_turn.new.plant.at in
    let fills = ap (λ (x : MetadataState). x.fill) (sym c.self.view_is) ∙ c.in-Some.is in
    fill_asked d p q c.args.self.now kept c.in-Some.msg fills c.fill_turn.result c.fill_turn.ensures.moves
    c.in-GoesOn.is

pub returns-in-Some-take_oldest-clause-acts : goal.returns-in-Some-take_oldest-clause-acts
returns-in-Some-take_oldest-clause-acts g c = λ moved kept.
    let d = g.D.PageDisk in
    let s = state_of d c.args.plant.now.at in
    let q = state_of d c.serve.new.plant.at in
    let own = c.args.self.now in
    let msg = c.in-Some-take_oldest.msg in
    let rest = c.take_oldest.new.self in
    let fill = ap (λ (x : MetadataState). x.fill) (sym c.self.view_is) ∙ c.in_default.is in
    let waits = ap (λ (x : MetadataState). x.waiting) (sym c.self.view_is) ∙ c.in-Some-take_oldest.ensures.oldest in
    let current = kept.current msg (is_waiting (subst (IsOneOf msg) (sym waits) (inl refl))) in
    by_first d.tells s q own c.serve.new.self c.requires.no_job msg rest c.requires.held fill
    (unused (s.rows 16) 16 (c.requires.over fill)) waits
    (subst (λ (x : MetadataState). ServiceMade d.tells s q msg (record x { waiting = rest }) c.serve.new.self)
    c.self.view_is (c.serve.ensures.made current.0 current.1))

pub returns-in-Some-take_oldest-clause-asked : goal.returns-in-Some-take_oldest-clause-asked
returns-in-Some-take_oldest-clause-asked g c = λ kept.
    let d = g.D.PageDisk in
    let p = c.args.plant.now.at in
    let msg = c.in-Some-take_oldest.msg in
    let rest = c.take_oldest.new.self in
    let waits = ap (λ (x : MetadataState). x.waiting) (sym c.self.view_is) ∙ c.in-Some-take_oldest.ensures.oldest in
    let current = kept.current msg (is_waiting (subst (IsOneOf msg) (sym waits) (inl refl))) in
    c.serve.ensures.asked current.0 current.1
    (subst (λ (x : MetadataState). IsKept d p (record x { waiting = rest })) (sym c.self.view_is)
    (kept_without_first d p c.args.self.now msg rest waits kept))

pub returns-in-Ended-clause-stale : goal.returns-in-Ended-clause-stale
returns-in-Ended-clause-stale g c = λ none msg rest waits stale.
    let fills = ap (λ (x : MetadataState). x.fill) (sym c.self.view_is) ∙ c.in-Some.is in
    absurd (let bad = sym none ∙ fills in cc bad)

pub returns-in-GoesOn-clause-stale : goal.returns-in-GoesOn-clause-stale
returns-in-GoesOn-clause-stale g c = λ none msg rest waits stale.
    let fills = ap (λ (x : MetadataState). x.fill) (sym c.self.view_is) ∙ c.in-Some.is in
    absurd (let bad = sym none ∙ fills in cc bad)

pub returns-then-not-is_fill_due-clause-stale : goal.returns-then-not-is_fill_due-clause-stale
returns-then-not-is_fill_due-clause-stale g c = λ none msg rest waits stale.
    let fills = ap (λ (x : MetadataState). x.fill) (sym c.self.view_is) ∙ c.in-Some.is in
    absurd (let bad = sym none ∙ fills in cc bad)

pub returns-in-Some-take_oldest-clause-stale : goal.returns-in-Some-take_oldest-clause-stale
returns-in-Some-take_oldest-clause-stale g c = λ none msg rest waits stale.
    let first = c.in-Some-take_oldest.msg in
    let own = ap (λ (x : MetadataState). x.waiting) (sym c.self.view_is) ∙ c.in-Some-take_oldest.ensures.oldest in
    let both : first ∷ c.take_oldest.new.self ≡ msg ∷ rest = sym own ∙ waits in
    let same : first ≡ msg = cc both in
    let left : c.take_oldest.new.self ≡ rest = cc both in
    let kept = c.serve.ensures.stale
    (subst (λ (m : Msg). (rows_of c.args.plant.now.at.rows m.channel).stage ≢ Posted m.serial) (sym same) stale) in (
      refl,
      kept.0,
      kept.1 ∙ ap (λ (l : List Msg). record (the_view c.self.inside) { waiting = l }) left
          ∙ ap (λ (x : MetadataState). record x { waiting = rest }) c.self.view_is,
    )

pub returns-in-None-clause-stale : goal.returns-in-None-clause-stale
returns-in-None-clause-stale g c = λ none msg rest waits stale.
    let own = ap (λ (x : MetadataState). x.waiting) (sym c.self.view_is) ∙ c.in-None.ensures.none in
    absurd (let bad = sym own ∙ waits in cc bad)

pub returns-in-Ended-clause-message : goal.returns-in-Ended-clause-message
returns-in-Ended-clause-message g c = λ none msg rest waits low posted.
    let fills = ap (λ (x : MetadataState). x.fill) (sym c.self.view_is) ∙ c.in-Some.is in
    absurd (let bad = sym none ∙ fills in cc bad)

pub returns-in-GoesOn-clause-message : goal.returns-in-GoesOn-clause-message
returns-in-GoesOn-clause-message g c = λ none msg rest waits low posted.
    let fills = ap (λ (x : MetadataState). x.fill) (sym c.self.view_is) ∙ c.in-Some.is in
    absurd (let bad = sym none ∙ fills in cc bad)

pub returns-then-not-is_fill_due-clause-message : goal.returns-then-not-is_fill_due-clause-message
returns-then-not-is_fill_due-clause-message g c = λ none msg rest waits low posted.
    let fills = ap (λ (x : MetadataState). x.fill) (sym c.self.view_is) ∙ c.in-Some.is in
    absurd (let bad = sym none ∙ fills in cc bad)

pub returns-in-Ended-clause-nothing : goal.returns-in-Ended-clause-nothing
returns-in-Ended-clause-nothing g c = λ none empty.
    let fills = ap (λ (x : MetadataState). x.fill) (sym c.self.view_is) ∙ c.in-Some.is in
    absurd (let bad = sym none ∙ fills in cc bad)

pub returns-in-GoesOn-clause-nothing : goal.returns-in-GoesOn-clause-nothing
returns-in-GoesOn-clause-nothing g c = λ none empty.
    let fills = ap (λ (x : MetadataState). x.fill) (sym c.self.view_is) ∙ c.in-Some.is in
    absurd (let bad = sym none ∙ fills in cc bad)

pub returns-in-Some-take_oldest-clause-message : goal.returns-in-Some-take_oldest-clause-message
returns-in-Some-take_oldest-clause-message g c = λ none msg rest waits low posted.
    let d = g.D.PageDisk in
    let p = c.args.plant.now.at in
    let first = c.in-Some-take_oldest.msg in
    let own = ap (λ (x : MetadataState). x.waiting) (sym c.self.view_is) ∙ c.in-Some-take_oldest.ensures.oldest in
    let both : first ∷ c.take_oldest.new.self ≡ msg ∷ rest = sym own ∙ waits in
    let same : first ≡ msg = cc both in
    let left : c.take_oldest.new.self ≡ rest = cc both in
    let without : record (the_view c.self.inside) { waiting = c.take_oldest.new.self }
    ≡ record c.args.self.now { waiting = rest }
    = ap (λ (l : List Msg). record (the_view c.self.inside) { waiting = l }) left
    ∙ ap (λ (x : MetadataState). record x { waiting = rest }) c.self.view_is in
    let made = c.serve.ensures.made (subst (λ (m : Msg). m.channel < 16) (sym same) low)
    (subst (λ (m : Msg). (rows_of p.rows m.channel).stage ≡ Posted m.serial) (sym same) posted) in (
      refl,
      subst (λ (m : Msg). ServiceMade d.tells (state_of d p) (state_of d c.serve.new.plant.at) m
          (record c.args.self.now { waiting = rest }) c.serve.new.self) same
          (subst (λ (x : MetadataState). ServiceMade d.tells (state_of d p) (state_of d c.serve.new.plant.at) first x
          c.serve.new.self) without made),
    )

pub returns-in-Some-take_oldest-clause-nothing : goal.returns-in-Some-take_oldest-clause-nothing
returns-in-Some-take_oldest-clause-nothing g c = λ none empty.
    let own = ap (λ (x : MetadataState). x.waiting) (sym c.self.view_is) ∙ c.in-Some-take_oldest.ensures.oldest in
    absurd (let bad = sym own ∙ empty in cc bad)

pub returns-in-None-clause-message : goal.returns-in-None-clause-message
returns-in-None-clause-message g c = λ none msg rest waits low posted.
    let own = ap (λ (x : MetadataState). x.waiting) (sym c.self.view_is) ∙ c.in-None.ensures.none in
    absurd (let bad = sym own ∙ waits in cc bad)
