use Rattle.std.proofs.Common.{◌≡◌, ◌≢◌, ◌⊎◌, ◌<◌, false, true, length, List, [], ◌∷◌, Option, None, Some, refl, sym}
use Rattle.std.proofs.Common.{◌∙◌}
use Rattle.std.proofs.Common.{ap, subst, inl, inr}
use Rattle.volume_model.specs.declared.reply.Msg.{Msg}
use Rattle.store_model.specs.Filling.{IsFilledFor}
use Rattle.store_model.specs.Rows.{Posted}
use Rattle.run_work.specs.RunFacts.{is_held}
use Rattle.running_store.specs.StoreView.{rows_of, state_of}
use Rattle.md_thread.specs.contracts.state.MdState.{the_view}
use Rattle.md_thread.specs.Holding.{IsKept, LooksForMessage, looks_first, MetadataState, the_first, the_held}
use Rattle.md_thread.specs.Holding.{without_next}
use Rattle.md_thread.specs.Turns.{ActsNow, ServiceMade}
use Rattle.md_thread.specs.declared.state.Turn.TheVariants.{Idle, Moved}
use Rattle.md_thread.proofs.Dropped.{first_away, held_away}
use Rattle.md_thread.proofs.Joining.{kept_without_held}
use Rattle.md_thread.proofs.StandsNow.{works_for_none}
use Rattle.md_thread.proofs.StepsDue.{unused}
use Rattle.md_thread.proofs.StepsMade.{by_held, by_joining, few_wait, first_held, looks}
use Rattle.md_thread.proofs.state.MdState.serve_or_fill.Goals as goal

-- where nothing was held, nothing was taken
none_taken : (s : MetadataState) {taken left : Option Msg} → left ≡ None → taken ≡ s.held → taken ≡ None
    → record s { held = left } ≡ s
none_taken s after value none = ap (λ o. record s { held = o }) (after ∙ sym none ∙ value)

pub returns-in-Some-clause-step : goal.returns-in-Some-clause-step
returns-in-Some-clause-step g c = λ moved kept.
    let d = g.D.PageDisk in
    let s = state_of d c.args.plant.now.at in
    let q = state_of d c.serve.new.plant.at in
    let m = c.let_wait.new.self in
    let held = ap (λ (x : MetadataState). x.held) (sym c.self.view_is) ∙ sym c.take.ensures.value ∙ c.in-Some.is in
    let current = (c.let_wait.ensures.kept kept).current c.in-Some.msg (is_held held) in
    by_joining d.tells s q c.args.self.now m c.serve.new.self (c.let_wait.ensures.joined kept)
    c.let_wait.ensures.fill.1
    (by_held d.tells s q m c.serve.new.self c.requires.no_job c.in-Some.msg held
    (λ none. unused (s.rows 16) 16 (c.requires.over (sym c.let_wait.ensures.fill.0 ∙ none)))
    (subst
    (λ (x : MetadataState). ServiceMade d.tells s q c.in-Some.msg (record x { held = None }) c.serve.new.self)
    c.self.view_is
    (subst
    (λ o. ServiceMade d.tells s q c.in-Some.msg (record (the_view c.self.inside) { held = o }) c.serve.new.self)
    c.take.ensures.after (c.serve.ensures.made current.0 current.1))))

pub returns-in-Some-clause-asked : goal.returns-in-Some-clause-asked
returns-in-Some-clause-asked g c = λ kept.
    let d = g.D.PageDisk in
    let p = c.args.plant.now.at in
    let kept_then = c.let_wait.ensures.kept kept in
    let held = ap (λ (x : MetadataState). x.held) (sym c.self.view_is) ∙ sym c.take.ensures.value ∙ c.in-Some.is in
    let current = kept_then.current c.in-Some.msg (is_held held) in
    c.serve.ensures.asked current.0 current.1
    (subst (λ o. IsKept d p (record (the_view c.self.inside) { held = o })) (sym c.take.ensures.after)
    (kept_without_held d p (the_view c.self.inside)
    (λ none. works_for_none d c.state_turns.ensures c.args.plant.now c.keeps.ensures
    (c.requires.over (sym c.let_wait.ensures.fill.0 ∙ ap (λ (x : MetadataState). x.fill) (sym c.self.view_is) ∙ none)))
    (subst (IsKept d p) (sym c.self.view_is) kept_then)))

pub serve-requires-clause-unfilled : goal.serve-requires-clause-unfilled
serve-requires-clause-unfilled g c = λ posted.
    let held = ap (λ (x : MetadataState). x.held) (sym c.self.view_is) ∙ sym c.take.ensures.value ∙ c.in-Some.is in
    ap (λ (x : MetadataState). x.fill) c.self.view_is ∙ (c.let_wait.ensures.held c.in-Some.msg held posted).0

pub returns-in-None-clause-step : goal.returns-in-None-clause-step
returns-in-None-clause-step g c = λ moved kept.
    let d = g.D.PageDisk in
    let s = state_of d c.args.plant.now.at in
    let q = state_of d c.turn_without_held.new.plant.at in
    let m = c.let_wait.new.self in
    let same = none_taken (the_view c.self.inside) c.take.ensures.after c.take.ensures.value c.in-None.is
    ∙ c.self.view_is in
    by_joining d.tells s q c.args.self.now m c.turn_without_held.new.self (c.let_wait.ensures.joined kept)
    c.let_wait.ensures.fill.1
    (subst
    (λ (x : MetadataState). IsKept d c.args.plant.now.at x → ActsNow d.tells s q x c.turn_without_held.new.self) same
    (c.turn_without_held.ensures.acts moved) (c.let_wait.ensures.kept kept))

pub returns-in-None-clause-asked : goal.returns-in-None-clause-asked
returns-in-None-clause-asked g c = λ kept.
    let d = g.D.PageDisk in
    let p = c.args.plant.now.at in
    let same = none_taken (the_view c.self.inside) c.take.ensures.after c.take.ensures.value c.in-None.is
    ∙ c.self.view_is in
    subst
    (λ (x : MetadataState). IsKept d p x → (msg : Msg) → c.turn_without_held.new.self.fill ≡ Some msg
    → IsFilledFor (rows_of c.turn_without_held.new.plant.at.rows msg.channel)) same
    c.turn_without_held.ensures.asked (c.let_wait.ensures.kept kept)

pub returns-in-None-clause-looks : goal.returns-in-None-clause-looks
returns-in-None-clause-looks g c = λ idle kept.
    let d = g.D.PageDisk in
    let s = state_of d c.args.plant.now.at in
    let own = c.args.self.now in
    let m = c.let_wait.new.self in
    let same = none_taken (the_view c.self.inside) c.take.ensures.after c.take.ensures.value c.in-None.is
    ∙ c.self.view_is in
    let none = ap (λ (x : MetadataState). x.held) (sym c.self.view_is) ∙ sym c.take.ensures.value ∙ c.in-None.is in
    let why = subst
    (λ (x : MetadataState). ((x.fill ≡ None) × (x.waiting ≡ []))
    ⊎ ((x.found_none ≡ false) × (x.fill ≢ None) × (length x.waiting < 16))) same
    (c.turn_without_held.ensures.looks idle) in
    subst (λ (x : MetadataState). LooksForMessage s own x)
    (sym ((c.turn_without_held.ensures.idle idle).1 ∙ same))
    (looks s own m c.requires.no_job (c.let_wait.ensures.joined kept) c.let_wait.ensures.none none
    (λ e. unused (s.rows 16) 16 (c.requires.over (sym c.let_wait.ensures.fill.0 ∙ e))) (elim why [
      | inl x ↦ inl x
      | inr x ↦ inr (sym c.let_wait.ensures.fill.1 ∙ x.0, x.1, x.2)
    ]))

pub returns-in-None-clause-idle : goal.returns-in-None-clause-idle
returns-in-None-clause-idle g c = λ idle.
    let same = none_taken (the_view c.self.inside) c.take.ensures.after c.take.ensures.value c.in-None.is
    ∙ c.self.view_is in
    let none = ap (λ (x : MetadataState). x.held) (sym c.self.view_is) ∙ sym c.take.ensures.value ∙ c.in-None.is in
    let left = (c.turn_without_held.ensures.idle idle).1 in (
      (c.turn_without_held.ensures.idle idle).0,
      ap (λ (x : MetadataState). x.held) (left ∙ same) ∙ none,
      subst (λ (x : MetadataState). length x.waiting < 16) (sym left)
          (few_wait (record (the_view c.self.inside) { held = c.take.new.self })
          (c.turn_without_held.ensures.looks idle)),
    )

pub returns-in-None-clause-first : goal.returns-in-None-clause-first
returns-in-None-clause-first g c = λ first found.
    let own = c.args.self.now in
    let p = c.args.plant.now.at in
    let same = none_taken (the_view c.self.inside) c.take.ensures.after c.take.ensures.value c.in-None.is
    ∙ c.self.view_is ∙ c.let_wait.ensures.first (first_held p.job own first) in
    subst
    (λ (x : MetadataState). looks_first p.job x ≡ true → x.found_none ≡ false
    → c.turn_without_held.result ≡ Idle) same c.turn_without_held.ensures.first first found

pub returns-in-Some-clause-stale : goal.returns-in-Some-clause-stale
returns-in-Some-clause-stale g c = λ none msg comes stale.
    let now = c.args.self.now in
    let own = ap (λ (x : MetadataState). x.held) (sym c.self.view_is) ∙ sym c.take.ensures.value ∙ c.in-Some.is in
    elim comes [
      | the_held held alone ↦
          let same = c.let_wait.ensures.alone none alone in
          let both : Some c.in-Some.msg ≡ Some msg =
          sym own ∙ ap (λ (x : MetadataState). x.held) same ∙ held in
          let is : c.in-Some.msg ≡ msg = cc both in
          let kept = c.serve.ensures.stale
          (subst (λ (m : Msg). (rows_of c.args.plant.now.at.rows m.channel).stage ≢ Posted m.serial) (sym is) stale)
          in (
            refl,
            kept.0,
            kept.1 ∙ ap (λ o. record (the_view c.self.inside) { held = o }) c.take.ensures.after
                ∙ ap (λ (x : MetadataState). record x { held = None }) (c.self.view_is ∙ same) ∙ held_away now msg held,
          )
      | the_first empty rest waits ↦
          let same = c.let_wait.ensures.first empty in
          absurd (let bad = sym own ∙ ap (λ (x : MetadataState). x.held) same ∙ empty in cc bad)
    ]

pub returns-in-None-clause-stale : goal.returns-in-None-clause-stale
returns-in-None-clause-stale g c = λ none msg comes stale.
    let now = c.args.self.now in
    let p = c.args.plant.now in
    let same = none_taken (the_view c.self.inside) c.take.ensures.after c.take.ensures.value c.in-None.is
    ∙ c.self.view_is in
    let own = ap (λ (x : MetadataState). x.held) (sym c.self.view_is) ∙ sym c.take.ensures.value ∙ c.in-None.is in
    elim comes [
      | the_held held alone ↦
          let is = c.let_wait.ensures.alone none alone in
          absurd (let bad = sym own ∙ ap (λ (x : MetadataState). x.held) is ∙ held in cc bad)
      | the_first empty rest waits ↦
          let made = subst
          (λ (x : MetadataState). x.fill ≡ None → (m : Msg) → (l : List Msg) → x.waiting ≡ m ∷ l
          → (rows_of p.at.rows m.channel).stage ≢ Posted m.serial
          → (c.turn_without_held.result ≡ Moved) × (c.turn_without_held.new.plant ≡ p)
          × (c.turn_without_held.new.self ≡ record x { waiting = l })) (same ∙ c.let_wait.ensures.first empty)
          c.turn_without_held.ensures.stale none msg rest waits stale in
          (made.0, made.1, made.2 ∙ first_away now msg empty rest waits)
    ]

pub returns-in-Some-clause-message : goal.returns-in-Some-clause-message
returns-in-Some-clause-message g c = λ none msg comes low posted.
    let d = g.D.PageDisk in
    let p = c.args.plant.now.at in
    let q = c.serve.new.plant.at in
    let now = c.args.self.now in
    let own = ap (λ (x : MetadataState). x.held) (sym c.self.view_is) ∙ sym c.take.ensures.value ∙ c.in-Some.is in
    elim comes [
      | the_held held alone ↦
          let same = c.let_wait.ensures.alone none alone in
          let both : Some c.in-Some.msg ≡ Some msg =
          sym own ∙ ap (λ (x : MetadataState). x.held) same ∙ held in
          let is : c.in-Some.msg ≡ msg = cc both in
          let without = ap (λ o. record (the_view c.self.inside) { held = o }) c.take.ensures.after
          ∙ ap (λ (x : MetadataState). record x { held = None }) (c.self.view_is ∙ same) ∙ held_away now msg held in
          let made = c.serve.ensures.made (subst (λ (m : Msg). m.channel < 16) (sym is) low)
          (subst (λ (m : Msg). (rows_of p.rows m.channel).stage ≡ Posted m.serial) (sym is) posted) in (
            refl,
            subst (λ (m : Msg). ServiceMade d.tells (state_of d p) (state_of d q) m (without_next now) c.serve.new.self)
                is
                (subst (λ (x : MetadataState). ServiceMade d.tells (state_of d p) (state_of d q) c.in-Some.msg x
                c.serve.new.self) without made),
          )
      | the_first empty rest waits ↦
          let same = c.let_wait.ensures.first empty in
          absurd (let bad = sym own ∙ ap (λ (x : MetadataState). x.held) same ∙ empty in cc bad)
    ]

pub returns-in-None-clause-message : goal.returns-in-None-clause-message
returns-in-None-clause-message g c = λ none msg comes low posted.
    let d = g.D.PageDisk in
    let now = c.args.self.now in
    let p = c.args.plant.now in
    let q = c.turn_without_held.new.plant.at in
    let same = none_taken (the_view c.self.inside) c.take.ensures.after c.take.ensures.value c.in-None.is
    ∙ c.self.view_is in
    let own = ap (λ (x : MetadataState). x.held) (sym c.self.view_is) ∙ sym c.take.ensures.value ∙ c.in-None.is in
    elim comes [
      | the_held held alone ↦
          let is = c.let_wait.ensures.alone none alone in
          absurd (let bad = sym own ∙ ap (λ (x : MetadataState). x.held) is ∙ held in cc bad)
      | the_first empty rest waits ↦
          let made = subst
          (λ (x : MetadataState). x.fill ≡ None → (m : Msg) → (l : List Msg) → x.waiting ≡ m ∷ l → m.channel < 16
          → (rows_of p.at.rows m.channel).stage ≡ Posted m.serial
          → (c.turn_without_held.result ≡ Moved) × ServiceMade d.tells (state_of d p.at) (state_of d q) m
          (record x { waiting = l }) c.turn_without_held.new.self) (same ∙ c.let_wait.ensures.first empty)
          c.turn_without_held.ensures.message none msg rest waits low posted in (
            made.0,
            subst (λ (x : MetadataState). ServiceMade d.tells (state_of d p.at) (state_of d q) msg x
                c.turn_without_held.new.self) (first_away now msg empty rest waits) made.1,
          )
    ]

pub returns-in-Some-clause-nothing : goal.returns-in-Some-clause-nothing
returns-in-Some-clause-nothing g c = λ empty none alone.
    let own = ap (λ (x : MetadataState). x.held) (sym c.self.view_is) ∙ sym c.take.ensures.value ∙ c.in-Some.is in
    let same = c.let_wait.ensures.first empty in
    absurd (let bad = sym own ∙ ap (λ (x : MetadataState). x.held) same ∙ empty in cc bad)

pub returns-in-None-clause-nothing : goal.returns-in-None-clause-nothing
returns-in-None-clause-nothing g c = λ empty none alone.
    let same = none_taken (the_view c.self.inside) c.take.ensures.after c.take.ensures.value c.in-None.is
    ∙ c.self.view_is ∙ c.let_wait.ensures.first empty in
    let idle = c.turn_without_held.ensures.nothing (ap (λ (x : MetadataState). x.fill) same ∙ none)
    (ap (λ (x : MetadataState). x.waiting) same ∙ alone) in
    let left = c.turn_without_held.ensures.idle idle in
    (idle, left.0, left.1 ∙ same)
