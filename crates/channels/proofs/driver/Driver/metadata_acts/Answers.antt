use Rattle.std.proofs.Common.{◌∙◌, inl, inr, subst, sym}
use Rattle.std.proofs.lemmas.Bool.{false≢true}
use Rattle.store_model.specs.Repairing.{IsRepaired}
use Rattle.running_store.specs.StoreView.{state_of, WithOpening}
use Rattle.channels.specs.Driving.{driven}
use Rattle.channels.proofs.Keeping.{laws_on, stands}
use Rattle.channels.proofs.QueueLooked.{asked_then, fills_on, front_taken, kept_then, looked, moved_or_idle}
use Rattle.channels.proofs.QueueLooked.{no_message, none_moved, rests_on}
use Rattle.channels.proofs.driver.Driver.metadata_acts.Goals as goal

pub returns-in-Moved-clause-step : goal.returns-in-Moved-clause-step
returns-in-Moved-clause-step g c = c.turns_or_looks.ensures.step c.in-Moved.is

pub returns-then-holds-clause-step : goal.returns-then-holds-clause-step
returns-then-holds-clause-step g c =
    let x = c.turns_or_looks.ensures.looks (none_moved c.turns_or_looks.result c.in_default.not-Moved) in
    front_taken x c.turns_or_looks.ensures.channels c.what_is_due.ensures (c.holds.ensures.0 c.if-holds.true)

pub returns-then-holds-clause-keeps : goal.returns-then-holds-clause-keeps
returns-then-holds-clause-keeps g c =
    let x = c.turns_or_looks.ensures.looks (none_moved c.turns_or_looks.result c.in_default.not-Moved) in
    let same = c.turns_or_looks.ensures.channels in
    record { looks = looked x same (c.holds.ensures.0 c.if-holds.true); asked = asked_then x same }

pub md_turn-requires-clause-repaired : goal.md_turn-requires-clause-repaired
md_turn-requires-clause-repaired g c =
    let x = c.turns_or_looks.ensures.looks (none_moved c.turns_or_looks.result c.in_default.not-Moved) in
    subst (λ (o : WithOpening g.row.D.Denot). IsRepaired (state_of g.D.PageDisk o.at)) (sym x.same)
    c.requires.driven.repaired

pub returns-clause-step : goal.returns-clause-step
returns-clause-step g c =
    let d = g.D.PageDisk in
    let w = c.args.self.now in
    let x = c.turns_or_looks.ensures.looks (none_moved c.turns_or_looks.result c.in_default.not-Moved) in
    let same = c.turns_or_looks.ensures.channels in
    let nothing = no_message c.turns_or_looks.new.self.metadata.held
    (λ some. false≢true (sym c.if-holds.false ∙ c.holds.ensures.1 some)) in
    let here = kept_then x same nothing c.moves_keep_facts.ensures c.requires.driven
    ((laws_on d c.steps_are_moves.ensures w.plant).turn_fill (driven d w)
    (stands d c.state_turns.ensures w.plant c.keeps.ensures) c.requires.driven.works) in
    let after = c.md_turn.new.self in
    let last = c.md_turn.new.plant in
    elim (moved_or_idle c.md_turn.result) [
      | inl moved ↦
          fills_on x same nothing c.what_is_due.ensures (state_of d last.at) after (c.md_turn.ensures.step moved here)
      | inr rests ↦
          rests_on x same nothing c.what_is_due.ensures last after (c.md_turn.ensures.idle rests).0
          (c.md_turn.ensures.looks rests here)
    ]

pub returns-clause-keeps : goal.returns-clause-keeps
returns-clause-keeps g c =
    let d = g.D.PageDisk in
    let w = c.args.self.now in
    let x = c.turns_or_looks.ensures.looks (none_moved c.turns_or_looks.result c.in_default.not-Moved) in
    let nothing = no_message c.turns_or_looks.new.self.metadata.held
    (λ some. false≢true (sym c.if-holds.false ∙ c.holds.ensures.1 some)) in
    let here = kept_then x c.turns_or_looks.ensures.channels nothing c.moves_keep_facts.ensures c.requires.driven
    ((laws_on d c.steps_are_moves.ensures w.plant).turn_fill (driven d w)
    (stands d c.state_turns.ensures w.plant c.keeps.ensures) c.requires.driven.works) in
    record { looks = c.md_turn.ensures.looked; asked = c.md_turn.ensures.asked here }
