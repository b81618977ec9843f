use Rattle.std.proofs.Common.{◌≡◌, None, subst}
use Rattle.store_model.specs.Cases as kind
use Rattle.running_store.specs.Running.{view_of, with_opening}
use Rattle.running_store.specs.StoreView.{WithOpening}
use Rattle.running_store.specs.TurnMade.{TurnMade}
use Rattle.store_core.proofs.Posting.{either, posted_at, posted_low}
use Rattle.store_core.proofs.Viewed.{posted_by}
use Rattle.store_core.proofs.plant.Plant.answer.Goals as goal

pub answer_or_halt-requires-clause-posted : goal.answer_or_halt-requires-clause-posted
answer_or_halt-requires-clause-posted g c = posted_at g.D.PageDisk
    (with_opening c.self.inside.running c.self.inside.opening.value c.self.inside.right.value.name)
    c.args.msg c.self.invariant.0
    (posted_by c.self.view_is c.requires.posted)

pub invariant_of-self : goal.invariant_of-self
invariant_of-self g c =
    let p = (with_opening c.self.inside.running c.self.inside.opening.value c.self.inside.right.value.name) in
    let q = view_of c.answer_or_halt.new.running in (
      either g.D.PageDisk p q kind.answers kind.halts (λ k made. c.goes_on.ensures p q k c.self.invariant.0 made)
          c.answer_or_halt.ensures.answered c.answer_or_halt.ensures.halted,
      c.answer_or_halt.ensures.order,
    )

pub returns-clause-answered : goal.returns-clause-answered
returns-clause-answered g c = subst (λ (b : WithOpening g.row.D.Denot). b.at.stopped ≡ None
    → TurnMade g.D.PageDisk b.at (view_of c.answer_or_halt.new.running) kind.answers) c.self.view_is
    c.answer_or_halt.ensures.answered

pub answer_or_halt-requires-clause-channel : goal.answer_or_halt-requires-clause-channel
answer_or_halt-requires-clause-channel g c = posted_low g.D.PageDisk
    (with_opening c.self.inside.running c.self.inside.opening.value c.self.inside.right.value.name) c.args.msg
    c.self.invariant.0 c.self.invariant.1.seventeen
    (posted_by c.self.view_is c.requires.posted)
