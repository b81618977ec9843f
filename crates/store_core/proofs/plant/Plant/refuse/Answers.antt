use Rattle.std.proofs.Common.{◌≡◌, None, subst}
use Rattle.store_model.specs.Cases as kind
use Rattle.running_store.specs.Running.{view_of, with_opening}
use Rattle.running_store.specs.Steps.{Asks, log_with, refused_with}
use Rattle.running_store.specs.StoreView.{WithOpening}
use Rattle.running_store.specs.TurnMade.{TurnMade}
use Rattle.store_core.proofs.Posting.{either, posted_at, posted_low}
use Rattle.store_core.proofs.Viewed.{posted_by}
use Rattle.store_core.proofs.plant.Plant.refuse.Goals as goal

pub refuse_or_halt-requires-clause-posted : goal.refuse_or_halt-requires-clause-posted
refuse_or_halt-requires-clause-posted g c = posted_at g.D.PageDisk
    (with_opening c.self.inside.running c.self.inside.opening.value c.self.inside.right.value.name)
    c.args.msg c.self.invariant.0
    (posted_by c.self.view_is c.requires.posted)

pub invariant_of-self : goal.invariant_of-self
invariant_of-self g c =
    let p = (with_opening c.self.inside.running c.self.inside.opening.value c.self.inside.right.value.name) in
    let q = view_of c.refuse_or_halt.new.running in (
      either g.D.PageDisk p q kind.refuses kind.halts (λ k made. c.goes_on.ensures p q k c.self.invariant.0 made)
          c.refuse_or_halt.ensures.refused c.refuse_or_halt.ensures.halted,
      c.refuse_or_halt.ensures.order,
    )

pub refuse_or_halt-requires-clause-channel : goal.refuse_or_halt-requires-clause-channel
refuse_or_halt-requires-clause-channel g c = posted_low g.D.PageDisk
    (with_opening c.self.inside.running c.self.inside.opening.value c.self.inside.right.value.name) c.args.msg
    c.self.invariant.0 c.self.invariant.1.seventeen
    (posted_by c.self.view_is c.requires.posted)

pub returns-clause-refused : goal.returns-clause-refused
returns-clause-refused g c = subst (λ (b : WithOpening g.row.D.Denot). b.at.stopped ≡ None
    → TurnMade g.D.PageDisk b.at (view_of c.refuse_or_halt.new.running) kind.refuses) c.self.view_is
    c.refuse_or_halt.ensures.refused

pub returns-clause-told : goal.returns-clause-told
returns-clause-told g c = subst (λ (b : WithOpening g.row.D.Denot). Asks b.at c.args.msg.channel (λ command.
    (view_of c.refuse_or_halt.new.running).log
    ≡ log_with b.at.log c.args.msg.channel command (refused_with b.at.stopped c.args.reply))) c.self.view_is
    c.refuse_or_halt.ensures.told
