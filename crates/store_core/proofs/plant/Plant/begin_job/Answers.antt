use Rattle.std.proofs.Common.{◌≡◌, None, subst, sym}
use Rattle.running_store.specs.Running.{view_of, with_opening}
use Rattle.job_begins.specs.Begins.{IsJobOf}
use Rattle.store_model.specs.Repairing.{IsRepaired}
use Rattle.running_store.specs.StoreView.{WithOpening, state_of}
use Rattle.running_store.specs.Steps.{Asks}
use Rattle.store_core.proofs.Posting.{begun_or_not, posted_at, posted_low}
use Rattle.store_core.proofs.Viewed.{posted_by}
use Rattle.store_core.proofs.plant.Plant.begin_job.Goals as goal

pub begin_or_halt-requires-clause-repaired : goal.begin_or_halt-requires-clause-repaired
begin_or_halt-requires-clause-repaired g c =
    subst (λ (b : WithOpening g.row.D.Denot). IsRepaired (state_of g.D.PageDisk b.at)) (sym c.self.view_is)
    c.requires.repaired

pub begin_or_halt-requires-clause-posted : goal.begin_or_halt-requires-clause-posted
begin_or_halt-requires-clause-posted g c = posted_at g.D.PageDisk
    (with_opening c.self.inside.running c.self.inside.opening.value c.self.inside.right.value.name)
    c.args.msg c.self.invariant.0
    (posted_by c.self.view_is c.requires.posted)

pub invariant_of-self : goal.invariant_of-self
invariant_of-self g c =
    let p = (with_opening c.self.inside.running c.self.inside.opening.value c.self.inside.right.value.name) in
    let q = view_of c.begin_or_halt.new.running in (
      begun_or_not g.D.PageDisk p q c.begin_or_halt.result (λ k made. c.goes_on.ensures p q k c.self.invariant.0 made)
          c.begin_or_halt.ensures.begins c.begin_or_halt.ensures.halted,
      c.begin_or_halt.ensures.order,
    )

pub begin_or_halt-requires-clause-asks : goal.begin_or_halt-requires-clause-asks
begin_or_halt-requires-clause-asks g c =
    subst (λ (b : WithOpening g.row.D.Denot). b.at.stopped ≡ None
    → Asks b.at c.args.msg.channel (λ command. IsJobOf (state_of g.D.PageDisk b.at) command c.args.job))
    (sym c.self.view_is) c.requires.asks

pub begin_or_halt-requires-clause-channel : goal.begin_or_halt-requires-clause-channel
begin_or_halt-requires-clause-channel g c = posted_low g.D.PageDisk
    (with_opening c.self.inside.running c.self.inside.opening.value c.self.inside.right.value.name) c.args.msg
    c.self.invariant.0 c.self.invariant.1.seventeen
    (posted_by c.self.view_is c.requires.posted)
