use Rattle.std.proofs.Common.{◌∙◌, ap}
use Rattle.running_store.specs.Running.{view_of, with_opening}
use Rattle.running_store.specs.StoreView.{WithOpening}
use Rattle.store_core.proofs.JobStays.{over_flush}
use Rattle.store_core.proofs.FillKept.{fill_left}
use Rattle.store_core.proofs.FirstCommand.{low_flush, waits_flush}
use Rattle.store_core.proofs.Viewed.{stage_by}
use Rattle.store_core.proofs.plant.Plant.flush.Goals as goal

pub flush_or_halt-requires-clause-channel : goal.flush_or_halt-requires-clause-channel
flush_or_halt-requires-clause-channel g c =
    low_flush g.D.PageDisk (view_of c.self.inside.running) c.self.invariant.0.facts.shaped c.args.channel
    c.self.invariant.1.seventeen
    (fill_left g.D.PageDisk
    (with_opening c.self.inside.running c.self.inside.opening.value c.self.inside.right.value.name)
    c.self.invariant.0)
    (stage_by c.self.view_is c.args.channel c.requires.stage)

pub flush_or_halt-requires-clause-waits : goal.flush_or_halt-requires-clause-waits
flush_or_halt-requires-clause-waits g c =
    waits_flush g.D.PageDisk (view_of c.self.inside.running) c.self.invariant.0.facts.shaped c.args.channel
    (stage_by c.self.view_is c.args.channel c.requires.stage)

pub invariant_of-self : goal.invariant_of-self
invariant_of-self g c = (
  c.goes_on.ensures (with_opening c.self.inside.running c.self.inside.opening.value c.self.inside.right.value.name)
      (view_of c.flush_or_halt.new.running) c.flush_or_halt.ensures.case.kind c.self.invariant.0
      c.flush_or_halt.ensures.case.made,
  c.flush_or_halt.ensures.order,
)

pub returns-clause-job : goal.returns-clause-job
returns-clause-job g c =
    over_flush g.D.PageDisk (view_of c.self.inside.running) (view_of c.flush_or_halt.new.running)
    c.flush_or_halt.ensures.case
    ∙ ap (λ (b : WithOpening g.row.D.Denot). b.at.job) c.self.view_is
