use Rattle.store_model.specs.Cases as kind
use Rattle.running_store.specs.Running.{view_of, with_opening}
use Rattle.store_core.proofs.Posting.{over_row}
use Rattle.store_core.proofs.Viewed.{stage_by}
use Rattle.store_core.proofs.plant.Plant.end.Goals as goal

pub end-requires-clause-over : goal.end-requires-clause-over
end-requires-clause-over g c =
    over_row g.D.PageDisk (view_of c.self.inside.running) c.self.invariant.0.facts.shaped c.args.channel
    (stage_by c.self.view_is c.args.channel c.requires.over)

pub invariant_of-self : goal.invariant_of-self
invariant_of-self g c = (
  c.goes_on.ensures (with_opening c.self.inside.running c.self.inside.opening.value c.self.inside.right.value.name)
      (view_of c.end.new.running) kind.ends c.self.invariant.0 c.end.ensures.case,
  c.end.ensures.order,
)
