use Rattle.std.proofs.Common.{◌∙◌, ap}
use Rattle.store_model.specs.Cases as kind
use Rattle.store_model.specs.StoreState.{StoreState}
use Rattle.running_store.specs.Running.{view_of, with_opening}
use Rattle.running_store.specs.StoreView.{WithOpening}
use Rattle.store_core.proofs.plant.Plant.end_fill.Goals as goal

pub invariant_of-self : goal.invariant_of-self
invariant_of-self g c = (
  c.goes_on.ensures (with_opening c.self.inside.running c.self.inside.opening.value c.self.inside.right.value.name)
      (view_of c.end_fill.new.running) kind.ends_fill c.self.invariant.0 c.end_fill.ensures.case,
  c.end_fill.ensures.order,
)

pub returns-clause-job : goal.returns-clause-job
returns-clause-job g c =
    ap (λ (s : StoreState). s.job) c.end_fill.ensures.case.0.next ∙ ap (λ (b : WithOpening g.row.D.Denot). b.at.job) c.self.view_is
