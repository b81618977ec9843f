use Rattle.store_model.specs.Cases as kind
use Rattle.running_store.specs.Running.{view_of, with_opening}
use Rattle.store_core.proofs.FillKept.{fill_left}
use Rattle.store_core.proofs.Posting.{low_meta, waits_meta}
use Rattle.store_core.proofs.Viewed.{stage_by}
use Rattle.store_core.proofs.plant.Plant.post.Goals as goal

pub post-requires-clause-channel : goal.post-requires-clause-channel
post-requires-clause-channel g c = low_meta g.D.PageDisk
    (view_of c.self.inside.running) c.self.invariant.0.facts.shaped c.args.channel c.self.invariant.1.seventeen
    (fill_left g.D.PageDisk
    (with_opening c.self.inside.running c.self.inside.opening.value c.self.inside.right.value.name)
    c.self.invariant.0)
    (stage_by c.self.view_is c.args.channel c.requires.stage)

pub post-requires-clause-waits : goal.post-requires-clause-waits
post-requires-clause-waits g c =
    waits_meta g.D.PageDisk (view_of c.self.inside.running) c.self.invariant.0.facts.shaped c.args.channel
    (stage_by c.self.view_is c.args.channel c.requires.stage)

pub invariant_of-self : goal.invariant_of-self
invariant_of-self g c = (
  c.goes_on.ensures (with_opening c.self.inside.running c.self.inside.opening.value c.self.inside.right.value.name)
      (view_of c.post.new.running) kind.posts c.self.invariant.0 c.post.ensures.case,
  c.post.ensures.order,
)
