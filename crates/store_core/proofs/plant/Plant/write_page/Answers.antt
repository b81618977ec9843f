use Rattle.std.proofs.Common.{◌≡◌, ◌∙◌, ap, subst}
use Rattle.store_model.specs.Cases as kind
use Rattle.channel_turns.specs.ChannelTurns.{IsFrozenFor}
use Rattle.running_store.specs.Running.{view_of, with_opening}
use Rattle.running_store.specs.StoreView.{WithOpening, state_of}
use Rattle.running_store.specs.Steps.{Asks}
use Rattle.running_store.specs.TurnMade.{TurnMade}
use Rattle.channel_turns.specs.declared.page_writing.WriteTurn.TheVariants as write
use Rattle.store_core.proofs.FillKept.{fill_left}
use Rattle.store_core.proofs.FirstCommand.{low_write, waits_write}
use Rattle.store_core.proofs.JobStays.{by_write, LeavesJob, over_channel}
use Rattle.store_core.proofs.Posting.{turned_or_not}
use Rattle.store_core.proofs.Viewed.{stage_by}
use Rattle.store_core.proofs.plant.Plant.write_page.Goals as goal

pub write_or_halt-requires-clause-channel : goal.write_or_halt-requires-clause-channel
write_or_halt-requires-clause-channel g c =
    low_write g.D.PageDisk (view_of c.self.inside.running) c.self.invariant.0.facts.shaped c.args.channel
    c.self.invariant.1.seventeen
    (fill_left g.D.PageDisk
    (with_opening c.self.inside.running c.self.inside.opening.value c.self.inside.right.value.name)
    c.self.invariant.0)
    (stage_by c.self.view_is c.args.channel c.requires.stage)

pub write_or_halt-requires-clause-waits : goal.write_or_halt-requires-clause-waits
write_or_halt-requires-clause-waits g c =
    waits_write g.D.PageDisk (view_of c.self.inside.running) c.self.invariant.0.facts.shaped c.args.channel
    (stage_by c.self.view_is c.args.channel c.requires.stage)

pub invariant_of-self : goal.invariant_of-self
invariant_of-self g c =
    let p = with_opening c.self.inside.running c.self.inside.opening.value c.self.inside.right.value.name in
    let q = view_of c.write_or_halt.new.running in (
      turned_or_not g.D.PageDisk p q LeavesJob c.self.invariant.0
          (λ k made. c.goes_on.ensures p q k c.self.invariant.0 made)
          (by_write g.D.PageDisk p.at q c.write_or_halt.result c.write_or_halt.ensures.kept
          c.write_or_halt.ensures.empty c.write_or_halt.ensures.logged),
      c.write_or_halt.ensures.order,
    )

pub returns-clause-frozen : goal.returns-clause-frozen
returns-clause-frozen g c = subst (λ (b : WithOpening g.row.D.Denot). c.write_or_halt.result ≡ write.Frozen
    → Asks b.at c.args.channel (IsFrozenFor (state_of g.D.PageDisk b.at))) c.self.view_is c.write_or_halt.ensures.frozen

pub returns-clause-empty : goal.returns-clause-empty
returns-clause-empty g c = subst (λ (b : WithOpening g.row.D.Denot). c.write_or_halt.result ≡ write.Empty
    → TurnMade g.D.PageDisk b.at (view_of c.write_or_halt.new.running) kind.finds_empty) c.self.view_is
    c.write_or_halt.ensures.empty

pub returns-clause-job : goal.returns-clause-job
returns-clause-job g c =
    let p = view_of c.self.inside.running in
    let q = view_of c.write_or_halt.new.running in
    over_channel g.D.PageDisk p q
    (by_write g.D.PageDisk p q c.write_or_halt.result c.write_or_halt.ensures.kept c.write_or_halt.ensures.empty
    c.write_or_halt.ensures.logged)
    ∙ ap (λ (b : WithOpening g.row.D.Denot). b.at.job) c.self.view_is
