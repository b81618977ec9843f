use Rattle.std.proofs.Common.{◌∙◌, ap}
use Rattle.running_store.specs.Running.{view_of, with_opening}
use Rattle.running_store.specs.StoreView.{WithOpening}
use Rattle.store_core.proofs.FillKept.{fill_kept}
use Rattle.store_core.proofs.FirstCommand.{holds_ready, low_ready}
use Rattle.store_core.proofs.JobStays.{by_send, LeavesJob, over_channel}
use Rattle.store_core.proofs.Posting.{turned_or_not}
use Rattle.store_core.proofs.Viewed.{stage_by}
use Rattle.store_core.proofs.plant.Plant.send_ready.Goals as goal

pub send_or_halt-requires-clause-row : goal.send_or_halt-requires-clause-row
send_or_halt-requires-clause-row g c =
    let p = with_opening c.self.inside.running c.self.inside.opening.value c.self.inside.right.value.name in
    low_ready g.D.PageDisk p c.self.invariant.0 c.args.channel c.self.invariant.1.seventeen
    (stage_by c.self.view_is c.args.channel c.requires.stage)

pub send_or_halt-requires-clause-holds : goal.send_or_halt-requires-clause-holds
send_or_halt-requires-clause-holds g c =
    let p = with_opening c.self.inside.running c.self.inside.opening.value c.self.inside.right.value.name in
    holds_ready g.D.PageDisk p c.self.invariant.0 c.args.channel
    (stage_by c.self.view_is c.args.channel c.requires.stage)

pub invariant_of-self : goal.invariant_of-self
invariant_of-self g c =
    let p = with_opening c.self.inside.running c.self.inside.opening.value c.self.inside.right.value.name in
    let q = view_of c.send_or_halt.new.running in
    let e = c.send_or_halt.ensures in (
      turned_or_not g.D.PageDisk p q LeavesJob c.self.invariant.0
          (λ k made. c.goes_on.ensures p q k c.self.invariant.0 made)
          (by_send g.D.PageDisk p.at q c.send_or_halt.result e.sent e.logged),
      e.order,
    )

pub returns-clause-job : goal.returns-clause-job
returns-clause-job g c =
    let p = view_of c.self.inside.running in
    let q = view_of c.send_or_halt.new.running in
    let e = c.send_or_halt.ensures in
    over_channel g.D.PageDisk p q (by_send g.D.PageDisk p q c.send_or_halt.result e.sent e.logged)
    ∙ ap (λ (b : WithOpening g.row.D.Denot). b.at.job) c.self.view_is

pub send_or_halt-requires-clause-fill : goal.send_or_halt-requires-clause-fill
send_or_halt-requires-clause-fill g c = fill_kept g.D.PageDisk
    (with_opening c.self.inside.running c.self.inside.opening.value c.self.inside.right.value.name)
    c.self.invariant.0
