use Rattle.std.proofs.Common.{◌≡◌, ℕ, ◌∙◌, ap, subst}
use Rattle.store_model.specs.Cases as kind
use Rattle.running_store.specs.TurnMade.{TurnMade}
use Rattle.channel_turns.specs.declared.copying.CopyTurn.TheVariants as copy
use Rattle.running_store.specs.Running.{view_of, with_opening}
use Rattle.running_store.specs.StoreView.{WithOpening}
use Rattle.store_core.proofs.FillKept.{fill_kept}
use Rattle.store_core.proofs.FirstCommand.{low_copy, waits_copy}
use Rattle.store_core.proofs.JobStays.{by_copy, LeavesJob, over_channel}
use Rattle.store_core.proofs.Posting.{turned_or_not}
use Rattle.store_core.proofs.Viewed.{stage_by}
use Rattle.store_core.proofs.plant.Plant.copy_page.Goals as goal

pub copy_or_halt-requires-clause-row : goal.copy_or_halt-requires-clause-row
copy_or_halt-requires-clause-row g c =
    let p = with_opening c.self.inside.running c.self.inside.opening.value c.self.inside.right.value.name in
    let left = c.requires.stage.0 in
    low_copy g.D.PageDisk p c.self.invariant.0 c.args.channel left c.self.invariant.1.seventeen
    (stage_by c.self.view_is c.args.channel c.requires.stage.1)

pub copy_or_halt-requires-clause-waits : goal.copy_or_halt-requires-clause-waits
copy_or_halt-requires-clause-waits g c =
    let p = with_opening c.self.inside.running c.self.inside.opening.value c.self.inside.right.value.name in
    let left = c.requires.stage.0 in
    waits_copy g.D.PageDisk p c.self.invariant.0 c.args.channel left
    (stage_by c.self.view_is c.args.channel c.requires.stage.1)

pub invariant_of-self : goal.invariant_of-self
invariant_of-self g c =
    let p = with_opening c.self.inside.running c.self.inside.opening.value c.self.inside.right.value.name in
    let q = view_of c.copy_or_halt.new.running in
    let e = c.copy_or_halt.ensures in (
      turned_or_not g.D.PageDisk p q LeavesJob c.self.invariant.0
          (λ k made. c.goes_on.ensures p q k c.self.invariant.0 made)
          (by_copy g.D.PageDisk p.at q c.copy_or_halt.result e.lost e.copied e.logged),
      e.order,
    )

pub returns-clause-copied : goal.returns-clause-copied
returns-clause-copied g c = subst (λ (b : WithOpening g.row.D.Denot). (left : ℕ)
    → c.copy_or_halt.result ≡ copy.Copied left
    → TurnMade g.D.PageDisk b.at (view_of c.copy_or_halt.new.running) kind.copies) c.self.view_is
    c.copy_or_halt.ensures.copied

pub returns-clause-job : goal.returns-clause-job
returns-clause-job g c =
    let p = view_of c.self.inside.running in
    let q = view_of c.copy_or_halt.new.running in
    let e = c.copy_or_halt.ensures in
    over_channel g.D.PageDisk p q (by_copy g.D.PageDisk p q c.copy_or_halt.result e.lost e.copied e.logged)
    ∙ ap (λ (b : WithOpening g.row.D.Denot). b.at.job) c.self.view_is

pub copy_or_halt-requires-clause-fill : goal.copy_or_halt-requires-clause-fill
copy_or_halt-requires-clause-fill g c = fill_kept g.D.PageDisk
    (with_opening c.self.inside.running c.self.inside.opening.value c.self.inside.right.value.name)
    c.self.invariant.0
