use Rattle.std.proofs.Common.{◌≡◌, ◌∙◌, IsSome, None, ap, subst, sym}
use Rattle.store_model.specs.Cases as kind
use Rattle.store_model.specs.Filling.{AsksForFill}
use Rattle.store_model.specs.Rows.{fill_row}
use Rattle.channel_turns.specs.FillTurns.{IsNextToFill}
use Rattle.channel_turns.specs.declared.claiming.ClaimTurn.TheVariants.{Logged}
use Rattle.running_store.specs.Running.{view_of, with_opening}
use Rattle.running_store.specs.Steps.{Asks}
use Rattle.running_store.specs.StoreView.{state_of, WithOpening}
use Rattle.running_store.specs.TurnMade.{TurnMade}
use Rattle.store_core.proofs.FillKept.{fill_kept}
use Rattle.store_core.proofs.JobStays.{by_fill, LeavesJob, over_channel}
use Rattle.store_core.proofs.Posting.{kept_running, over_row, posted_at, posted_low, turned_or_not}
use Rattle.store_core.proofs.Viewed.{posted_by, stage_by}
use Rattle.store_core.proofs.plant.Plant.claim_fill.Goals as goal

pub claim_fill_or_halt-requires-clause-channel : goal.claim_fill_or_halt-requires-clause-channel
claim_fill_or_halt-requires-clause-channel g c = posted_low g.D.PageDisk
    (with_opening c.self.inside.running c.self.inside.opening.value c.self.inside.right.value.name) c.args.msg
    c.self.invariant.0 c.self.invariant.1.seventeen
    (posted_by c.self.view_is c.requires.posted)

pub claim_fill_or_halt-requires-clause-posted : goal.claim_fill_or_halt-requires-clause-posted
claim_fill_or_halt-requires-clause-posted g c = posted_at g.D.PageDisk
    (with_opening c.self.inside.running c.self.inside.opening.value c.self.inside.right.value.name)
    c.args.msg c.self.invariant.0
    (posted_by c.self.view_is c.requires.posted)

pub claim_fill_or_halt-requires-clause-unused : goal.claim_fill_or_halt-requires-clause-unused
claim_fill_or_halt-requires-clause-unused g c =
    over_row g.D.PageDisk (view_of c.self.inside.running) c.self.invariant.0.facts.shaped fill_row
    (stage_by c.self.view_is fill_row c.requires.over)

pub claim_fill_or_halt-requires-clause-fills : goal.claim_fill_or_halt-requires-clause-fills
claim_fill_or_halt-requires-clause-fills g c =
    subst (λ (b : WithOpening g.row.D.Denot). Asks b.at c.args.msg.channel AsksForFill) (sym c.self.view_is)
    c.requires.fills

pub claim_fill_or_halt-requires-clause-next : goal.claim_fill_or_halt-requires-clause-next
claim_fill_or_halt-requires-clause-next g c =
    subst (λ (b : WithOpening g.row.D.Denot). b.at.stopped ≡ None → Asks b.at c.args.msg.channel
    (λ command. IsNextToFill (state_of g.D.PageDisk b.at) command c.args.slot)) (sym c.self.view_is) c.requires.next

pub claim_fill_or_halt-requires-clause-running : goal.claim_fill_or_halt-requires-clause-running
claim_fill_or_halt-requires-clause-running g c = kept_running g.D.PageDisk
    (with_opening c.self.inside.running c.self.inside.opening.value c.self.inside.right.value.name)
    c.self.invariant.0

pub claim_fill_or_halt-requires-clause-fill : goal.claim_fill_or_halt-requires-clause-fill
claim_fill_or_halt-requires-clause-fill g c = fill_kept g.D.PageDisk
    (with_opening c.self.inside.running c.self.inside.opening.value c.self.inside.right.value.name)
    c.self.invariant.0

pub invariant_of-self : goal.invariant_of-self
invariant_of-self g c =
    let p = with_opening c.self.inside.running c.self.inside.opening.value c.self.inside.right.value.name in
    let q = view_of c.claim_fill_or_halt.new.running in
    let e = c.claim_fill_or_halt.ensures in (
      turned_or_not g.D.PageDisk p q LeavesJob c.self.invariant.0
          (λ k made. c.goes_on.ensures p q k c.self.invariant.0 made)
          (by_fill g.D.PageDisk p.at q c.claim_fill_or_halt.result e.claims e.halted),
      e.order,
    )

pub returns-clause-job : goal.returns-clause-job
returns-clause-job g c =
    let p = view_of c.self.inside.running in
    let q = view_of c.claim_fill_or_halt.new.running in
    let e = c.claim_fill_or_halt.ensures in
    over_channel g.D.PageDisk p q (by_fill g.D.PageDisk p q c.claim_fill_or_halt.result e.claims e.halted)
    ∙ ap (λ (b : WithOpening g.row.D.Denot). b.at.job) c.self.view_is

pub returns-clause-halted : goal.returns-clause-halted
returns-clause-halted g c = subst (λ (b : WithOpening g.row.D.Denot). IsSome b.at.stopped
    → (c.claim_fill_or_halt.result ≡ Logged)
    × TurnMade g.D.PageDisk b.at (view_of c.claim_fill_or_halt.new.running) kind.halts_fill) c.self.view_is
    c.claim_fill_or_halt.ensures.halted
