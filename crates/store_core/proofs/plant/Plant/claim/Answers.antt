use Rattle.std.proofs.Common.{◌≡◌, ◌∙◌, ap, subst}
use Rattle.store_model.specs.Cases as kind
use Rattle.channel_turns.specs.ChannelTurns.{IsFrozenFor}
use Rattle.running_store.specs.Running.{view_of, with_opening}
use Rattle.running_store.specs.StoreView.{WithOpening, state_of}
use Rattle.running_store.specs.Steps.{Asks}
use Rattle.running_store.specs.TurnMade.{TurnMade}
use Rattle.channel_turns.specs.declared.claiming.ClaimTurn.TheVariants as claim
use Rattle.store_core.proofs.FirstCommand.{low_claim, waits_claim}
use Rattle.store_core.proofs.JobStays.{by_claim, LeavesJob, over_channel}
use Rattle.store_core.proofs.Posting.{turned_or_not}
use Rattle.store_core.proofs.Viewed.{stage_by}
use Rattle.store_core.proofs.plant.Plant.claim.Goals as goal

pub claim_or_halt-requires-clause-channel : goal.claim_or_halt-requires-clause-channel
claim_or_halt-requires-clause-channel g c =
    let p = with_opening c.self.inside.running c.self.inside.opening.value c.self.inside.right.value.name in
    low_claim g.D.PageDisk p c.self.invariant.0 c.args.channel c.self.invariant.1.seventeen
    (stage_by c.self.view_is c.args.channel c.requires.stage)

pub claim_or_halt-requires-clause-waits : goal.claim_or_halt-requires-clause-waits
claim_or_halt-requires-clause-waits g c =
    let p = with_opening c.self.inside.running c.self.inside.opening.value c.self.inside.right.value.name in
    waits_claim g.D.PageDisk p c.self.invariant.0 c.args.channel
    (stage_by c.self.view_is c.args.channel c.requires.stage)

pub invariant_of-self : goal.invariant_of-self
invariant_of-self g c =
    let p = with_opening c.self.inside.running c.self.inside.opening.value c.self.inside.right.value.name in
    let q = view_of c.claim_or_halt.new.running in
    let e = c.claim_or_halt.ensures in (
      turned_or_not g.D.PageDisk p q LeavesJob c.self.invariant.0
          (λ k made. c.goes_on.ensures p q k c.self.invariant.0 made)
          (by_claim g.D.PageDisk p.at q c.claim_or_halt.result e.kept e.filled e.claimed e.logged),
      e.order,
    )

pub returns-clause-frozen : goal.returns-clause-frozen
returns-clause-frozen g c = subst (λ (b : WithOpening g.row.D.Denot). c.claim_or_halt.result ≡ claim.Frozen
    → Asks b.at c.args.channel (IsFrozenFor (state_of g.D.PageDisk b.at))) c.self.view_is c.claim_or_halt.ensures.frozen

pub returns-clause-claimed : goal.returns-clause-claimed
returns-clause-claimed g c = subst (λ (b : WithOpening g.row.D.Denot). c.claim_or_halt.result ≡ claim.Claimed
    → TurnMade g.D.PageDisk b.at (view_of c.claim_or_halt.new.running) kind.claims) c.self.view_is
    c.claim_or_halt.ensures.claimed

pub returns-clause-job : goal.returns-clause-job
returns-clause-job g c =
    let p = view_of c.self.inside.running in
    let q = view_of c.claim_or_halt.new.running in
    let e = c.claim_or_halt.ensures in
    over_channel g.D.PageDisk p q
    (by_claim g.D.PageDisk p q c.claim_or_halt.result e.kept e.filled e.claimed e.logged)
    ∙ ap (λ (b : WithOpening g.row.D.Denot). b.at.job) c.self.view_is
