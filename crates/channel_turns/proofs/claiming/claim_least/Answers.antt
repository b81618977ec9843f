use Rattle.std.proofs.Common.{◌<◌, List, length, ◌∙◌, ap, refl, sym, subst, arith, Some}
use Rattle.volume_model.specs.declared.reply.Reply.TheVariants as r
use Rattle.store_model.specs.Cases as kind
use Rattle.store_model.specs.Rows.{Copying, OpenClaim, Row}
use Rattle.super_block.specs.Numbers.{cluster_pages_of}
use Rattle.running_store.specs.Running.{view_of}
use Rattle.running_store.specs.Steps.{logged_on, OnlyRow}
use Rattle.running_store.specs.StoreView.{rows_of, StoreView}
use Rattle.running_store.specs.TurnMade.{TurnMade}
use Rattle.channel_turns.specs.ClaimTurns.{HoldsLeast, row_claimed}
use Rattle.channel_turns.specs.declared.claiming.ClaimTurn.TheVariants.{Claimed}
use Rattle.channel_turns.proofs.ClaimAsked.{claim_full, claim_made, claimed_row}
use Rattle.channel_turns.proofs.claiming.claim_least.Goals as goal

pub hold_least-requires-clause-there : goal.hold_least-requires-clause-there
hold_least-requires-clause-there g c = rw c.requires.claims.drawn refl

pub returns-else-hold_least-clause-logged : goal.returns-else-hold_least-clause-logged
returns-else-hold_least-clause-logged g c said =
    let d = g.D.PageDisk in
    let old = view_of c.args.running.now in
    let q = view_of c.log_here.new.running in
    let low : c.args.channel < length c.args.running.now.rows.items =
    omega (arith, c.requires.channel, c.requires.order.seventeen) in
    let full = c.hold_least.ensures.full c.if-hold_least.false in
    claim_full d old c.args.channel c.args.head c.args.slot c.requires.claims low full.0 q
    (λ command rest left.
    c.log_here.ensures.logged command rest
    (ap (λ (v : StoreView g.row.D.Denot). (rows_of v.rows c.args.channel).left) full.1 ∙ left)
    ∙ ap (λ (v : StoreView g.row.D.Denot). logged_on v c.args.channel command rest r.Full (d.clock q.disk)) full.1)

pub returns-then-hold_least-clause-claimed : goal.returns-then-hold_least-clause-claimed
returns-then-hold_least-clause-claimed g c said =
    let d = g.D.PageDisk in
    let old = view_of c.args.running.now in
    let q = view_of c.hold_least.new.running in
    let low : c.args.channel < length old.rows = omega (arith, c.requires.channel, c.requires.order.seventeen) in
    let h : HoldsLeast old q c.args.channel c.args.head c.args.slot = c.hold_least.ensures.held c.if-hold_least.true in
    subst (λ (v : StoreView g.row.D.Denot). TurnMade d old v kind.claims) (sym h.next)
    (claim_made d old c.args.channel c.args.head c.args.slot c.requires.claims low h.cluster h.least h.generation
    h.drawn (cluster_pages_of old.super) refl (record (rows_of old.rows c.args.channel) {
      stage = Copying (cluster_pages_of old.super);
      claim = Some (record {
        cluster = h.cluster;
        head = c.args.head;
        slot = c.args.slot;
        generation = h.generation;
      });
    }) refl _ refl)

pub returns-then-hold_least-clause-row : goal.returns-then-hold_least-clause-row
returns-then-hold_least-clause-row g c =
    let old = view_of c.args.running.now in
    let q = view_of c.hold_least.new.running in
    let low : c.args.channel < length old.rows = omega (arith, c.requires.channel, c.requires.order.seventeen) in
    let h : HoldsLeast old q c.args.channel c.args.head c.args.slot = c.hold_least.ensures.held c.if-hold_least.true in
    let k = cluster_pages_of old.super in
    let claim : OpenClaim = record {
      cluster = h.cluster;
      head = c.args.head;
      slot = c.args.slot;
      generation = h.generation;
    } in
    subst (λ (rows : List Row). OnlyRow old.rows rows c.args.channel
    (row_claimed Claimed k (rows_of rows c.args.channel).claim (rows_of old.rows c.args.channel)))
    (sym (ap (λ (v : StoreView g.row.D.Denot). v.rows) h.next))
    (claimed_row old.rows c.args.channel (record (rows_of old.rows c.args.channel) {
      stage = Copying k;
      claim = Some claim;
    }) k k (Some claim) low refl refl)
