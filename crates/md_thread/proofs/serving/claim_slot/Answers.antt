use Rattle.std.proofs.Common.{◌≡◌, Some, sym, ◌∙◌, ap, subst}
use Rattle.store_model.specs.Cases as kind
use Rattle.store_model.specs.StoreState.{StoreState}
use Rattle.channel_turns.specs.FillTurns.{ClaimsFillOrNot, RowsFilling}
use Rattle.running_store.specs.Steps.{decided}
use Rattle.running_store.specs.StoreView.{rows_of}
use Rattle.super_block.specs.Numbers.{cluster_pages_of}
use Rattle.run_moves.specs.FillTurns as fill
use Rattle.md_thread.proofs.MessageTurns.{fill_lacked}
use Rattle.md_thread.proofs.TurnsRepaired.{led, turned}
use Rattle.md_thread.proofs.serving.claim_slot.Goals as goal

pub claim_fill-requires-clause-fills : goal.claim_fill-requires-clause-fills
claim_fill-requires-clause-fills g c = λ command rest left. (c.requires.next command rest left).asks

pub returns-in-Claimed-clause-moves : goal.returns-in-Claimed-clause-moves
returns-in-Claimed-clause-moves g c =
    let d = g.D.PageDisk in
    let made = subst (ClaimsFillOrNot d c.args.plant.now.at c.claim_fill.new.self.at) c.in-Claimed.is
    (c.claim_fill.ensures.claims c.requires.runs) in
    let both : Some made.0.fill.posted.channel ≡ Some c.args.msg.channel =
    sym (ap (λ (s : StoreState). s.filling) made.0.next) ∙ c.claim_fill.ensures.works c.in-Claimed.is in
    fill.claims_fill made.0 (cc both)

pub returns-in-Claimed-clause-repaired : goal.returns-in-Claimed-clause-repaired
returns-in-Claimed-clause-repaired g c =
    let d = g.D.PageDisk in
    let made = subst (ClaimsFillOrNot d c.args.plant.now.at c.claim_fill.new.self.at) c.in-Claimed.is
    (c.claim_fill.ensures.claims c.requires.runs) in
    turned d c.state_turns.ensures c.args.plant.now c.claim_fill.new.self c.keeps.ensures (kind.claims_fill, made.0)
    c.requires.repaired

pub returns-in-Claimed-clause-leads : goal.returns-in-Claimed-clause-leads
returns-in-Claimed-clause-leads g c =
    let d = g.D.PageDisk in
    let made = subst (ClaimsFillOrNot d c.args.plant.now.at c.claim_fill.new.self.at) c.in-Claimed.is
    (c.claim_fill.ensures.claims c.requires.runs) in
    led _ _ _ (kind.claims_fill, made.0)

pub returns-in-Logged-clause-moves : goal.returns-in-Logged-clause-moves
returns-in-Logged-clause-moves g c =
    let d = g.D.PageDisk in
    let p = c.args.plant.now.at in
    let q = c.claim_fill.new.self.at in
    let made = subst (ClaimsFillOrNot d p q) c.in-Logged.is (c.claim_fill.ensures.claims c.requires.runs) in
    let only = subst
    (λ turn. RowsFilling turn (cluster_pages_of p.super) p.rows q.rows c.args.msg.channel) c.in-Logged.is
    c.claim_fill.ensures.rows in
    fill_lacked d p q c.args.msg.channel c.args.msg.serial c.requires.posted.stage
    (decided (rows_of p.rows c.args.msg.channel)) only made.0

pub returns-in-Logged-clause-repaired : goal.returns-in-Logged-clause-repaired
returns-in-Logged-clause-repaired g c =
    let d = g.D.PageDisk in
    let made = subst (ClaimsFillOrNot d c.args.plant.now.at c.claim_fill.new.self.at) c.in-Logged.is
    (c.claim_fill.ensures.claims c.requires.runs) in
    turned d c.state_turns.ensures c.args.plant.now c.claim_fill.new.self c.keeps.ensures (kind.lacks_for_fill, made.0)
    c.requires.repaired

pub returns-in-Logged-clause-leads : goal.returns-in-Logged-clause-leads
returns-in-Logged-clause-leads g c =
    let d = g.D.PageDisk in
    let made = subst (ClaimsFillOrNot d c.args.plant.now.at c.claim_fill.new.self.at) c.in-Logged.is
    (c.claim_fill.ensures.claims c.requires.runs) in
    led _ _ _ (kind.lacks_for_fill, made.0)
