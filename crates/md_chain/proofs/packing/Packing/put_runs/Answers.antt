use Rattle.std.proofs.Common.{◌≡◌, ℕ, ◌++◌, ◌∷◌, ◌-◌, ◌/◌, ◌<◌, List, length, take, drop, sym, ap, ◌∙◌, arith}
use Rattle.volume_model.specs.declared.lists.SlotRun.{SlotRun}
use Rattle.descriptors.specs.declared.item.Item.{Item}
use Rattle.md_chain.specs.Packing.{on_page}
use Rattle.md_chain.proofs.RunPieces.{pages_of, first_piece, next_piece, last_piece, take_min, drop_min}
use Rattle.md_chain.proofs.packing.Packing.put_runs.Goals as goal

pub loop-rest-init : goal.loop-rest-init
loop-rest-init c =
    let runs = c.args.runs.now in
    let fit : ℕ = (c.args.self.now.room - 5) / 8 in
    let first : c.in_ok-list_of.field-0 ≡ take fit runs =
    c.in_ok-list_of.ensures ∙ c.split_at.ensures.front ∙ take_min runs _ fit c.min.ensures in
    let rest : c.split_at.result.1.now ≡ drop fit runs = c.split_at.ensures.back ∙ drop_min runs _ fit c.min.ensures in
    let current : c.push.new.self ≡ c.args.self.now.current ++ on_page (take fit runs) =
    c.in_ok-push.ensures.ok ∙ ap (λ (r : List SlotRun). c.args.self.now.current ++ on_page r) first in
    ap (λ (x : List Item). c.args.self.now.full ++ x ∷ pages_of c.split_at.result.1.now) current
    ∙ ap (λ (r : List SlotRun). c.args.self.now.full ++ (c.args.self.now.current ++ on_page (take fit runs))
    ∷ pages_of r) rest
    ∙ first_piece c.args.self.now.full c.args.self.now.current fit runs

pub loop-rest-preserved : goal.loop-rest-preserved
loop-rest-preserved c =
    let left = c.loop-rest.rest.now in
    let first : c.in_ok-list_of-2.field-0 ≡ take 508 left =
    c.in_ok-list_of-2.ensures ∙ c.split_at-in-loop-rest.ensures.front
    ∙ take_min left _ 508 c.min-in-loop-rest.ensures in
    let rest : c.split_at-in-loop-rest.result.1.now ≡ drop 508 left =
    c.split_at-in-loop-rest.ensures.back ∙ drop_min left _ 508 c.min-in-loop-rest.ensures in
    let current : c.push-in-loop-rest.new.self ≡ on_page (take 508 left) =
    c.in_ok-push-2.ensures.ok ∙ ap (λ (x : List Item). x ++ on_page c.in_ok-list_of-2.field-0)
    c.in_ok-turn_page.ensures.current ∙ ap on_page first in
    let some : 0 < length left = c.loop-rest-test.true in
    ap (λ (x : List Item). c.turn_page.new.self.full ++ x ∷ pages_of c.split_at-in-loop-rest.result.1.now) current
    ∙ ap (λ (r : List SlotRun). c.turn_page.new.self.full ++ on_page (take 508 left) ∷ pages_of r) rest
    ∙ ap (λ (f : List (List Item)). f ++ on_page (take 508 left) ∷ pages_of (drop 508 left))
    c.in_ok-turn_page.ensures.full
    ∙ next_piece c.loop-rest.self.full c.loop-rest.self.current left some
    ∙ c.loop-rest.invariant

pub returns : goal.returns
returns c =
    let none : length c.loop-rest.rest.now ≡ 0 = omega (arith, c.loop-rest-test.false) in
    sym (last_piece c.loop-rest.self.full c.loop-rest.self.current c.loop-rest.rest.now none) ∙ c.loop-rest.invariant
