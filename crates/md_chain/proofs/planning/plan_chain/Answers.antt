use Rattle.std.proofs.Common.{◌≡◌, ℕ, ◌+◌, ◌∷◌, ◌++◌, ◌<◌, [], List, length, get_or, All, subst, sym, ap, ◌∙◌, arith}
use Rattle.std.proofs.lemmas.List.Elements.{All-from_recursion}
use Rattle.descriptors.specs.declared.item.Item.{Item}
use Rattle.descriptors.specs.Writing.{IsWritable}
use Rattle.md_chain.specs.declared.plan.PlannedPage.{PlannedPage}
use Rattle.md_chain.specs.Packing.{parts_of}
use Rattle.md_chain.specs.Planned.{page_written, pages_from, IsNthPage, IsPageOfPlan}
use Rattle.md_chain.proofs.Fitting.{FitsIn, parts_fit, few_parts}
use Rattle.md_chain.proofs.PlannedChain.{ArePlanned, page_at, PlanCompletes, one_page_more, one_planned_more}
use Rattle.md_chain.proofs.PlannedChain.{all_planned, all_read, whole_chain, length-pages}
use Rattle.md_chain.proofs.planning.plan_chain.Goals as goal

pub overflow_cast-n : goal.overflow_cast-n
overflow_cast-n c =
    let few = few_parts c.args.items.now c.requires.few in
    let all : length c.as_slice-part-items.result.now ≡ length (parts_of c.args.items.now) =
    ap (λ (ps : List (List Item)). length ps) (c.as_slice-part-items.ensures ∙ c.in_ok-parts.ensures) in
    omega (arith, few, all)

fits : goal.page_of-page-requires-clause-room
fits c =
    let parts = parts_of c.args.items.now in
    let n = c.loop-n.n in
    let part = c.part-item.result in
    let same : c.as_slice-part-items.result.now ≡ parts = c.as_slice-part-items.ensures ∙ c.in_ok-parts.ensures in
    let within : n < length parts = subst (λ (ps : List (List Item)). n < length ps) same c.loop-n-test.true in
    let is : part ≡ get_or parts n part = c.part-item.is ∙ ap (λ (ps : List (List Item)). get_or ps n part) same in
    let fit = subst (FitsIn 4072) (sym is) (parts_fit c.args.items.now c.requires.plannable n part within) in
    fit.0

pub page_of-page-requires-clause-room : goal.page_of-page-requires-clause-room
page_of-page-requires-clause-room c = fits c

pub page_of-page-requires-clause-writable : goal.page_of-page-requires-clause-writable
page_of-page-requires-clause-writable c =
    let parts = parts_of c.args.items.now in
    let n = c.loop-n.n in
    let part = c.part-item.result in
    let same : c.as_slice-part-items.result.now ≡ parts = c.as_slice-part-items.ensures ∙ c.in_ok-parts.ensures in
    let within : n < length parts = subst (λ (ps : List (List Item)). n < length ps) same c.loop-n-test.true in
    let is : part ≡ get_or parts n part = c.part-item.is ∙ ap (λ (ps : List (List Item)). get_or ps n part) same in
    let fit = subst (FitsIn 4072) (sym is) (parts_fit c.args.items.now c.requires.plannable n part within) in
    All-from_recursion IsWritable part fit.1

pub loop-n-preserved : goal.loop-n-preserved
loop-n-preserved c =
    let head = c.args.head in
    let fresh = c.args.fresh.now in
    let parts = c.as_slice-part-items.result.now in
    let n = c.loop-n.n in
    let part = c.part-item.result in
    let place = c.loop-n.place in
    let next = c.next_place-next.result in
    let one : c.push.new.self ≡ c.loop-n.plan ++ record { place = place; page = page_written head n part next } ∷ [] =
    c.in_ok-push.ensures.ok ∙ ap (λ (page : List ℕ). c.loop-n.plan ++ record { place = place; page = page } ∷ [])
    c.page_of-page.ensures.bytes in
    let planned : IsNthPage head n part next (page_written head n part next) =
    subst (IsNthPage head n part next) c.page_of-page.ensures.bytes c.page_of-page.ensures.planned in
    record {
      pages = subst (PlanCompletes head fresh parts (n + 1) next) (sym one)
          (one_page_more head fresh parts n part c.loop-n-test.true c.part-item.is place next c.loop-n.plan
          c.next_place-next.ensures c.loop-n.invariant.pages);
      planned = one_planned_more head fresh parts n part c.loop-n-test.true c.part-item.is next
          c.next_place-next.ensures planned c.loop-n.invariant.planned;
    }

whole : goal.returns-clause-exact
whole c =
    let parts = c.as_slice-part-items.result.now in
    let same : parts ≡ parts_of c.args.items.now = c.as_slice-part-items.ensures ∙ c.in_ok-parts.ensures in
    all_planned c.args.head c.args.fresh.now parts c.loop-n.n c.loop-n.place c.loop-n.plan
    (omega (arith, c.loop-n-test.false)) c.loop-n.invariant.pages
    ∙ ap (λ (ps : List (List Item)). pages_from c.args.head 0 c.args.head c.args.fresh.now ps) same

pub returns-clause-exact : goal.returns-clause-exact
returns-clause-exact c = whole c

pub returns-clause-pages : goal.returns-clause-pages
returns-clause-pages c = λ i d lt.
    let head = c.args.head in
    let fresh = c.args.fresh.now in
    let parts = c.as_slice-part-items.result.now in
    let same : parts ≡ parts_of c.args.items.now = c.as_slice-part-items.ensures ∙ c.in_ok-parts.ensures in
    let read : ArePlanned head 0 fresh (parts_of c.args.items.now) =
    subst (λ (ps : List (List Item)). ArePlanned head 0 fresh ps) same
    (all_read head fresh parts c.loop-n.n (omega (arith, c.loop-n-test.false)) c.loop-n.invariant.planned) in
    let long = ap (λ (ps : List PlannedPage). length ps) (whole c) in
    let within : i < length (parts_of c.args.items.now) =
    omega (arith, long, length-pages head 0 head fresh (parts_of c.args.items.now), lt) in
    subst (λ (ps : List PlannedPage). IsPageOfPlan head (head ∷ fresh) (parts_of c.args.items.now) i (get_or ps i d))
    (sym (whole c)) (page_at head fresh (parts_of c.args.items.now) read i d within)

pub returns-clause-count : goal.returns-clause-count
returns-clause-count c =
    let long = ap (λ (ps : List PlannedPage). length ps) (whole c) in
    let parts = length-pages c.args.head 0 c.args.head c.args.fresh.now (parts_of c.args.items.now) in
    omega (arith, long, parts, c.requires.places)

pub returns-clause-chain : goal.returns-clause-chain
returns-clause-chain c = λ look md_len small once low there.
    let head = c.args.head in
    let fresh = c.args.fresh.now in
    let parts = c.as_slice-part-items.result.now in
    let same : parts ≡ parts_of c.args.items.now = c.as_slice-part-items.ensures ∙ c.in_ok-parts.ensures in
    let read : ArePlanned head 0 fresh (parts_of c.args.items.now) =
    subst (λ (ps : List (List Item)). ArePlanned head 0 fresh ps) same
    (all_read head fresh parts c.loop-n.n (omega (arith, c.loop-n-test.false)) c.loop-n.invariant.planned) in
    whole_chain look md_len head small fresh (parts_of c.args.items.now) c.requires.places once low read
    (subst (λ (ps : List PlannedPage). All (λ p. look p.place ≡ p.page) ps) (whole c) there)
