use Rattle.std.proofs.Common.{◌≡◌, ◌+◌, ◌∷◌, ◌<◌, ◌^◌, [], List, length, drop, get_or, subst, sym, ap, ◌∙◌, arith}
use Rattle.descriptors.specs.declared.item.Item.{Item}
use Rattle.blob_meta.specs.Says.{runs_in}
use Rattle.md_chain.specs.Packing.{parts_from}
use Rattle.md_chain.specs.Laid.{CanPack, IsRuns}
use Rattle.md_chain.proofs.Plannable.{can_pack, runs_last, drop_one, few_runs}
use Rattle.md_chain.proofs.Fitting.{some_parts, few_parts}
use Rattle.md_chain.proofs.size.chain_len.Goals as goal

pub add-requires-clause-can : goal.add-requires-clause-can
add-requires-clause-can c =
    let items = c.args.items.now in
    let i = c.loop-item.item-index in
    let item = c.item-item.result in
    let within : i < length items = subst (λ (xs : List Item). i < length xs) c.as_slice-item-items.ensures
    c.loop-item-test.true in
    let is : item ≡ get_or items i item = c.item-item.is
    ∙ ap (λ (xs : List Item). get_or xs i item) c.as_slice-item-items.ensures in
    subst CanPack (sym is) (can_pack items c.requires.plannable i item within)

pub add-requires-clause-small : goal.add-requires-clause-small
add-requires-clause-small c =
    let items = c.args.items.now in
    let i = c.loop-item.item-index in
    let item = c.item-item.result in
    let within : i < length items = subst (λ (xs : List Item). i < length xs) c.as_slice-item-items.ensures
    c.loop-item-test.true in
    let is : item ≡ get_or items i item = c.item-item.is
    ∙ ap (λ (xs : List Item). get_or xs i item) c.as_slice-item-items.ensures in
    let few = few_runs items i item within in
    let all = c.requires.few in
    let small : length (runs_in (get_or items i item)) < 2 ^ 31 = omega (arith, few, all) in
    subst (λ (x : Item). length (runs_in x) < 2 ^ 31) (sym is) small

pub add-requires-clause-few : goal.add-requires-clause-few
add-requires-clause-few c =
    omega (
      arith,
      c.loop-item.invariant,
      some_parts c.loop-item.count.room
          (drop c.loop-item.item-index c.args.items.now),
      few_parts c.args.items.now c.requires.few,
    )

pub loop-item-preserved : goal.loop-item-preserved
loop-item-preserved c =
    let items = c.args.items.now in
    let i = c.loop-item.item-index in
    let item = c.item-item.result in
    let within : i < length items = subst (λ (xs : List Item). i < length xs) c.as_slice-item-items.ensures
    c.loop-item-test.true in
    let is : item ≡ get_or items i item = c.item-item.is
    ∙ ap (λ (xs : List Item). get_or xs i item) c.as_slice-item-items.ensures in
    let rest = drop (i + 1) items in
    let one : drop i items ≡ item ∷ rest = drop_one items i item within ∙ ap (λ (x : Item). x ∷ rest) (sym is) in
    let last : IsRuns item → rest ≡ [] = λ r. runs_last items i item c.requires.plannable within (subst IsRuns is r) in
    c.add.ensures rest last ∙ ap (λ (xs : List Item). c.loop-item.count.pages
    + length (parts_from c.loop-item.count.room xs)) (sym one) ∙ c.loop-item.invariant
