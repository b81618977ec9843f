use Rattle.std.proofs.Common.{◌≡◌, ◌+◌, ◌∷◌, ◌<◌, [], List, length, drop, get_or, subst, sym, ap, ◌∙◌}
use Rattle.descriptors.specs.declared.item.Item.{Item}
use Rattle.md_chain.specs.Packing.{parts_from}
use Rattle.md_chain.specs.Laid.{CanPack, IsRuns, laid}
use Rattle.md_chain.proofs.Plannable.{can_pack, runs_last, drop_one}
use Rattle.md_chain.proofs.packing.parts_of.Goals as goal

pub add-requires : goal.add-requires
add-requires c =
    let items = c.args.items.now in
    let i = c.loop-item.item-index in
    let item = c.item-item.result in
    let within : i < length items = subst (λ (xs : List Item). i < length xs) c.as_slice-item-items.ensures
    c.loop-item-test.true in
    let is : item ≡ get_or items i item = c.item-item.is
    ∙ ap (λ (xs : List Item). get_or xs i item) c.as_slice-item-items.ensures in
    subst CanPack (sym is) (can_pack items c.requires i item within)

pub loop-item-preserved : goal.loop-item-preserved
loop-item-preserved c =
    let items = c.args.items.now in
    let i = c.loop-item.item-index in
    let item = c.item-item.result in
    let within : i < length items = subst (λ (xs : List Item). i < length xs) c.as_slice-item-items.ensures
    c.loop-item-test.true in
    let is : item ≡ get_or items i item = c.item-item.is
    ∙ ap (λ (xs : List Item). get_or xs i item) c.as_slice-item-items.ensures in
    let rest = drop (i + 1) items in
    let one : drop i items ≡ item ∷ rest = drop_one items i item within ∙ ap (λ (x : Item). x ∷ rest) (sym is) in
    let last : IsRuns item → rest ≡ [] = λ r. runs_last items i item c.requires within (subst IsRuns is r) in
    c.in_ok-add.ensures rest last ∙ ap (λ (xs : List Item).
    laid c.loop-item.packing.full c.loop-item.packing.current (parts_from c.loop-item.packing.room xs)) (sym one)
    ∙ c.loop-item.invariant
