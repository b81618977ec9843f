use Rattle.std.proofs.Common.{◌≡◌, ◌+◌, ◌∙◌, ℕ, List, [], ap, length, subst, sym}
use Rattle.descriptors.specs.declared.item.Item.{Item}
use Rattle.md_chain.specs.Packing.{parts_of, AreFew, ArePlannable}
use Rattle.store_format.specs.SuperBlob.{super_items}
use Rattle.store_format.proofs.SuperBlobPage.{are_store_xattrs, few, items_are, one_page, page_planned, plannable}
use Rattle.store_format.proofs.SuperBlobPage.{readable}
use Rattle.store_format.proofs.super_blob.super_blob_page.Goals as goal

pub plan_chain-requires-clause-plannable : goal.plan_chain-requires-clause-plannable
plan_chain-requires-clause-plannable c =
    let named = c.args.named.now in
    let two = are_store_xattrs named c.in_ok-xattrs.xattrs c.in_ok-xattrs.ensures.two in
    let items : c.in_ok-items.items ≡ super_items named = items_are named c.in_ok-xattrs.xattrs c.in_ok-meta.meta
    c.in_ok-items.items two c.in_ok-meta.ensures c.longest_runs_are_one.ensures c.in_ok-items.ensures in
    subst ArePlannable (sym items) (plannable named c.in_ok-xattrs.ensures.name)

pub plan_chain-requires-clause-few : goal.plan_chain-requires-clause-few
plan_chain-requires-clause-few c =
    let named = c.args.named.now in
    let two = are_store_xattrs named c.in_ok-xattrs.xattrs c.in_ok-xattrs.ensures.two in
    let items : c.in_ok-items.items ≡ super_items named = items_are named c.in_ok-xattrs.xattrs c.in_ok-meta.meta
    c.in_ok-items.items two c.in_ok-meta.ensures c.longest_runs_are_one.ensures c.in_ok-items.ensures in
    subst AreFew (sym items) (few named)

pub plan_chain-requires-clause-places : goal.plan_chain-requires-clause-places
plan_chain-requires-clause-places c =
    let named = c.args.named.now in
    let two = are_store_xattrs named c.in_ok-xattrs.xattrs c.in_ok-xattrs.ensures.two in
    let items : c.in_ok-items.items ≡ super_items named = items_are named c.in_ok-xattrs.xattrs c.in_ok-meta.meta
    c.in_ok-items.items two c.in_ok-meta.ensures c.longest_runs_are_one.ensures c.in_ok-items.ensures in
    ap (λ (l : List ℕ). length l + 1) c.new.ensures
    ∙ sym (ap (λ (l : List Item). length (parts_of l)) items ∙ one_page named c.in_ok-xattrs.ensures.name)

pub returns-clause-page : goal.returns-clause-page
returns-clause-page c =
    let named = c.args.named.now in
    let two = are_store_xattrs named c.in_ok-xattrs.xattrs c.in_ok-xattrs.ensures.two in
    let items = items_are named c.in_ok-xattrs.xattrs c.in_ok-meta.meta c.in_ok-items.items two c.in_ok-meta.ensures
    c.longest_runs_are_one.ensures c.in_ok-items.ensures in
    page_planned named c.in_ok-xattrs.ensures.name c.as_slice.result.now c.in_ok-items.items c.new.result items
    c.new.ensures (c.as_slice.ensures ∙ c.in_ok-plan.ensures.exact) (record { place = 0; page = [] })

pub returns-clause-readable : goal.returns-clause-readable
returns-clause-readable c =
    let named = c.args.named.now in
    let two = are_store_xattrs named c.in_ok-xattrs.xattrs c.in_ok-xattrs.ensures.two in
    let items = items_are named c.in_ok-xattrs.xattrs c.in_ok-meta.meta c.in_ok-items.items two c.in_ok-meta.ensures
    c.longest_runs_are_one.ensures c.in_ok-items.ensures in
    readable named c.in_ok-xattrs.ensures.name c.in_ok-plan.plan c.in_ok-items.items c.new.result items c.new.ensures
    c.in_ok-plan.ensures.exact c.in_ok-plan.ensures.chain
