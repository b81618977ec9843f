use Rattle.std.proofs.Common.{rules, ◌≡◌, ◌<◌, ◌≤◌, ◌+◌, ◌++◌, ◌∷◌, [], None, ℕ, List, length, subst, sym, arith}
use Rattle.std.specs.Prelude.{◌==◌, false}
use Rattle.std.proofs.lemmas.Bool.{ne_eqb}
use Rattle.descriptors.specs.declared.item.Item.{Item}
use Rattle.md_chain.specs.Chain.{IsBroken, chain_end}
use Rattle.md_chain.specs.Fetching.{place_fault, page_fault, IsFetchFault, IsNthPageFault}
use Rattle.md_chain.specs.Reading.{GaveChain, IsChainCause, IsPagesFault, region_look}
use Rattle.md_chain.proofs.PageWalk.{new_place, unseen, unseen-new}
use Rattle.md_chain.proofs.DeviceWalk.{Walking, begins, page_cause, fetch_cause, few_read, few_unread, told_fault}
use Rattle.md_chain.proofs.DeviceWalk.{told_chain, gave, walks_on}
use Rattle.md_chain.proofs.reading.read_chain.Goals as goal

pub chain-init : goal.chain-init
chain-init g c =
    subst (λ (ps : List ℕ). Walking g.D.PageDisk c.args.sup.now c.args.disk.now c.args.disk.now c.args.head ps
    c.new-items.result c.args.head c.args.head) (sym c.new-pages.ensures)
    (subst (λ (is : List Item). Walking g.D.PageDisk c.args.sup.now c.args.disk.now c.args.disk.now c.args.head [] is
    c.args.head c.args.head) (sym c.new-items.ensures)
    (begins g.D.PageDisk c.args.sup.now c.args.disk.now c.args.head))

-- ---- the page isn't fetched

fetch_why : goal.returns-in_err-page-clause-fault
fetch_why g c =
    let d = g.D.PageDisk in
    let s = c.args.sup.now in
    let why = c.in_err-page.field-0.0 in
    let w = c.chain.invariant in
    let cause : IsChainCause d s c.args.disk.now c.fetch.new.disk c.args.head why =
    fetch_cause d s c.args.disk.now c.chain.disk c.args.head c.chain.pages c.chain.items c.chain.before c.chain.place w
    c.fetch.new.disk why
    (subst (λ (ps : List ℕ). IsFetchFault s.md_len ps c.chain.before c.chain.place (d.read_faults c.chain.disk)
    (d.read_faults c.fetch.new.disk) why) c.as_slice.ensures c.in_err-page.ensures.fault) in
    search rules

pub returns-in_err-page-clause-fault : goal.returns-in_err-page-clause-fault
returns-in_err-page-clause-fault g c = fetch_why g c

pub returns-in_err-page-clause-broken : goal.returns-in_err-page-clause-broken
returns-in_err-page-clause-broken g c =
    let d = g.D.PageDisk in
    let s = c.args.sup.now in
    let why = c.in_err-page.field-0.0 in
    let w = c.chain.invariant in
    let cause : IsChainCause d s c.args.disk.now c.fetch.new.disk c.args.head why =
    fetch_cause d s c.args.disk.now c.chain.disk c.args.head c.chain.pages c.chain.items c.chain.before c.chain.place w
    c.fetch.new.disk why
    (subst (λ (ps : List ℕ). IsFetchFault s.md_len ps c.chain.before c.chain.place (d.read_faults c.chain.disk)
    (d.read_faults c.fetch.new.disk) why) c.as_slice.ensures c.in_err-page.ensures.fault) in
    λ told. let broken : IsPagesFault why → IsBroken (region_look s (d.now c.args.disk.now)) s.md_len c.args.head why =
    λ is. told_fault d s c.args.disk.now c.fetch.new.disk c.args.head why told is cause in search rules

pub returns-in_err-page-clause-few : goal.returns-in_err-page-clause-few
returns-in_err-page-clause-few g c =
    let d = g.D.PageDisk in
    let s = c.args.sup.now in
    let same = c.as_slice.ensures in
    few_unread d s c.args.disk.now c.chain.disk c.args.head c.chain.pages c.chain.items c.chain.before c.chain.place
    c.chain.invariant c.fetch.new.disk
    (subst (λ (ps : List ℕ). (place_fault s.md_len ps c.chain.before c.chain.place ≡ None → ⊥)
    → d.reads c.fetch.new.disk ≡ d.reads c.chain.disk) same c.fetch.ensures.none)
    (subst (λ (ps : List ℕ). place_fault s.md_len ps c.chain.before c.chain.place ≡ None
    → d.reads c.fetch.new.disk ≤ d.reads c.chain.disk + 1) same c.in_err-page.ensures.at_most)

-- ---- the page is no page of the chain

pub returns-in_err-link-clause-fault : goal.returns-in_err-link-clause-fault
returns-in_err-link-clause-fault g c =
    let d = g.D.PageDisk in
    let s = c.args.sup.now in
    let why = c.in_err-link.field-0.0 in
    let free : place_fault s.md_len c.chain.pages c.chain.before c.chain.place ≡ None =
    subst (λ (ps : List ℕ). place_fault s.md_len ps c.chain.before c.chain.place ≡ None) c.as_slice.ensures
    c.in_ok-page.ensures.place in
    let cause : IsChainCause d s c.args.disk.now c.fetch.new.disk c.args.head why =
    page_cause d s c.args.disk.now c.chain.disk c.args.head c.chain.pages c.chain.items c.chain.before c.chain.place
    c.chain.invariant c.in_ok-page.page c.in_ok-page.ensures.content free c.fetch.new.disk why
    (subst (λ (n : ℕ). IsNthPageFault c.in_ok-page.page c.args.head n c.chain.place why) c.len.ensures
    c.in_err-link.ensures.fault) in
    search rules

pub returns-in_err-link-clause-broken : goal.returns-in_err-link-clause-broken
returns-in_err-link-clause-broken g c =
    let d = g.D.PageDisk in
    let s = c.args.sup.now in
    let why = c.in_err-link.field-0.0 in
    let free : place_fault s.md_len c.chain.pages c.chain.before c.chain.place ≡ None =
    subst (λ (ps : List ℕ). place_fault s.md_len ps c.chain.before c.chain.place ≡ None) c.as_slice.ensures
    c.in_ok-page.ensures.place in
    let cause : IsChainCause d s c.args.disk.now c.fetch.new.disk c.args.head why =
    page_cause d s c.args.disk.now c.chain.disk c.args.head c.chain.pages c.chain.items c.chain.before c.chain.place
    c.chain.invariant c.in_ok-page.page c.in_ok-page.ensures.content free c.fetch.new.disk why
    (subst (λ (n : ℕ). IsNthPageFault c.in_ok-page.page c.args.head n c.chain.place why) c.len.ensures
    c.in_err-link.ensures.fault) in
    λ told. let broken : IsPagesFault why → IsBroken (region_look s (d.now c.args.disk.now)) s.md_len c.args.head why =
    λ is. told_fault d s c.args.disk.now c.fetch.new.disk c.args.head why told is cause in search rules

pub returns-in_err-link-clause-few : goal.returns-in_err-link-clause-few
returns-in_err-link-clause-few g c =
    few_read g.D.PageDisk c.args.sup.now c.args.disk.now c.chain.disk c.args.head c.chain.pages c.chain.items
    c.chain.before c.chain.place c.chain.invariant c.fetch.new.disk
    (subst (λ (ps : List ℕ). place_fault c.args.sup.now.md_len ps c.chain.before c.chain.place ≡ None)
    c.as_slice.ensures c.in_ok-page.ensures.place) c.in_ok-page.ensures.once

-- ---- want of memory

pub returns-in_err-append-clause-few : goal.returns-in_err-append-clause-few
returns-in_err-append-clause-few g c =
    few_read g.D.PageDisk c.args.sup.now c.args.disk.now c.chain.disk c.args.head c.chain.pages c.chain.items
    c.chain.before c.chain.place c.chain.invariant c.fetch.new.disk
    (subst (λ (ps : List ℕ). place_fault c.args.sup.now.md_len ps c.chain.before c.chain.place ≡ None)
    c.as_slice.ensures c.in_ok-page.ensures.place) c.in_ok-page.ensures.once

pub returns-in_err-push-clause-few : goal.returns-in_err-push-clause-few
returns-in_err-push-clause-few g c =
    few_read g.D.PageDisk c.args.sup.now c.args.disk.now c.chain.disk c.args.head c.chain.pages c.chain.items
    c.chain.before c.chain.place c.chain.invariant c.fetch.new.disk
    (subst (λ (ps : List ℕ). place_fault c.args.sup.now.md_len ps c.chain.before c.chain.place ≡ None)
    c.as_slice.ensures c.in_ok-page.ensures.place) c.in_ok-page.ensures.once

-- ---- the chain ends

pub returns-then-link-clause-few : goal.returns-then-link-clause-few
returns-then-link-clause-few g c =
    few_read g.D.PageDisk c.args.sup.now c.args.disk.now c.chain.disk c.args.head c.chain.pages c.chain.items
    c.chain.before c.chain.place c.chain.invariant c.fetch.new.disk
    (subst (λ (ps : List ℕ). place_fault c.args.sup.now.md_len ps c.chain.before c.chain.place ≡ None)
    c.as_slice.ensures c.in_ok-page.ensures.place) c.in_ok-page.ensures.once

found : goal.returns-then-link-clause-found
found g c =
    let d = g.D.PageDisk in
    let s = c.args.sup.now in
    let w = c.chain.invariant in
    let free : place_fault s.md_len c.chain.pages c.chain.before c.chain.place ≡ None =
    subst (λ (ps : List ℕ). place_fault s.md_len ps c.chain.before c.chain.place ≡ None) c.as_slice.ensures
    c.in_ok-page.ensures.place in
    let pass : page_fault c.in_ok-page.page c.args.head (length c.chain.pages) c.chain.place ≡ None =
    subst (λ (n : ℕ). page_fault c.in_ok-page.page c.args.head n c.chain.place ≡ None) c.len.ensures
    c.in_ok-link.ensures.passes in
    let all = gave d s c.args.disk.now c.chain.disk c.args.head c.chain.pages c.chain.items c.chain.before c.chain.place
    w c.in_ok-page.page c.in_ok-page.ensures.content free pass c.fetch.new.disk c.in_ok-page.ensures.same
    c.in_ok-page.ensures.no_fault c.in_ok-page.ensures.once c.in_ok-link.link.items c.in_ok-link.ensures.items
    c.in_ok-link.link.next c.in_ok-link.ensures.next c.if-link.true in
    subst (λ (ps : List ℕ). GaveChain d s c.args.disk.now c.args.head ps c.append.new.items)
    (sym c.in_ok-push.ensures.ok)
    (subst (λ (is : List Item). GaveChain d s c.args.disk.now c.args.head (c.chain.pages ++ c.chain.place ∷ []) is)
    (sym c.in_ok-append.ensures) all)

pub returns-then-link-clause-found : goal.returns-then-link-clause-found
returns-then-link-clause-found g c = found g c

pub returns-then-link-clause-chain : goal.returns-then-link-clause-chain
returns-then-link-clause-chain g c = λ told. told_chain g.D.PageDisk c.args.sup.now c.args.disk.now c.args.head _ _ told
    (found g c)

-- ---- it goes on

pub chain-smaller : goal.chain-smaller
chain-smaller g c =
    let md_len = c.args.sup.now.md_len in
    let free : place_fault md_len c.chain.pages c.chain.before c.chain.place ≡ None =
    subst (λ (ps : List ℕ). place_fault md_len ps c.chain.before c.chain.place ≡ None) c.as_slice.ensures
    c.in_ok-page.ensures.place in
    let n = new_place md_len c.chain.before c.chain.place c.chain.pages free in
    let less = unseen-new md_len c.chain.place c.chain.pages n.0 n.1 in
    let lt : unseen md_len (c.chain.pages ++ c.chain.place ∷ []) < unseen md_len c.chain.pages = omega (arith, less) in
    subst (λ (ps : List ℕ). unseen md_len ps < unseen md_len c.chain.pages) (sym c.in_ok-push.ensures.ok) lt

pub chain-preserved : goal.chain-preserved
chain-preserved g c =
    let d = g.D.PageDisk in
    let s = c.args.sup.now in
    let w = c.chain.invariant in
    let free : place_fault s.md_len c.chain.pages c.chain.before c.chain.place ≡ None =
    subst (λ (ps : List ℕ). place_fault s.md_len ps c.chain.before c.chain.place ≡ None) c.as_slice.ensures
    c.in_ok-page.ensures.place in
    let pass : page_fault c.in_ok-page.page c.args.head (length c.chain.pages) c.chain.place ≡ None =
    subst (λ (n : ℕ). page_fault c.in_ok-page.page c.args.head n c.chain.place ≡ None) c.len.ensures
    c.in_ok-link.ensures.passes in
    let on : (c.in_ok-link.link.next == chain_end) ≡ false = ne_eqb _ _ c.if-link.false in
    let all = walks_on d s c.args.disk.now c.chain.disk c.args.head c.chain.pages c.chain.items c.chain.before
    c.chain.place w c.in_ok-page.page c.in_ok-page.ensures.content free pass c.fetch.new.disk
    c.in_ok-page.ensures.same c.in_ok-page.ensures.no_fault c.in_ok-page.ensures.once c.in_ok-link.link.items
    c.in_ok-link.ensures.items c.in_ok-link.link.next c.in_ok-link.ensures.next on in
    subst (λ (ps : List ℕ). Walking d s c.args.disk.now c.fetch.new.disk c.args.head ps c.append.new.items c.chain.place
    c.in_ok-link.link.next) (sym c.in_ok-push.ensures.ok)
    (subst (λ (is : List Item). Walking d s c.args.disk.now c.fetch.new.disk c.args.head
    (c.chain.pages ++ c.chain.place ∷ []) is c.chain.place c.in_ok-link.link.next) (sym c.in_ok-append.ensures) all)
