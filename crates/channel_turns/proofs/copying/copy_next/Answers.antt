use Rattle.std.proofs.Common.{◌≡◌, ℕ, Option, suc, ◌+◌, ◌-◌, ◌*◌, ◌<◌, length, sym, ◌∙◌, ap, subst, arith}
use Rattle.std.specs.Option.{option_map}
use Rattle.super_block.specs.Numbers.{cluster_pages_of}
use Rattle.store_model.specs.Rows.{Idle, Row}
use Rattle.running_store.specs.GivingBack.{filling_left, row_given_back}
use Rattle.channel_turns.specs.ClaimTurns.{CopiesNow}
use Rattle.running_store.specs.Stages.{claim_seen, to_copy_in}
use Rattle.running_store.specs.Running.{view_of}
use Rattle.running_store.specs.StoreView.{state_of, StoreView}
use Rattle.channel_turns.proofs.PagesCopied.{copy_lost}
use Rattle.channel_turns.proofs.PagesToCopy.{copies_now, from_inside, from_is, late, left_read, seen_copy, to_inside}
use Rattle.channel_turns.proofs.PagesShown.{heads_fit}
use Rattle.running_store.proofs.Rowing.{row_read}
use Rattle.channel_turns.proofs.copying.copy_next.Goals as goal

pub returns-then-not-is_current-clause-lost : goal.returns-then-not-is_current-clause-lost
returns-then-not-is_current-clause-lost g c said =
    let p = view_of c.args.running.now in
    let low : c.args.row < length p.rows = omega (arith, c.requires.row, c.requires.order.seventeen) in
    let row = row_read p.rows c.args.row c.index-own.result.now low c.index-own.ensures in
    let w = seen_copy g.D.PageDisk p c.args.row c.requires.waits (claim_seen c.in-Some.claim)
    (ap (λ (r : Row). r.claim) (sym row) ∙ sym c.claim.ensures ∙ ap (option_map claim_seen) c.in-Some.is) in
    copy_lost g.D.PageDisk p c.args.row low c.requires.runs w
    (late c.is_current.result _ c.is_current.ensures c.if-not-is_current.true)
    (record (view_of c.give_back.new.running) { filling = c.rest.new.filling })
    (ap (λ (v : StoreView g.row.D.Denot). record v { filling = c.rest.new.filling }) c.give_back.ensures.given_back
    ∙ ap (λ (o : Option ℕ). record (row_given_back p c.args.row Idle) { filling = o })
    (c.rest.ensures ∙ ap (λ (v : StoreView g.row.D.Denot). filling_left v.filling c.args.row)
    c.give_back.ensures.given_back))

pub copy_to-requires : goal.copy_to-requires
copy_to-requires g c =
    let p = view_of c.args.running.now in
    let low : c.args.row < length p.rows = omega (arith, c.requires.row, c.requires.order.seventeen) in
    let row = row_read p.rows c.args.row c.index-own.result.now low c.index-own.ensures in
    let w = seen_copy g.D.PageDisk p c.args.row c.requires.waits (claim_seen c.in-Some.claim)
    (ap (λ (r : Row). r.claim) (sym row) ∙ sym c.claim.ensures ∙ ap (option_map claim_seen) c.in-Some.is) in
    let left : c.in-Some-to_copy.left ≡ suc w.left = left_read g.D.PageDisk p c.args.row w c.in-Some-to_copy.left
    (sym c.in-Some-to_copy.is ∙ c.to_copy.ensures ∙ ap (λ (r : Row). to_copy_in r.stage) row) in
    let pages = c.cluster_pages-pages.ensures.value in
    let few = w.few in
    let next : c.cluster_pages-pages.result - c.in-Some-to_copy.left + suc w.left ≡ cluster_pages_of p.super =
    omega (arith, left, pages, few) in
    let current = c.is_current.ensures.0 c.if-not-is_current.false in
    let page = c.cluster_pages-pages.result - c.in-Some-to_copy.left in
    let place = c.place_read-from.ensures (heads_fit (state_of g.D.PageDisk p) c.requires.running c.requires.runs
    p.metas c.requires.order.resolves.resolves) in
    let from = place ∙ from_is p.metas p.super c.in-Some.claim.head c.in-Some.claim.slot page
    c.cluster_pages-pages.result pages c.page_in.result c.page_in.ensures in
    let to = c.page_in-to.ensures ∙ ap (λ (k : ℕ). c.in-Some.claim.cluster * k + page) pages in
    let fewer : w.left ≡ c.in-Some-to_copy.left - 1 = omega (arith, left) in
    let low = to_inside g.D.PageDisk p c.args.row c.requires.running c.requires.runs c.requires.order.resolves w current
    page next c.place_read-from.result from c.page_in-to.result to in
    let device = c.requires.order.device in
    record {
      order = c.requires.order;
      row = c.requires.row;
      copies = subst (CopiesNow g.D.PageDisk p c.args.row c.place_read-from.result c.page_in-to.result) fewer
          (copies_now g.D.PageDisk p c.args.row c.requires.running c.requires.runs c.requires.order.resolves w current
          page next c.place_read-from.result from c.page_in-to.result to);
      running = c.requires.running;
      fill = c.requires.fill;
      from = from_inside g.D.PageDisk p c.args.row c.requires.running c.requires.runs c.requires.order.resolves w
          current page next c.place_read-from.result from (g.D.PageDisk.pages p.disk) device;
      to = omega (arith, low, device);
    }
