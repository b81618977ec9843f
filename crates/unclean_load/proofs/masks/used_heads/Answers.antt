use Rattle.std.proofs.Common.{◌≡◌, ℕ, ◌+◌, Bool, List, None, is_some, IsSome, sym, ap, subst, arith}
use Rattle.std.specs.Ordering.{nat_cmp}
use Rattle.std.specs.FinMap as map
use Rattle.blob_meta.specs.declared.meta.Meta.{Meta}
use Rattle.blob_meta.proofs.HeadsThere.{up_to_end, up_to_next}
use Rattle.unclean_load.proofs.Marks.{HeadsBelow, no_heads, no_head_there, head_there}
use Rattle.unclean_load.proofs.masks.used_heads.Goals as goal

module _ (metas : map.FinMap nat_cmp Meta) (md_len : ℕ) (bits : List Bool) where
  -- the marks are those of the heads below a place
  abbrev AreHeads : ℕ → Type 0
  AreHeads end = HeadsBelow (λ (head : ℕ). IsSome (map.get metas head)) md_len bits end

  heads_on : (h : ℕ) → map.get metas h ≡ None → AreHeads h → AreHeads (h + 1)
  heads_on h none x =
      no_head_there (λ (head : ℕ). IsSome (map.get metas head)) md_len bits h x
      (λ some. let no = ap is_some none in absurd (cc (no, some)))

pub loop-head-init : goal.loop-head-init
loop-head-init c = (
  omega arith,
  no_heads (λ (head : ℕ). IsSome (map.get c.args.metas.now head)) c.args.md_len c.in_ok-bits.bits c.in_ok-bits.ensures,
)

pub set-requires : goal.set-requires
set-requires c = let x = c.loop-head.invariant.1.count in let y = c.in-Some.ensures.below in omega (arith, x, y)

pub loop-head-preserved : goal.loop-head-preserved
loop-head-preserved c =
    let metas = c.args.metas.now in
    let n = c.args.md_len in
    let old = c.loop-head.bits in
    let from = c.loop-head.from in
    let head = c.in-Some.head in
    let next = c.in-Some.ensures.some in
    let low = c.in-Some.ensures.below in
    let here : AreHeads metas n old head =
    up_to_next metas (AreHeads metas n old) (heads_on metas n old) from head next c.loop-head.invariant.1 in (
      omega (arith, low),
      subst (λ (bits : List Bool). AreHeads metas n bits (head + 1)) (sym c.set.ensures)
          (head_there (λ (h : ℕ). IsSome (map.get metas h)) n old head here low next.there),
    )

pub returns-clause-count : goal.returns-clause-count
returns-clause-count c = c.loop-head.invariant.1.count

pub returns-clause-heads : goal.returns-clause-heads
returns-clause-heads c =
    let metas = c.args.metas.now in
    let n = c.args.md_len in
    let bits = c.loop-head.bits in
    (up_to_end metas (AreHeads metas n bits) (heads_on metas n bits) c.loop-head.from n c.loop-head.invariant.0
    c.in_default.ensures.none c.loop-head.invariant.1).heads
