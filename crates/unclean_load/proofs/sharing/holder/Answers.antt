use Rattle.std.proofs.Common.{◌≡◌, ℕ, ◌+◌, Some, None, sym, ap, ◌∙◌, arith}
use Rattle.std.specs.Prelude.{option_copied}
use Rattle.std.specs.Ordering.{nat_cmp}
use Rattle.std.specs.FinMap as map
use Rattle.blob_meta.specs.declared.meta.Meta.{Meta}
use Rattle.unclean_load.specs.Sharing.{copies}
use Rattle.unclean_load.proofs.Counts.{copies_some, copies_none}
use Rattle.blob_meta.proofs.HeadsThere.{up_to_end, up_to_next}
use Rattle.unclean_load.proofs.sharing.holder.Goals as goal
use Rattle.unclean_load.proofs.sharing.holder.Goals.{in-Some-get+else-found-n, in_default-get}

module _ (metas : map.FinMap nat_cmp Meta) (cluster found : ℕ) where
  -- so many slots of the heads below a place have the cluster
  abbrev Found : ℕ → Type 0
  Found end = found ≡ copies end (map.get metas) cluster

  found_on : (h : ℕ) → map.get metas h ≡ None → Found h → Found (h + 1)
  found_on h none so_far = so_far ∙ sym (copies_none (map.get metas) cluster h none)

pub overflow_add-found : goal.overflow_add-found
overflow_add-found c =
    let a = c.loop-head.invariant.2 in
    let b = c.copies_in-found.ensures.few in let d = c.requires.few in omega (arith, a, b, d)

pub returns-then-found-n : goal.returns-then-found-n
returns-then-found-n c =
    let metas = map.get c.args.metas.now in
    let head = c.in-Some.head in
    let there : metas head ≡ Some c.in-Some-get.meta.now = sym c.get.ensures ∙ ap option_copied c.in-Some-get.is in
    let next = copies_some metas c.args.cluster head c.in-Some-get.meta.now there in
    let so_far : c.loop-head.found ≡ copies head metas c.args.cluster =
    up_to_next c.args.metas.now (Found c.args.metas.now c.args.cluster c.loop-head.found)
    (found_on c.args.metas.now c.args.cluster c.loop-head.found) c.loop-head.from head c.in-Some.ensures.some
    c.loop-head.invariant.1 in
    let less = c.loop-head.invariant.2 in
    let more = c.copies_in-found.ensures.count in
    let all = c.if-found-n.true in
    record {
      low = c.in-Some.ensures.below;
      before = omega (arith, so_far, less);
      here = omega
          (arith, next, so_far, more, all);
    }

pub loop-head-preserved : goal.loop-head-preserved
loop-head-preserved c =
    let metas = map.get c.args.metas.now in
    let head = c.in-Some.head in
    let low = c.in-Some.ensures.below in
    let so_far : c.loop-head.found ≡ copies head metas c.args.cluster =
    up_to_next c.args.metas.now (Found c.args.metas.now c.args.cluster c.loop-head.found)
    (found_on c.args.metas.now c.args.cluster c.loop-head.found) c.loop-head.from head c.in-Some.ensures.some
    c.loop-head.invariant.1 in
    elim c.match-get.branch [
      | in-Some-get+else-found-n w ↦
          let m = w.in-Some-get.meta.now in
          let there : metas head ≡ Some m = sym c.get.ensures ∙ ap option_copied w.in-Some-get.is in
          let next = copies_some metas c.args.cluster head m there in
          let more = w.copies_in-found.ensures.count in
          let less = w.if-found-n.false in
          rw w.found-is (omega (arith, low), omega (arith, next, so_far, more), less)
      | in_default-get w ↦
          let none : metas head ≡ None = sym c.get.ensures ∙ ap option_copied w.in_default-get.is in
          rw w.found-is (
            omega (arith, low),
            found_on c.args.metas.now c.args.cluster c.loop-head.found head none so_far,
            c.loop-head.invariant.2,
          )
    ]

pub unreachable-requires : goal.unreachable-requires
unreachable-requires c =
    let all : c.loop-head.found ≡ copies c.args.md_len (map.get c.args.metas.now) c.args.cluster =
    up_to_end c.args.metas.now (Found c.args.metas.now c.args.cluster c.loop-head.found)
    (found_on c.args.metas.now c.args.cluster c.loop-head.found) c.loop-head.from c.args.md_len
    c.loop-head.invariant.0 c.in_default.ensures.none c.loop-head.invariant.1 in
    let less = c.loop-head.invariant.2 in let some = c.requires.some in omega (arith, all, less, some)
