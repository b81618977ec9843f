use Rattle.std.proofs.Common.{◌≡◌, ℕ, ◌+◌, Bool, List, Option, Some, None, length, sym, subst, ap, ◌∙◌, arith}
use Rattle.std.specs.Prelude.{option_copied}
use Rattle.std.specs.Ordering.{nat_cmp}
use Rattle.std.specs.FinMap as map
use Rattle.super_block.specs.Numbers.{fixed_clusters_of}
use Rattle.blob_meta.specs.declared.meta.Meta.{Meta}
use Rattle.unclean_load.specs.Sharing.{copies, AreCounted, AreInside}
use Rattle.unclean_load.proofs.Counts.{copies_some, copies_none, counted_same}
use Rattle.blob_meta.proofs.HeadsThere.{up_to_end, up_to_next}
use Rattle.unclean_load.proofs.sharing.claims_of.Goals as goal
use Rattle.unclean_load.proofs.sharing.claims_of.Goals.{in-Some-get, in_default-get}

module _ (metas : map.FinMap nat_cmp Meta) (fixed : ℕ) (bits : List Bool) (twice : Option ℕ) where
  -- the claims are those of the heads below a place
  abbrev Counted : ℕ → Type 0
  Counted end = AreCounted fixed (copies end (map.get metas)) bits twice

  counted_on : (h : ℕ) → map.get metas h ≡ None → Counted h → Counted (h + 1)
  counted_on h none x = counted_same fixed _ _ bits twice (λ k. sym (copies_none (map.get metas) k h none)) x

pub add-requires : goal.add-requires
add-requires c =
    let there : map.get c.args.metas.now c.in-Some.head ≡ Some c.in-Some-get.meta.now =
    sym c.get.ensures ∙ ap option_copied c.in-Some-get.is in
    let count = c.loop-head.invariant.1 in
    let inside = c.requires.inside c.in-Some.head c.in-Some-get.meta.now there in
    λ k some. let x = (inside k some).1 in omega (arith, x, count)

pub loop-head-preserved : goal.loop-head-preserved
loop-head-preserved c =
    let s = c.args.sup.now in
    let fixed = fixed_clusters_of s in
    let metas = map.get c.args.metas.now in
    let head = c.in-Some.head in
    let old = c.loop-head.claims in
    let count = c.loop-head.invariant.1 in
    let low = c.in-Some.ensures.below in
    let here : AreCounted fixed (copies head metas) old.clusters old.twice =
    up_to_next c.args.metas.now (Counted c.args.metas.now fixed old.clusters old.twice)
    (counted_on c.args.metas.now fixed old.clusters old.twice) c.loop-head.from head c.in-Some.ensures.some
    c.loop-head.invariant.2 in
    elim c.match-get.branch [
      | in-Some-get w ↦
          let m : Meta = w.in-Some-get.meta.now in
          let there : metas head ≡ Some m = sym c.get.ensures ∙ ap option_copied w.in-Some-get.is in
          let inside : AreInside fixed (length old.clusters) m.map =
          subst (λ (n : ℕ). AreInside fixed n m.map) (sym count) (c.requires.inside head m there) in
          rw w.claims-is (
            omega (arith, low),
            w.add.ensures.count ∙ count,
            counted_same fixed _ _ w.add.new.self.clusters w.add.new.self.twice
                (λ k. sym (copies_some metas k head m there))
                (w.add.ensures.claimed fixed (copies head metas) inside here),
          )
      | in_default-get w ↦
          let none : metas head ≡ None = sym c.get.ensures ∙ ap option_copied w.in_default-get.is in
          rw w.claims-is (
            omega (arith, low),
            count,
            counted_on c.args.metas.now fixed old.clusters old.twice head none here,
          )
    ]

pub returns-clause-counted : goal.returns-clause-counted
returns-clause-counted c =
    let fixed = fixed_clusters_of c.args.sup.now in
    let all = c.loop-head.claims in
    up_to_end c.args.metas.now (Counted c.args.metas.now fixed all.clusters all.twice)
    (counted_on c.args.metas.now fixed all.clusters all.twice) c.loop-head.from c.args.sup.now.md_len
    c.loop-head.invariant.0 c.in_default.ensures.none c.loop-head.invariant.2
