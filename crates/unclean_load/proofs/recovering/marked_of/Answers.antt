use Rattle.std.proofs.Common.{◌≡◌, ℕ, ◌+◌, Option, Some, None, is_some, true, false, refl, sym, ap, subst}
use Rattle.std.proofs.Common.{◌∙◌, arith}
use Rattle.std.specs.Prelude.{option_copied}
use Rattle.std.specs.FinMap as map
use Rattle.blob_meta.specs.declared.meta.Meta.{Meta}
use Rattle.blob_meta.specs.Resolving.{mark_of}
use Rattle.blob_meta.proofs.HeadsThere.{up_to_end, up_to_next}
use Rattle.unclean_load.proofs.MarkedRead.{IsMarkedBelow, marked_begin, no_blob_marked, blob_unmarked, marked_more}
use Rattle.unclean_load.proofs.MarkedRead.{marked_all}
use Rattle.unclean_load.proofs.recovering.marked_of.Goals as goal
use Rattle.unclean_load.proofs.recovering.marked_of.Goals.{in-Some-get+then-is_some+in_ok-try_copy+in_ok-insert}
use Rattle.unclean_load.proofs.recovering.marked_of.Goals.{in-Some-get+else-is_some, in_default-get}

pub loop-head-init : goal.loop-head-init
loop-head-init c = (
  omega arith,
  marked_begin (map.get c.args.metas.now) c.new-marked.result c.new-marked.ensures,
)

some_of : {X : Type 0} (o : Option X) → is_some o ≡ true → (x : X) × (o ≡ Some x)
some_of None is = absurd (cc is)
some_of (Some x) is = (x, refl)

none_of : {X : Type 0} (o : Option X) → is_some o ≡ false → o ≡ None
none_of None is = refl
none_of (Some x) is = absurd (cc is)

pub loop-head-preserved : goal.loop-head-preserved
loop-head-preserved c =
    let metas = map.get c.args.metas.now in
    let head = c.in-Some.head in
    let found = c.loop-head.marked in
    let low = c.in-Some.ensures.below in
    let b : IsMarkedBelow metas found head =
    up_to_next c.args.metas.now (λ (k : ℕ). IsMarkedBelow metas found k)
    (λ h none x. no_blob_marked metas found h x none) c.loop-head.from head c.in-Some.ensures.some
    c.loop-head.invariant.1 in
    elim c.match-get.branch [
      | in-Some-get+then-is_some+in_ok-try_copy+in_ok-insert w ↦
          let m = w.in-Some-get.meta.now in
          let there : metas head ≡ Some m = sym c.get.ensures ∙ ap option_copied w.in-Some-get.is in
          let copied : m ≡ w.in_ok-try_copy.field-0 = sym w.in_ok-try_copy.ensures in
          let has = some_of w.mark_of.result (sym w.is_some.ensures ∙ w.if-is_some.true) in
          rw w.marked-is (
            omega (arith, low),
            subst (λ f. IsMarkedBelow metas f (head + 1)) (sym w.in_ok-insert.ensures.ok)
                (marked_more metas found head b w.in_ok-try_copy.field-0 _ (there ∙ ap (λ (x : Meta). Some x) copied)
                (ap mark_of (sym copied) ∙ (sym w.mark_of.ensures ∙ ap option_copied has.1))),
          )
      | in-Some-get+else-is_some w ↦
          let m = w.in-Some-get.meta.now in
          let there : metas head ≡ Some m = sym c.get.ensures ∙ ap option_copied w.in-Some-get.is in
          let none = none_of w.mark_of.result (sym w.is_some.ensures ∙ w.if-is_some.false) in
          rw w.marked-is (
            omega (arith, low),
            blob_unmarked metas found head b m there (sym w.mark_of.ensures ∙ ap option_copied none),
          )
      | in_default-get w ↦
          let none : metas head ≡ None = sym c.get.ensures ∙ ap option_copied w.in_default-get.is in
          rw w.marked-is (omega (arith, low), no_blob_marked metas found head b none)
    ]

pub returns : goal.returns
returns c =
    let metas = map.get c.args.metas.now in
    let found = c.loop-head.marked in
    marked_all metas found c.args.md_len c.requires
    (up_to_end c.args.metas.now (λ (k : ℕ). IsMarkedBelow metas found k)
    (λ h none x. no_blob_marked metas found h x none) c.loop-head.from c.args.md_len c.loop-head.invariant.0
    c.in_default.ensures.none c.loop-head.invariant.1)
