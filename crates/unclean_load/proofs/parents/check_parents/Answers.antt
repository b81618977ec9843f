use Rattle.std.proofs.Common.{rules, ◌≡◌, ℕ, List, Option, Some, None, refl, sym, ap, ◌∙◌, arith}
use Rattle.std.specs.Prelude.{option_copied}
use Rattle.std.specs.Ordering.{nat_cmp}
use Rattle.std.specs.FinMap as map
use Rattle.blob_meta.specs.Heads.{IsNextFrom}
use Rattle.blob_meta.specs.declared.meta.Meta.{Meta}
use Rattle.store_model.specs.Maps.{Metas}
use Rattle.unclean_load.specs.declared.fault.LoadFault.{LoadFault}
use Rattle.unclean_load.specs.declared.fault.LoadFault.TheVariants as fault
use Rattle.unclean_load.specs.Parents.{IsParentFault, ShowsParent, ShowsParentFirst}
use Rattle.unclean_load.specs.Walks.{ShowsOwnParent}
use Rattle.blob_meta.proofs.HeadsThere.{up_to_end, up_to_next}
use Rattle.unclean_load.proofs.ParentsTested.{Tested, none_to_test, one_tested, shows_first, all_tested}
use Rattle.unclean_load.proofs.parents.check_parents.Goals as goal
use Rattle.unclean_load.proofs.parents.check_parents.Goals.{in-Some-get+in_ok-check_parent+else-comes_back}
use Rattle.unclean_load.proofs.parents.check_parents.Goals.{in_default-get}

own_shown : (metas : Metas) (head : ℕ) (m : Meta) (why : LoadFault) → ShowsOwnParent metas head m why
    → ((e : LoadFault) → ShowsParent metas head m e → ShowsParentFirst metas e) → IsParentFault metas why
own_shown metas head m (fault.NoParentBlob blob parent) x first = first (fault.NoParentBlob blob parent) x
own_shown metas head m (fault.WritableParent blob parent) x first = first (fault.WritableParent blob parent) x
own_shown metas head m (fault.ParentLoop blob) x first = absurd x
own_shown metas head m (fault.Super e) x first = absurd x
own_shown metas head m (fault.Chain at e) x first = absurd x
own_shown metas head m (fault.Meta at e) x first = absurd x
own_shown metas head m (fault.MapsTooLarge slots) x first = absurd x
own_shown metas head m (fault.Shared cluster a b) x first = absurd x
own_shown metas head m (fault.NoRoom blob has wants) x first = absurd x
own_shown metas head m fault.ReadFault x first = absurd x
own_shown metas head m fault.Memory x first = absurd x

tested_next : (metas : map.FinMap nat_cmp Meta) (begun : List (Option ℕ)) (count from next : ℕ)
    → IsNextFrom metas from next → Tested (map.get metas) begun from count → Tested (map.get metas) begun next count
tested_next metas begun count from next is t =
    up_to_next metas (λ (k : ℕ). Tested (map.get metas) begun k count)
    (λ h none x. none_to_test (map.get metas) begun h count x none) from next is t

pub returns-in_err-check_parent-clause-fault : goal.returns-in_err-check_parent-clause-fault
returns-in_err-check_parent-clause-fault c =
    let metas = map.get c.args.metas.now in
    let head = c.in-Some.head in
    let begun = c.loop-head.walks.begun.items in
    let m = c.in-Some-get.meta.now in
    let there : metas head ≡ Some m = sym c.get.ensures ∙ ap option_copied c.in-Some-get.is in
    let here = tested_next c.args.metas.now begun c.args.md_len c.loop-head.from head c.in-Some.ensures.some
    c.loop-head.invariant.1 in
    let why = c.in_err-check_parent.field-0.0 in
    let x : IsParentFault metas why =
    own_shown metas head m why c.in_err-check_parent.ensures.fault
    (shows_first metas begun head c.args.md_len here m there) in
    search rules

pub returns-then-comes_back-clause-fault : goal.returns-then-comes_back-clause-fault
returns-then-comes_back-clause-fault c =
    let metas = map.get c.args.metas.now in
    let head = c.in-Some.head in
    let begun = c.loop-head.walks.begun.items in
    let m = c.in-Some-get.meta.now in
    let there : metas head ≡ Some m = sym c.get.ensures ∙ ap option_copied c.in-Some-get.is in
    let here = tested_next c.args.metas.now begun c.args.md_len c.loop-head.from head c.in-Some.ensures.some
    c.loop-head.invariant.1 in
    shows_first metas begun head c.args.md_len here m there (fault.ParentLoop head)
    (refl, c.in_ok-check_parent.ensures.right, c.comes_back.ensures.back c.if-comes_back.true)

pub loop-head-preserved : goal.loop-head-preserved
loop-head-preserved c =
    let metas = map.get c.args.metas.now in
    let head = c.in-Some.head in
    let old = c.loop-head.walks.begun.items in
    let n = c.args.md_len in
    let low = c.in-Some.ensures.below in
    let here = tested_next c.args.metas.now old n c.loop-head.from head c.in-Some.ensures.some
    c.loop-head.invariant.1 in
    elim c.match-get.branch [
      | in-Some-get+in_ok-check_parent+else-comes_back w ↦
          let m = w.in-Some-get.meta.now in
          let there : metas head ≡ Some m = sym c.get.ensures ∙ ap option_copied w.in-Some-get.is in
          let e = w.comes_back.ensures in
          let ends = w.if-comes_back.false in
          rw w.walks-is (
            omega (arith, low),
            one_tested metas old head n here w.comes_back.new.self.begun.items m there e.count
                w.in_ok-check_parent.ensures.right (e.ends ends) (e.walked ends),
          )
      | in_default-get w ↦
          let none : metas head ≡ None = sym c.get.ensures ∙ ap option_copied w.in_default-get.is in
          rw w.walks-is (omega (arith, low), none_to_test metas old head n here none)
    ]

pub returns-clause-right : goal.returns-clause-right
returns-clause-right c =
    let metas = map.get c.args.metas.now in
    let begun = c.loop-head.walks.begun.items in
    let n = c.args.md_len in
    all_tested metas begun n c.requires.below
    (up_to_end c.args.metas.now (λ (k : ℕ). Tested metas begun k n) (λ h none x. none_to_test metas begun h n x none)
    c.loop-head.from n c.loop-head.invariant.0 c.in_default.ensures.none c.loop-head.invariant.1)
