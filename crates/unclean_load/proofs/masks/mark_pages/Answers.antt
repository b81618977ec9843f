use Rattle.std.proofs.Common.{ℕ, ◌≡◌, ◌+◌, ◌<◌, ◌≤◌, Bool, true, List, length, take, refl, sym, subst, ◌∙◌, arith}
use Rattle.std.specs.Prelude.{slice_index_or}
use Rattle.std.proofs.lemmas.List.{take_all}
use Rattle.md_chain.specs.Chain.{is_among}
use Rattle.store_model.specs.Places.{AreDistinct}
use Rattle.unclean_load.specs.Claiming.{AreAdded, AreBelow, AreNew}
use Rattle.unclean_load.proofs.Marks.{Marking, marks_begin, marks_on, marked_before, at_among}
use Rattle.unclean_load.proofs.masks.mark_pages.Goals as goal

low_at : (old bits : List Bool) (pages items : List ℕ) (i : ℕ) → items ≡ pages → AreBelow (length old) pages
    → length bits ≡ length old → i < length items → slice_index_or items i 0 < length bits
low_at old bits pages items i same low count lt =
    let x : slice_index_or items i 0 < length old =
    low _ (subst (λ (ps : List ℕ). is_among (slice_index_or items i 0) ps ≡ true) same (at_among items i 0 lt)) in
    omega (arith, x, count)

pub loop-page-init : goal.loop-page-init
loop-page-init c = marks_begin _ _

pub get-requires : goal.get-requires
get-requires c =
    low_at _ _ _ _ _ c.as_slice-page-items.ensures c.requires.low c.loop-page.invariant.count c.loop-page-test.true

pub set-requires : goal.set-requires
set-requires c =
    low_at _ _ _ _ _ c.as_slice-page-items.ensures c.requires.low c.loop-page.invariant.count c.loop-page-test.true

pub returns-then-get-clause-count : goal.returns-then-get-clause-count
returns-then-get-clause-count c = c.loop-page.invariant.count

pub returns-then-get-clause-fault : goal.returns-then-get-clause-fault
returns-then-get-clause-fault c =
    let items = c.as_slice-page-items.result.now in
    let i = c.loop-page.page-index in (
      refl,
      subst (λ (ps : List ℕ). is_among (slice_index_or items i 0) ps ≡ true) c.as_slice-page-items.ensures
          (at_among items i 0 c.loop-page-test.true),
      marked_before _ items _ i c.loop-page.invariant c.loop-page-test.true
          (subst AreDistinct (sym c.as_slice-page-items.ensures) c.requires.differ) (sym c.get.ensures ∙ c.if-get.true),
    )

pub loop-page-preserved : goal.loop-page-preserved
loop-page-preserved c =
    let items = c.as_slice-page-items.result.now in
    let i = c.loop-page.page-index in
    subst (λ (b : List Bool). Marking c.args.bits.now items b (i + 1)) (sym c.set.ensures)
    (marks_on c.args.bits.now items c.loop-page.bits i c.loop-page.invariant c.loop-page-test.true
    (low_at _ _ _ _ _ c.as_slice-page-items.ensures c.requires.low c.loop-page.invariant.count c.loop-page-test.true)
    (sym c.get.ensures ∙ c.if-get.false))

all_of : (items pages : List ℕ) (i : ℕ) → items ≡ pages → length items ≤ i → take i items ≡ pages
all_of items pages i same le = take_all i items le ∙ same

pub returns-clause-count : goal.returns-clause-count
returns-clause-count c = c.loop-page.invariant.count

pub returns-clause-added : goal.returns-clause-added
returns-clause-added c =
    subst (λ (ps : List ℕ). AreAdded c.args.bits.now ps c.loop-page.bits)
    (all_of _ _ _ c.as_slice-page-items.ensures c.loop-page-test.false) c.loop-page.invariant.added

pub returns-clause-new : goal.returns-clause-new
returns-clause-new c =
    subst (λ (ps : List ℕ). AreNew c.args.bits.now ps)
    (all_of _ _ _ c.as_slice-page-items.ensures c.loop-page-test.false) c.loop-page.invariant.new
