-- The items of metadata can be planned.
use Rattle.std.proofs.Common.{◌≡◌, ℕ, ◌+◌, ◌^◌, ◌<◌, ◌≤◌, List, [], ◌∷◌, ◌++◌, length, sym, ap, subst, arith}
use Rattle.std.proofs.Common.{length-append}
use Rattle.std.specs.List.{All, AllByRecursion, flat_map}
use Rattle.std.proofs.lemmas.List.Elements.{recursion_from_All}
use Rattle.std.proofs.lemmas.List.Sums.{sum_by-cons}
use Rattle.volume_model.specs.declared.lists.SlotRun.{SlotRun}
use Rattle.volume_model.specs.declared.text.Xattr.{Xattr as AnXattr}
use Rattle.descriptors.specs.declared.item.Item.{Item}
use Rattle.descriptors.specs.Runs.{slots_of_all, IsLongest}
use Rattle.descriptors.proofs.LongestRuns.{length-slots}
use Rattle.blob_meta.specs.declared.meta.Meta.{Meta}
use Rattle.blob_meta.specs.Items.{IsItemsOf, xattr_items, internal_items, run_items, items_of}
use Rattle.blob_meta.specs.Says.{runs_in}
use Rattle.md_chain.specs.Packing.{AreAttributes, ArePlannable, AreFew, FitsPage}

xattrs_first : (xs : List AnXattr) (rest : List Item) → AllByRecursion FitsPage xs → AreAttributes rest
    → AreAttributes (xattr_items xs ++ rest)
xattrs_first [] rest fit are = are
xattrs_first (x ∷ xs) rest fit are = (fit.0, xattrs_first xs rest fit.1 are)

internals_first : (xs : List AnXattr) (rest : List Item) → AllByRecursion FitsPage xs → AreAttributes rest
    → AreAttributes (internal_items xs ++ rest)
internals_first [] rest fit are = are
internals_first (x ∷ xs) rest fit are = (fit.0, internals_first xs rest fit.1 are)

runs_are : (runs : List SlotRun) → AreAttributes (run_items runs)
runs_are [] = tt
runs_are (r ∷ rs) = omega arith

-- the items of metadata can be planned, where one page takes each attribute
pub plannable : (m : Meta) (items : List Item) → IsItemsOf m items → All FitsPage m.xattrs → All FitsPage m.internal
    → ArePlannable items
plannable m items is xs ys =
    subst ArePlannable (sym is.items_are)
    (xattrs_first m.xattrs (internal_items m.internal ++ run_items is.runs) (recursion_from_All FitsPage m.xattrs xs)
    (internals_first m.internal (run_items is.runs) (recursion_from_All FitsPage m.internal ys) (runs_are is.runs)))

-- ---- they are few

some_slots : (runs : List SlotRun) → IsLongest runs → length runs ≤ slots_of_all runs
some_slots [] l = omega arith
some_slots (r ∷ []) l = omega (arith, l, sum_by-cons (λ (s : SlotRun). s.length) r [])
some_slots (r ∷ s ∷ rs) l = let a = l.0 in omega (
  arith,
  a,
  sum_by-cons (λ (s : SlotRun). s.length) r (s ∷ rs),
  some_slots (s ∷ rs) l.2,
)

abbrev weight : List Item → ℕ
weight items = length items + length (flat_map runs_in items)

weight-xattrs : (xs : List AnXattr) (rest : List Item) → weight (xattr_items xs ++ rest) ≡ length xs + weight rest
weight-xattrs [] rest = omega arith
weight-xattrs (x ∷ xs) rest = omega (arith, weight-xattrs xs rest)

weight-internals : (xs : List AnXattr) (rest : List Item) → weight (internal_items xs ++ rest) ≡ length xs + weight rest
weight-internals [] rest = omega arith
weight-internals (x ∷ xs) rest = omega (arith, weight-internals xs rest)

weight-runs : (runs : List SlotRun) → weight (run_items runs) ≤ 1 + length runs
weight-runs [] = omega arith
weight-runs (r ∷ rs) = omega (arith, length-append (r ∷ rs) [])

-- the items of metadata are few, where its attributes and slots are
pub few : (m : Meta) (items : List Item) → IsItemsOf m items
    → length m.xattrs + length m.internal + length m.map + 2 < 2 ^ 31 → AreFew items
few m items is small =
    let runs = is.runs in
    let slots : length runs ≤ length m.map = omega (
      arith,
      some_slots runs is.longest,
      length-slots runs,
      ap
          (λ (xs : _). length xs) is.spelt,
    ) in
    let a = weight-xattrs m.xattrs (internal_items m.internal ++ run_items runs) in
    let b = weight-internals m.internal (run_items runs) in
    let c = weight-runs runs in
    let all : AreFew (items_of m runs) = omega (arith, a, b, c, slots, small) in
    subst AreFew (sym is.items_are) all
