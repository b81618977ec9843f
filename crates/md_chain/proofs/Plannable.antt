-- What items that can be planned are, one by one.
use Rattle.std.proofs.Common.{◌≡◌, ℕ, zero, suc, ◌+◌, ◌<◌, ◌≤◌, List, [], ◌∷◌, length, drop, get_or, refl, ap, ◌∙◌}
use Rattle.std.proofs.Common.{arith, length-append}
use Rattle.std.specs.List.{All, AllByRecursion, flat_map}
use Rattle.std.proofs.lemmas.List.Elements.{All-from_recursion}
use Rattle.std.proofs.Math.Seq.{drop-cons}
use Rattle.std.proofs.lemmas.List.{drop_all}
use Rattle.descriptors.specs.declared.item.Item.{Item}
use Rattle.descriptors.specs.declared.item.Item.TheVariants.{Rle, Xattr, Flags, InternalXattr, Unknown}
use Rattle.blob_meta.specs.Says.{runs_in}
use Rattle.md_chain.specs.Packing.{AreAttributes, ArePlannable}
use Rattle.md_chain.specs.Laid.{CanPack, IsRuns}

attributes : (items : List Item) → AreAttributes items → AllByRecursion CanPack items
attributes [] a = tt
attributes (Rle runs ∷ []) a = (a, tt)
attributes (Rle runs ∷ x ∷ items) a = absurd a
attributes (Xattr key value ∷ items) a = (a.0, attributes items a.1)
attributes (InternalXattr key value ∷ items) a = (a.0, attributes items a.1)
attributes (Flags x y z ∷ items) a = absurd a
attributes (Unknown kind ∷ items) a = absurd a

-- items that can be planned can be packed one by one
pub can_pack : (items : List Item) → ArePlannable items → All CanPack items
can_pack [] a = absurd a
can_pack (Flags x y z ∷ items) a = All-from_recursion CanPack (Flags x y z ∷ items) (tt, attributes items a)
can_pack (Rle runs ∷ items) a = absurd a
can_pack (Xattr key value ∷ items) a = absurd a
can_pack (InternalXattr key value ∷ items) a = absurd a
can_pack (Unknown kind ∷ items) a = absurd a

last_runs : (items : List Item) (k : ℕ) (d : Item) → AreAttributes items → k < length items → IsRuns (get_or items k d)
    → drop (suc k) items ≡ []
last_runs [] k d a lt r = refl
last_runs (Rle runs ∷ []) k d a lt r = drop_all (suc k) (Rle runs ∷ []) (omega arith)
last_runs (Rle runs ∷ x ∷ items) k d a lt r = absurd a
last_runs (Xattr key value ∷ items) zero d a lt r = absurd r
last_runs (Xattr key value ∷ items) (suc k) d a lt r = last_runs items k d a.1 (omega (arith, lt)) r
last_runs (InternalXattr key value ∷ items) zero d a lt r = absurd r
last_runs (InternalXattr key value ∷ items) (suc k) d a lt r = last_runs items k d a.1 (omega (arith, lt)) r
last_runs (Flags x y z ∷ items) k d a lt r = absurd a
last_runs (Unknown kind ∷ items) k d a lt r = absurd a

-- nothing follows runs
pub runs_last : (items : List Item) (k : ℕ) (d : Item) → ArePlannable items → k < length items
    → IsRuns (get_or items k d) → drop (k + 1) items ≡ []
runs_last [] k d a lt r = absurd a
runs_last (Flags x y z ∷ items) zero d a lt r = absurd r
runs_last (Flags x y z ∷ items) (suc k) d a lt r =
    ap (λ (n : ℕ). drop n (Flags x y z ∷ items)) (let e : suc k + 1 ≡ suc (suc k) = omega arith in e)
    ∙ last_runs items k d a (omega (arith, lt)) r
runs_last (Rle runs ∷ items) k d a lt r = absurd a
runs_last (Xattr key value ∷ items) k d a lt r = absurd a
runs_last (InternalXattr key value ∷ items) k d a lt r = absurd a
runs_last (Unknown kind ∷ items) k d a lt r = absurd a

-- what is left begins with the next item
pub drop_one : {X : Type 0} (xs : List X) (i : ℕ) (d : X) → i < length xs → drop i xs ≡ get_or xs i d ∷ drop (i + 1) xs
drop_one xs i d lt = drop-cons xs i d lt ∙ ap (λ (n : ℕ). get_or xs i d ∷ drop n xs) (let e : suc i ≡ i + 1 =
    omega arith in e)

-- an item has no more runs than all have together
pub few_runs : (items : List Item) (k : ℕ) (d : Item) → k < length items
    → length (runs_in (get_or items k d)) ≤ length (flat_map runs_in items)
few_runs [] k d lt = absurd (omega arith)
few_runs (x ∷ items) zero d lt = omega (arith, length-append (runs_in x) (flat_map runs_in items))
few_runs (x ∷ items) (suc k) d lt = let rest = few_runs items k d (omega (arith, lt)) in
    omega (arith, rest, length-append (runs_in x) (flat_map runs_in items))
