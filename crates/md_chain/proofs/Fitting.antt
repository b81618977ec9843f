-- Each page's items fit its body and can be written, and the pages are few.
use Rattle.std.proofs.Common.{inl, inr, ◌≡◌, ℕ, zero, suc, ◌+◌, ◌-◌, ◌*◌, ◌/◌, ◌^◌, ◌<◌, ◌≤◌, Bool, true, false, cond}
use Rattle.std.proofs.Common.{List, [], ◌∷◌, length, map, refl, ap, arith, length-append}
use Rattle.std.specs.Prelude.{nat_le}
use Rattle.std.specs.List.{All, AllByRecursion, flat_map}
use Rattle.std.proofs.lemmas.Bool.{le-leb, lt-leb, lt-ltb, le-ltb, leb-true, cases_lt}
use Rattle.std.proofs.lemmas.List.Elements.{All-from_recursion}
use Rattle.std.proofs.lemmas.List.Sums.{sum_by-cons}
use Rattle.volume_model.specs.declared.lists.SlotRun.{SlotRun}
use Rattle.descriptors.specs.declared.item.Item.{Item}
use Rattle.descriptors.specs.declared.item.Item.TheVariants.{Rle, Xattr, Flags, InternalXattr, Unknown}
use Rattle.descriptors.specs.Writing.{item_size, spelled_size, IsWritable}
use Rattle.md_chain.specs.Laid.{CanPack, IsRuns}
use Rattle.blob_meta.specs.Says.{runs_in}
use Rattle.md_chain.specs.Packing.{AreAttributes, ArePlannable, AreFew, with_run, pieces, on_page, run_parts, on_first}
use Rattle.md_chain.specs.Packing.{parts_from, parts_of}

-- ---- each page's items fit

abbrev pub FitsIn : ℕ → List Item → Type 0
FitsIn room part = (spelled_size part ≤ room) × AllByRecursion IsWritable part

abbrev pub AllFit : ℕ → List (List Item) → Type 0
AllFit room [] = Unit {0}
AllFit room (part ∷ parts) = FitsIn room part × AllByRecursion (FitsIn 4072) parts

abbrev PieceFits : ℕ → List SlotRun → Type 0
PieceFits left piece = (0 < length piece) × (length piece ≤ left)

abbrev PiecesFit : ℕ → List (List SlotRun) → Type 0
PiecesFit left [] = Unit {0}
PiecesFit left (piece ∷ pieces) = (length piece ≤ left) × AllByRecursion (PieceFits 508) pieces

longer_piece : (left : ℕ) (r : SlotRun) (ps : List (List SlotRun)) → left < 508 → PiecesFit left ps
    → AllByRecursion (PieceFits 508) (with_run r ps)
longer_piece left r [] lt fit = ((omega arith, omega arith), tt)
longer_piece left r (p ∷ ps) lt fit = ((omega arith, let x = fit.0 in omega (arith, x, lt)), fit.1)

one_longer : (left : ℕ) (r : SlotRun) (ps : List (List SlotRun)) → PiecesFit left ps
    → PiecesFit (suc left) (with_run r ps)
one_longer left r [] fit = (omega arith, tt)
one_longer left r (p ∷ ps) fit = (let x = fit.0 in omega (arith, x), fit.1)

pieces_fit : (left : ℕ) (runs : List SlotRun) → PiecesFit left (pieces left runs)
pieces_fit zero [] = (omega arith, tt)
pieces_fit (suc left) [] = (omega arith, tt)
pieces_fit zero (r ∷ rs) = (omega arith, longer_piece 507 r (pieces 507 rs) (omega arith) (pieces_fit 507 rs))
pieces_fit (suc left) (r ∷ rs) = one_longer left r (pieces left rs) (pieces_fit left rs)

abbrev SomeFirst : List (List SlotRun) → Type 0
SomeFirst [] = Unit {0}
SomeFirst (piece ∷ pieces) = 0 < length piece

some_first : (left : ℕ) (runs : List SlotRun) → 0 < left → 0 < length runs → SomeFirst (pieces left runs)
some_first left [] some one = absurd (omega arith)
some_first zero (r ∷ rs) some one = absurd (omega arith)
some_first (suc left) (r ∷ rs) some one = go (pieces left rs)
  where
    go : (ps : List (List SlotRun)) → SomeFirst (with_run r ps)
    go [] = omega arith
    go (p ∷ ps) = omega arith

page_fits : (left room : ℕ) (piece : List SlotRun) → 5 + 8 * left ≤ room → 0 < length piece → length piece ≤ left
    → FitsIn room (on_page piece)
page_fits left room piece le some most = (omega (arith, le, most), (some, tt))

later_fit : (ps : List (List SlotRun)) → AllByRecursion (PieceFits 508) ps
    → AllByRecursion (FitsIn 4072) (map on_page ps)
later_fit [] fit = tt
later_fit (p ∷ ps) fit = (page_fits 508 4072 p (omega arith) fit.0.0 fit.0.1, later_fit ps fit.1)

all_pages_fit : (left room : ℕ) (ps : List (List SlotRun)) → 5 + 8 * left ≤ room → SomeFirst ps → PiecesFit left ps
    → AllFit room (map on_page ps)
all_pages_fit left room [] le some fit = tt
all_pages_fit left room (p ∷ ps) le some fit = (page_fits left room p le some fit.0, later_fit ps fit.1)

all_of : (parts : List (List Item)) → AllFit 4072 parts → AllByRecursion (FitsIn 4072) parts
all_of [] fit = tt
all_of (p ∷ ps) fit = fit

runs_fit : (room : ℕ) (runs : List SlotRun) → 0 < length runs → AllFit room (run_parts room runs)
runs_fit room runs some = elim (cases_lt room 13) [
  | inl lt ↦ rw (lt-ltb room 13 lt) (
    (omega arith, tt),
    all_of _
        (all_pages_fit 508 4072 (pieces 508 runs) (omega arith) (some_first 508 runs (omega arith) some)
        (pieces_fit 508 runs)),
  )
  | inr le ↦ rw (le-ltb room 13 le) (all_pages_fit ((room - 5) / 8) room (pieces ((room - 5) / 8) runs)
      (omega (arith, le)) (some_first ((room - 5) / 8) runs (omega (arith, le)) some)
      (pieces_fit ((room - 5) / 8) runs))
]

in_front : (room : ℕ) (x : Item) (parts : List (List Item)) → item_size x ≤ room → IsWritable x
    → AllFit (room - item_size x) parts → AllFit room (on_first (x ∷ []) parts)
in_front room x [] le w fit = ((omega (arith, sum_by-cons item_size x [], le), (w, tt)), tt)
in_front room x (p ∷ ps) le w fit = (
  (
    let s = fit.0.0 in
        omega (arith, sum_by-cons item_size x p, le, s),
    (w, fit.0.1),
  ),
  fit.1,
)

whole_fits : (room : ℕ) (x : Item) (items : List Item) → item_size x ≤ 4072 → IsWritable x
    → ((r : ℕ) → AllFit r (parts_from r items))
    → AllFit room (cond (nat_le (item_size x) room) (on_first (x ∷ []) (parts_from (room - item_size x) items))
    ([] ∷ on_first (x ∷ []) (parts_from (4072 - item_size x) items)))
whole_fits room x items le w rest = go (nat_le (item_size x) room) refl
  where
    go : (b : Bool) → nat_le (item_size x) room ≡ b → AllFit room
        (cond b (on_first (x ∷ []) (parts_from (room - item_size x) items))
        ([] ∷ on_first (x ∷ []) (parts_from (4072 - item_size x) items)))
    go true e = in_front room x (parts_from (room - item_size x) items) (leb-true (item_size x) room e) w
        (rest (room - item_size x))
    go false e = (
      (omega arith, tt),
      all_of _ (in_front 4072 x (parts_from (4072 - item_size x) items) le w
          (rest (4072 - item_size x))),
    )

attributes_fit : (room : ℕ) (items : List Item) → AreAttributes items → AllFit room (parts_from room items)
attributes_fit room [] a = ((omega arith, tt), tt)
attributes_fit room (Rle runs ∷ []) a = runs_fit room runs a
attributes_fit room (Rle runs ∷ x ∷ items) a = absurd a
attributes_fit room (Xattr key value ∷ items) a = whole_fits room (Xattr key value) items (let s = a.0 in
    omega (arith, s)) tt (λ r. attributes_fit r items a.1)
attributes_fit room (InternalXattr key value ∷ items) a =
    whole_fits room (InternalXattr key value) items (let s = a.0 in
    omega (arith, s)) tt (λ r. attributes_fit r items a.1)
attributes_fit room (Flags x y z ∷ items) a = absurd a
attributes_fit room (Unknown kind ∷ items) a = absurd a

all_fit : (items : List Item) → ArePlannable items → AllFit 4072 (parts_of items)
all_fit [] a = absurd a
all_fit (Flags x y z ∷ items) a = whole_fits 4072 (Flags x y z) items (omega arith) tt (λ r. attributes_fit r items a)
all_fit (Rle runs ∷ items) a = absurd a
all_fit (Xattr key value ∷ items) a = absurd a
all_fit (InternalXattr key value ∷ items) a = absurd a
all_fit (Unknown kind ∷ items) a = absurd a

-- each part fits the body of a page
pub parts_fit : (items : List Item) → ArePlannable items → All (FitsIn 4072) (parts_of items)
parts_fit items a = All-from_recursion (FitsIn 4072) (parts_of items) (all_of (parts_of items) (all_fit items a))

-- ---- they are few

length-with_run : (r : SlotRun) (ps : List (List SlotRun)) → 0 < length ps → length (with_run r ps) ≡ length ps
length-with_run r [] some = absurd (omega arith)
length-with_run r (p ∷ ps) some = refl

-- runs are at least one piece
pub some_pieces : (left : ℕ) (runs : List SlotRun) → 0 < length (pieces left runs)
some_pieces zero [] = omega arith
some_pieces (suc left) [] = omega arith
some_pieces zero (r ∷ rs) = omega arith
some_pieces (suc left) (r ∷ rs) = omega (
  arith,
  length-with_run r (pieces left rs) (some_pieces left rs),
  some_pieces
      left rs,
)

-- how many pieces there are
pub length-pieces : (left : ℕ) (runs : List SlotRun) → length (pieces left runs) ≡ 1 + (length runs - left + 507) / 508
length-pieces zero [] = omega arith
length-pieces (suc left) [] = omega arith
length-pieces zero (r ∷ rs) = omega (
  arith,
  length-with_run r (pieces 507 rs) (some_pieces 507 rs),
  length-pieces 507
      rs,
)
length-pieces (suc left) (r ∷ rs) = omega (
  arith,
  length-with_run r (pieces left rs) (some_pieces left rs),
  length-pieces left rs,
)

length-map_page : (ps : List (List SlotRun)) → length (map on_page ps) ≡ length ps
length-map_page [] = refl
length-map_page (p ∷ ps) = ap suc (length-map_page ps)

-- how many pages runs take where not one more run fits the current page
pub length-full_runs : (room : ℕ) (runs : List SlotRun) → room < 13
    → length (run_parts room runs) ≡ 2 + (length runs - 508 + 507) / 508
length-full_runs room runs lt = rw (lt-ltb room 13 lt)
    (omega (arith, length-map_page (pieces 508 runs), length-pieces 508 runs))

-- how many pages runs take where some fit the current page
pub length-run_parts : (room : ℕ) (runs : List SlotRun) → 13 ≤ room
    → length (run_parts room runs) ≡ 1 + (length runs - (room - 5) / 8 + 507) / 508
length-run_parts room runs le = rw (le-ltb room 13 le)
    (omega (arith, length-map_page (pieces ((room - 5) / 8) runs), length-pieces ((room - 5) / 8) runs))

few_run_parts : (room : ℕ) (runs : List SlotRun) → (0 < length (run_parts room runs))
    × (length (run_parts room runs) ≤ 2 + length runs)
few_run_parts room runs = elim (cases_lt room 13) [
  | inl lt ↦ (omega (arith, length-full_runs room runs lt), omega (arith, length-full_runs room runs lt))
  | inr le ↦ (omega (arith, length-run_parts room runs le), omega (arith, length-run_parts room runs le))
]

length-on_first : (x : Item) (parts : List (List Item)) → 0 < length parts
    → length (on_first (x ∷ []) parts) ≡ length parts
length-on_first x [] some = absurd (omega arith)
length-on_first x (p ∷ ps) some = refl

Few : ℕ → List Item → Type 0
Few room items = (0 < length (parts_from room items))
    × (length (parts_from room items) ≤ 1 + length items + length (flat_map runs_in items))

few_whole : (room : ℕ) (x : Item) (items : List Item) → ((r : ℕ) → Few r items)
    → (0 < length (cond (nat_le (item_size x) room) (on_first (x ∷ []) (parts_from (room - item_size x) items))
    ([] ∷ on_first (x ∷ []) (parts_from (4072 - item_size x) items))))
    × (length (cond (nat_le (item_size x) room) (on_first (x ∷ []) (parts_from (room - item_size x) items))
    ([] ∷ on_first (x ∷ []) (parts_from (4072 - item_size x) items))) ≤ 2 + length items
    + length (flat_map runs_in items))
unfolding Few
few_whole room x items rest = go (nat_le (item_size x) room)
  where
    go : (b : Bool) → (0 < length (cond b (on_first (x ∷ []) (parts_from (room - item_size x) items))
        ([] ∷ on_first (x ∷ []) (parts_from (4072 - item_size x) items))))
        × (length (cond b (on_first (x ∷ []) (parts_from (room - item_size x) items))
        ([] ∷ on_first (x ∷ []) (parts_from (4072 - item_size x) items))) ≤ 2 + length items
        + length (flat_map runs_in items))
    go true = let h = rest (room - item_size x) in let some = h.0 in let few = h.1 in let e =
        length-on_first x (parts_from (room - item_size x) items) some in
        (omega (arith, e, some), omega (arith, e, few))
    go false = let h = rest (4072 - item_size x) in let some = h.0 in let few = h.1 in let e =
        length-on_first x (parts_from (4072 - item_size x) items) some in
        (omega (arith, e, some), omega (arith, e, few))

few_from : (room : ℕ) (items : List Item) → Few room items
unfolding Few
few_from room [] = (omega arith, omega arith)
few_from room (Rle runs ∷ items) = let f = few_run_parts room runs in let some = f.0 in let few = f.1 in
    (some, omega (arith, few, length-append runs (flat_map runs_in items)))
few_from room (Xattr key value ∷ items) = let f = few_whole room (Xattr key value) items (λ r. few_from r items) in
    let few = f.1 in (f.0, omega (arith, few))
few_from room (InternalXattr key value ∷ items) = let f =
    few_whole room (InternalXattr key value) items (λ r. few_from r items) in let few = f.1 in (f.0, omega (arith, few))
few_from room (Flags x y z ∷ items) = let f = few_whole room (Flags x y z) items (λ r. few_from r items) in let few =
    f.1 in (f.0, omega (arith, few))
few_from room (Unknown kind ∷ items) = let f = few_whole room (Unknown kind) items (λ r. few_from r items) in let few =
    f.1 in (f.0, omega (arith, few))

-- items are at least one part
pub some_parts : (room : ℕ) (items : List Item) → 0 < length (parts_from room items)
unfolding Few
some_parts room items = (few_from room items).0

-- few items are at most 2^31 parts
pub few_parts : (items : List Item) → AreFew items → length (parts_of items) ≤ 2 ^ 31
unfolding Few
few_parts items few = let f = (few_from 4072 items).1 in omega (arith, f, few)

-- ---- one item more is counted

module _ (rest : List Item) where
  kept_on : (room size : ℕ) (x : Item) → size ≤ room
      → length (cond (nat_le size room) (on_first (x ∷ []) (parts_from (room - size) rest))
      ([] ∷ on_first (x ∷ []) (parts_from (4072 - size) rest))) ≡ length (parts_from (room - size) rest)
  kept_on room size x le = rw (le-leb size room le)
      (length-on_first x (parts_from (room - size) rest) (some_parts (room - size) rest))

  turned_to : (room size : ℕ) (x : Item) → room < size
      → length (cond (nat_le size room) (on_first (x ∷ []) (parts_from (room - size) rest))
      ([] ∷ on_first (x ∷ []) (parts_from (4072 - size) rest))) ≡ 1 + length (parts_from (4072 - size) rest)
  turned_to room size x lt = rw (lt-leb size room lt)
      (omega (arith, length-on_first x (parts_from (4072 - size) rest) (some_parts (4072 - size) rest)))

  -- for `chain_len`: an item that fits begins no page
  pub length-kept : (room : ℕ) (x : Item) → CanPack x → (IsRuns x → ⊥) → item_size x ≤ room
      → length (parts_from room (x ∷ rest)) ≡ length (parts_from (room - item_size x) rest)
  length-kept room (Rle runs) can whole le = absurd (whole tt)
  length-kept room (Xattr key value) can whole le = kept_on room (item_size (Xattr key value)) (Xattr key value) le
  length-kept room (InternalXattr key value) can whole le =
      kept_on room (item_size (InternalXattr key value)) (InternalXattr key value) le
  length-kept room (Flags x y z) can whole le = kept_on room 29 (Flags x y z) le
  length-kept room (Unknown kind) can whole le = absurd can

  -- for `chain_len`: an item that doesn't fit begins a page
  pub length-turned : (room : ℕ) (x : Item) → CanPack x → (IsRuns x → ⊥) → room < item_size x
      → length (parts_from room (x ∷ rest)) ≡ 1 + length (parts_from (4072 - item_size x) rest)
  length-turned room (Rle runs) can whole lt = absurd (whole tt)
  length-turned room (Xattr key value) can whole lt = turned_to room (item_size (Xattr key value)) (Xattr key value) lt
  length-turned room (InternalXattr key value) can whole lt =
      turned_to room (item_size (InternalXattr key value)) (InternalXattr key value) lt
  length-turned room (Flags x y z) can whole lt = turned_to room 29 (Flags x y z) lt
  length-turned room (Unknown kind) can whole lt = absurd can

-- an item that can be packed fits an empty body
pub can_size : (x : Item) → CanPack x → (IsRuns x → ⊥) → item_size x ≤ 4072
can_size (Rle runs) can whole = absurd (whole tt)
can_size (Xattr key value) can whole = omega (arith, can)
can_size (InternalXattr key value) can whole = omega (arith, can)
can_size (Flags x y z) can whole = omega arith
can_size (Unknown kind) can whole = absurd can
