-- The items in the pages say what the planned ones say.
use Rattle.std.proofs.Common.{◌≡◌, ℕ, zero, suc, ◌-◌, ◌/◌, Bool, true, false, cond, List, [], ◌∷◌, ◌++◌, map, refl, sym}
use Rattle.std.proofs.Common.{ap, subst, ◌∙◌, append-nil}
use Rattle.std.specs.Prelude.{nat_le, nat_lt}
use Rattle.std.specs.List.{flat_map, filter_map}
use Rattle.volume_model.specs.declared.lists.SlotRun.{SlotRun}
use Rattle.descriptors.specs.declared.item.Item.{Item}
use Rattle.descriptors.specs.declared.item.Item.TheVariants.{Rle, Xattr, Flags, InternalXattr, Unknown}
use Rattle.descriptors.specs.Writing.{item_size}
use Rattle.blob_meta.specs.declared.meta.Flags.{Flags as TheFlags}
use Rattle.blob_meta.specs.Says.{last_flags, xattr_in, internal_in, meta_of, runs_in}
use Rattle.md_chain.specs.Packing.{AreAttributes, ArePlannable, with_run, pieces, on_page, run_parts, on_first}
use Rattle.md_chain.specs.Packing.{parts_from}
use Rattle.md_chain.specs.Planned.{written_items}

abbrev together : List (List Item) → List Item
together parts = flat_map (λ part. part) parts

-- lists of items from which a reader takes the same
record SaySame (xs ys : List Item) : Type 0 where
  flags : (before : TheFlags) → last_flags before xs ≡ last_flags before ys
  xattrs : filter_map xattr_in xs ≡ filter_map xattr_in ys
  internal : filter_map internal_in xs ≡ filter_map internal_in ys
  runs : flat_map runs_in xs ≡ flat_map runs_in ys

same_meta : (head : ℕ) (xs ys : List Item) → SaySame xs ys → meta_of head xs ≡ meta_of head ys
same_meta head xs ys s =
    let f = s.flags (record { invalid = 0; data_ro = 0; md_ro = 0 }) in
    let x = s.xattrs in
    let i = s.internal in
    let r = s.runs in
    cc

same_cons : (x : Item) (xs ys : List Item) → SaySame xs ys → SaySame (x ∷ xs) (x ∷ ys)
same_cons (Rle runs) xs ys s = record {
  flags = s.flags;
  xattrs = s.xattrs;
  internal = s.internal;
  runs = ap (λ rs. runs ++ rs) s.runs;
}
same_cons (Xattr key value) xs ys s = record {
  flags = s.flags;
  xattrs = ap (λ zs. record { key = key; value = value } ∷ zs) s.xattrs;
  internal = s.internal;
  runs = s.runs;
}
same_cons (InternalXattr key value) xs ys s = record {
  flags = s.flags;
  xattrs = s.xattrs;
  internal = ap (λ zs. record { key = key; value = value } ∷ zs) s.internal;
  runs = s.runs;
}
same_cons (Flags a b c) xs ys s = record {
  flags = λ before. s.flags (record { invalid = a; data_ro = b; md_ro = c });
  xattrs = s.xattrs;
  internal = s.internal;
  runs = s.runs;
}
same_cons (Unknown kind) xs ys s = record { flags = s.flags; xattrs = s.xattrs; internal = s.internal; runs = s.runs }

-- ---- runs

-- what pieces of runs say, each in an item of its own
record SayRuns (xs : List Item) (runs : List SlotRun) : Type 0 where
  flags : (before : TheFlags) → last_flags before xs ≡ before
  xattrs : filter_map xattr_in xs ≡ []
  internal : filter_map internal_in xs ≡ []
  runs_are : flat_map runs_in xs ≡ runs

on_pages : (ps : List (List SlotRun)) → SayRuns (together (map on_page ps)) (flat_map (λ p. p) ps)
on_pages [] = record { flags = λ before. refl; xattrs = refl; internal = refl; runs_are = refl }
on_pages (p ∷ ps) = let s = on_pages ps in record {
  flags = s.flags;
  xattrs = s.xattrs;
  internal = s.internal;
  runs_are = ap (λ rs. p ++ rs) s.runs_are;
}

run_in_front : (r : SlotRun) (ps : List (List SlotRun)) → flat_map (λ p. p) (with_run r ps) ≡ r ∷ flat_map (λ p. p) ps
run_in_front r [] = refl
run_in_front r (p ∷ ps) = refl

all_runs : (left : ℕ) (runs : List SlotRun) → flat_map (λ p. p) (pieces left runs) ≡ runs
all_runs zero [] = refl
all_runs (suc left) [] = refl
all_runs zero (r ∷ rs) = run_in_front r (pieces 507 rs) ∙ ap (λ xs. r ∷ xs) (all_runs 507 rs)
all_runs (suc left) (r ∷ rs) = run_in_front r (pieces left rs) ∙ ap (λ xs. r ∷ xs) (all_runs left rs)

say_runs : (xs : List Item) (runs rs : List SlotRun) → SayRuns xs rs → rs ≡ runs → SaySame xs (Rle runs ∷ [])
say_runs xs runs rs s e = record {
  flags = s.flags;
  xattrs = s.xattrs;
  internal = s.internal;
  runs = s.runs_are ∙ e ∙ sym (append-nil runs);
}

runs_say : (room : ℕ) (runs : List SlotRun) → SaySame (together (run_parts room runs)) (Rle runs ∷ [])
runs_say room runs = go (nat_lt room 13)
  where
    go : (b : Bool) → SaySame (together (cond b ([] ∷ map on_page (pieces 508 runs))
        (map on_page (pieces ((room - 5) / 8) runs)))) (Rle runs ∷ [])
    go true = say_runs _ runs _ (on_pages (pieces 508 runs)) (all_runs 508 runs)
    go false = say_runs _ runs _ (on_pages (pieces ((room - 5) / 8) runs)) (all_runs ((room - 5) / 8) runs)

-- ---- the others

item_in_front : (x : Item) (parts : List (List Item)) → together (on_first (x ∷ []) parts) ≡ x ∷ together parts
item_in_front x [] = refl
item_in_front x (p ∷ ps) = refl

whole_says : (room : ℕ) (x : Item) (items : List Item) → ((r : ℕ) → SaySame (together (parts_from r items)) items)
    → SaySame (together (cond (nat_le (item_size x) room) (on_first (x ∷ []) (parts_from (room - item_size x) items))
    ([] ∷ on_first (x ∷ []) (parts_from (4072 - item_size x) items)))) (x ∷ items)
whole_says room x items rest = go (nat_le (item_size x) room)
  where
    there : (r : ℕ) → SaySame (together (on_first (x ∷ []) (parts_from r items))) (x ∷ items)
    there r = subst (λ (xs : List Item). SaySame xs (x ∷ items)) (sym (item_in_front x (parts_from r items)))
        (same_cons x (together (parts_from r items)) items (rest r))

    go : (b : Bool) → SaySame (together (cond b (on_first (x ∷ []) (parts_from (room - item_size x) items))
        ([] ∷ on_first (x ∷ []) (parts_from (4072 - item_size x) items)))) (x ∷ items)
    go true = there (room - item_size x)
    go false = there (4072 - item_size x)

attributes_say : (room : ℕ) (items : List Item) → AreAttributes items → SaySame (together (parts_from room items)) items
attributes_say room [] a = record { flags = λ before. refl; xattrs = refl; internal = refl; runs = refl }
attributes_say room (Rle runs ∷ []) a = runs_say room runs
attributes_say room (Rle runs ∷ x ∷ items) a = absurd a
attributes_say room (Xattr key value ∷ items) a = whole_says room (Xattr key value) items
    (λ r. attributes_say r items a.1)
attributes_say room (InternalXattr key value ∷ items) a =
    whole_says room (InternalXattr key value) items (λ r. attributes_say r items a.1)
attributes_say room (Flags x y z ∷ items) a = absurd a
attributes_say room (Unknown kind ∷ items) a = absurd a

say : (items : List Item) → ArePlannable items → SaySame (written_items items) items
say [] a = absurd a
say (Flags x y z ∷ items) a = whole_says 4072 (Flags x y z) items (λ r. attributes_say r items a)
say (Rle runs ∷ items) a = absurd a
say (Xattr key value ∷ items) a = absurd a
say (InternalXattr key value ∷ items) a = absurd a
say (Unknown kind ∷ items) a = absurd a

-- the law of `written_items_say`
pub written_say : (head : ℕ) (items : List Item) → ArePlannable items
    → meta_of head (written_items items) ≡ meta_of head items
written_say head items a = same_meta head (written_items items) items (say items a)
