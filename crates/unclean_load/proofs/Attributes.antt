-- The attributes that a chain's items say can be written again: no two of one name, and each as short as its page had
-- room for.
use Rattle.std.proofs.Common.{◌≡◌, ℕ, ◌+◌, ◌-◌, ◌≤◌, Bool, true, false, cond, List, [], ◌∷◌, ◌++◌, length, take, drop}
use Rattle.std.proofs.Common.{Option, Some, None, refl, ap, subst, inl, inr, arith}
use Rattle.std.specs.Prelude.{◌==◌}
use Rattle.std.specs.List.{AllByRecursion, filter_map}
use Rattle.std.specs.Str.{bytes_eq}
use Rattle.std.proofs.lemmas.Bool.{cases_Bool, eqb-true}
use Rattle.std.proofs.lemmas.List.{length-take, length-drop}
use Rattle.page_fields.specs.Fields.{field}
use Rattle.md_page.specs.Page.{body_of}
use Rattle.volume_model.specs.declared.lists.SlotRun.{SlotRun}
use Rattle.volume_model.specs.declared.text.Xattr.{Xattr}
use Rattle.descriptors.specs.declared.item.Item.{Item}
use Rattle.descriptors.specs.declared.item.Item.TheVariants as item
use Rattle.descriptors.specs.Numbers.{number_from}
use Rattle.descriptors.specs.Rows.{rle, pair_in, flags, xattr_of, internal_of, row}
use Rattle.descriptors.specs.Grammar.{Spells, short, ends, padding, adds}
use Rattle.blob_meta.specs.Says.{firsts, xattr_in, internal_in}
use Rattle.blob_meta.specs.Items.{HasDistinctNames}
use Rattle.blob_meta.proofs.Firsts.{others, turned}
use Rattle.md_chain.specs.Chain.{Look, Links, last, more}
use Rattle.store_model.specs.RunInvariant.{CanBeWritten}

-- ---- names

other_names : (name : List ℕ) (xs : List Xattr) → AllByRecursion (λ y. bytes_eq name y.key ≡ false) (others name xs)
other_names name [] = tt
other_names name (x ∷ xs) = elim (cases_Bool (bytes_eq x.key name)) [
  | inl same ↦ rw same (other_names name xs)
  | inr other ↦ rw other (turned x.key name other, other_names name xs)
]

-- what holds of all holds of those of another name
all_still : (P : Xattr → Type 0) (name : List ℕ) (xs : List Xattr) → AllByRecursion P xs
    → AllByRecursion P (others name xs)
all_still P name [] all = tt
all_still P name (x ∷ xs) all = elim (cases_Bool (bytes_eq x.key name)) [
  | inl same ↦ rw same (all_still P name xs all.1)
  | inr other ↦ rw other (all.0, all_still P name xs all.1)
]

distinct_still : (name : List ℕ) (xs : List Xattr) → HasDistinctNames xs → HasDistinctNames (others name xs)
distinct_still name [] all = tt
distinct_still name (x ∷ xs) all = elim (cases_Bool (bytes_eq x.key name)) [
  | inl same ↦ rw same (distinct_still name xs all.1)
  | inr other ↦ rw other (all_still (λ y. bytes_eq x.key y.key ≡ false) name xs all.0, distinct_still name xs all.1)
]

distinct_firsts : (xs : List Xattr) → HasDistinctNames (firsts xs)
distinct_firsts [] = tt
distinct_firsts (x ∷ xs) = (other_names x.key (firsts xs), distinct_still x.key (firsts xs) (distinct_firsts xs))

-- ---- lengths

abbrev IsShort : Xattr → Type 0
IsShort x = length x.key + length x.value ≤ 4063

short_firsts : (xs : List Xattr) → AllByRecursion IsShort xs → AllByRecursion IsShort (firsts xs)
short_firsts [] all = tt
short_firsts (x ∷ xs) all = (all.0, all_still IsShort x.key (firsts xs) (short_firsts xs all.1))

-- an attribute of a body of 4072 bytes, less five for the descriptor's head and four for the two lengths
abbrev IsShortItem : Item → Type 0
IsShortItem (item.Xattr key value) = length key + length value ≤ 4063
IsShortItem (item.InternalXattr key value) = length key + length value ≤ 4063
IsShortItem _ = Unit {0}

cut_sum : (n : ℕ) (l : List ℕ) (k : ℕ) → length l ≡ 4 + n + k
    → length (take n (drop 4 l)) + length (drop (4 + n) l) ≤ length l - 4
cut_sum n l k e =
    let a = length-take n (drop 4 l) in
    let b = length-drop 4 l in
    let c = length-drop (4 + n) l in
    omega (arith, a, b, c, e)

both_fit : (a b : Bool) (q p : List ℕ × List ℕ) → cond a None (cond b (Some q) None) ≡ Some p → (b ≡ true) × (q ≡ p)
both_fit true b q p e = absurd cc
both_fit false true q p e = (refl, cc e)
both_fit false false q p e = absurd cc

pair_short : (body : List ℕ) (p : List ℕ × List ℕ) → pair_in body ≡ Some p → length p.0 + length p.1 ≤ length body - 4
unfolding pair_in
pair_short body p e =
    let x = both_fit _ _ _ p e in
    subst (λ (q : List ℕ × List ℕ). length q.0 + length q.1 ≤ length body - 4) x.1
    (cut_sum (number_from 0 2 body) body (number_from 2 2 body) (eqb-true _ _ x.0))

xattr_short : (o : Option (List ℕ × List ℕ)) (n : ℕ) (i : Item)
    → ((p : List ℕ × List ℕ) → o ≡ Some p → length p.0 + length p.1 ≤ n - 4) → n + 5 ≤ 4072 → xattr_of o ≡ Some i
    → IsShortItem i
xattr_short None n i all fits e = absurd cc
xattr_short (Some p) n i all fits e =
    let is : item.Xattr p.0 p.1 ≡ i = cc e in let x = all p refl in subst IsShortItem is (omega (arith, x, fits))

internal_short : (o : Option (List ℕ × List ℕ)) (n : ℕ) (i : Item)
    → ((p : List ℕ × List ℕ) → o ≡ Some p → length p.0 + length p.1 ≤ n - 4) → n + 5 ≤ 4072 → internal_of o ≡ Some i
    → IsShortItem i
internal_short None n i all fits e = absurd cc
internal_short (Some p) n i all fits e =
    let is : item.InternalXattr p.0 p.1 ≡ i =
    cc e in let x = all p refl in subst IsShortItem is (omega (arith, x, fits))

runs_short : (b : Bool) (runs : List SlotRun) (i : Item) → cond b None (Some (item.Rle runs)) ≡ Some i → IsShortItem i
runs_short true runs i e = absurd cc
runs_short false runs i e = let is : item.Rle runs ≡ i = cc e in subst IsShortItem is tt

rle_short : (body : List ℕ) (i : Item) → rle body ≡ Some i → IsShortItem i
unfolding rle
rle_short body i e = runs_short _ _ i e

words_short : (b : Bool) (x y z : ℕ) (i : Item) → cond b (Some (item.Flags x y z)) None ≡ Some i → IsShortItem i
words_short true x y z i e = let is : item.Flags x y z ≡ i = cc e in subst IsShortItem is tt
words_short false x y z i e = absurd cc

flags_short : (body : List ℕ) (i : Item) → flags body ≡ Some i → IsShortItem i
unfolding flags
flags_short body i e = words_short _ _ _ _ i e

row_short : (kind : ℕ) (body : List ℕ) (i : Item) → length body + 5 ≤ 4072 → row kind body ≡ Some i → IsShortItem i
row_short kind body i fits e = go (kind == 1) (kind == 2) (kind == 3) (kind == 4) e
  where
    go : (a b c d : Bool)
        → cond a (rle body)
        (cond b (xattr_of (pair_in body))
        (cond c (flags body) (cond d (internal_of (pair_in body)) (Some (item.Unknown kind))))) ≡ Some i → IsShortItem i
    go true b c d e = rle_short body i e
    go false true c d e = xattr_short (pair_in body) (length body) i (pair_short body) fits e
    go false false true d e = flags_short body i e
    go false false false true e = internal_short (pair_in body) (length body) i (pair_short body) fits e
    go false false false false e = let is : item.Unknown kind ≡ i = cc e in subst IsShortItem is tt

items_short : (body : List ℕ) (items : List Item) → length body ≤ 4072 → Spells body items
    → AllByRecursion IsShortItem items
items_short body items fits (short _ lt) = tt
items_short body items fits (ends _ b r d z) = tt
items_short body items fits (padding _ b r _ d z rest) =
    items_short r items
    (let x = length-drop (5 + length b) body in let y = ap length d.rest_is in omega (arith, x, y, fits)) rest
items_short body items fits (adds _ kind b r i is d pos said rest) = (
  row_short kind b i (let x = d.fits in omega (arith, x, fits)) said,
  items_short r is
      (let x = length-drop (5 + length b) body in let y = ap length d.rest_is in omega (arith, x, y, fits)) rest,
)

body_long : (page : List ℕ) → length (body_of page) ≤ 4072
unfolding body_of field
body_long page = let x = length-take 4072 (drop 16 page) in omega (arith, x)

both_short : (xs ys : List Item) → AllByRecursion IsShortItem xs → AllByRecursion IsShortItem ys
    → AllByRecursion IsShortItem (xs ++ ys)
both_short [] ys a b = b
both_short (x ∷ xs) ys a b = (a.0, both_short xs ys a.1 b)

chain_short : (look : Look) (md_len h n : ℕ) (seen : List ℕ) (before p : ℕ) (items : List Item) (pages : List ℕ)
    → Links look md_len h n seen before p items pages → AllByRecursion IsShortItem items
chain_short look md_len h n seen before p items pages (last _ _ _ _ _ lf s e) =
    items_short (body_of (look p)) items (body_long (look p)) s
chain_short look md_len h n seen before p items pages (more _ _ _ _ is rest ps lf s ne l) =
    both_short is rest (items_short (body_of (look p)) is (body_long (look p)) s)
    (chain_short look md_len h _ _ _ _ rest ps l)

said_short : (items : List Item) → AllByRecursion IsShortItem items → AllByRecursion IsShort (filter_map xattr_in items)
said_short [] all = tt
said_short (item.Flags a b c ∷ items) all = said_short items all.1
said_short (item.Xattr key value ∷ items) all = (all.0, said_short items all.1)
said_short (item.Rle runs ∷ items) all = said_short items all.1
said_short (item.InternalXattr key value ∷ items) all = said_short items all.1
said_short (item.Unknown kind ∷ items) all = said_short items all.1

internal_said_short : (items : List Item) → AllByRecursion IsShortItem items
    → AllByRecursion IsShort (filter_map internal_in items)
internal_said_short [] all = tt
internal_said_short (item.Flags a b c ∷ items) all = internal_said_short items all.1
internal_said_short (item.Xattr key value ∷ items) all = internal_said_short items all.1
internal_said_short (item.Rle runs ∷ items) all = internal_said_short items all.1
internal_said_short (item.InternalXattr key value ∷ items) all = (all.0, internal_said_short items all.1)
internal_said_short (item.Unknown kind ∷ items) all = internal_said_short items all.1

-- ---- both lists of a chain

module _ (look : Look) (md_len h n : ℕ) (seen : List ℕ) (before p : ℕ) (items : List Item) (pages : List ℕ)
    (links : Links look md_len h n seen before p items pages) where
  -- attributes that were read from a page can be written again
  pub xattrs_written : CanBeWritten (firsts (filter_map xattr_in items))
  xattrs_written =
      record {
        names = distinct_firsts _;
        short = short_firsts _
            (said_short items (chain_short look md_len h n seen before p items pages links));
      }

  -- and so can internal ones
  pub internal_written : CanBeWritten (firsts (filter_map internal_in items))
  internal_written =
      record {
        names = distinct_firsts _;
        short = short_firsts _
            (internal_said_short items (chain_short look md_len h n seen before p items pages links));
      }
