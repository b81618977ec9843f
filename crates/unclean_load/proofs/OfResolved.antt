-- What resolved metadata has of the metadata as it was read.
use Rattle.std.proofs.Common.{◌≡◌, ℕ, ◌-◌, ◌^◌, ◌<◌, ◌≤◌, Bool, true, false, cond, List, [], ◌∷◌, length}
use Rattle.std.proofs.Common.{Option, Some, None, IsSome, refl, sym, ap, subst, ◌∙◌, inl, inr, arith}
use Rattle.std.specs.Prelude.{codes, find, ◌&&◌, ◌||◌, not, ◌==◌}
use Rattle.std.specs.Option.{option_and_then, option_map, option_map_or, option_or}
use Rattle.std.specs.Str.{bytes_eq}
use Rattle.std.proofs.lemmas.Bool.{cases_Bool, eqb-true}
use Rattle.volume_model.specs.declared.text.Xattr.{Xattr}
use Rattle.volume_model.specs.Xattrs.{Xattrs, value_of, without}
use Rattle.super_block.specs.declared.page.Super.{Super}
use Rattle.super_block.specs.Numbers.{clusters_of, fixed_clusters_of}
use Rattle.blob_meta.specs.declared.meta.Meta.{Meta}
use Rattle.blob_meta.specs.declared.fault.MetaFault.{MetaFault}
use Rattle.blob_meta.specs.declared.fault.MetaFault.TheVariants as fault
use Rattle.descriptors.specs.Runs.{at_most}
use Rattle.blob_meta.specs.Faults.{bad_mark, first_some, hole_in_thick, is_bad_mark, map_fault, unknown_flag}
use Rattle.blob_meta.specs.Repairs.{HasHeadsBelow}
use Rattle.blob_meta.specs.Resolving.{mark_of, resolved, slots_together, without_marks}
use Rattle.blob_meta.proofs.Fates.{Fate, fate}
use Rattle.blob_meta.proofs.MarksLifted.{no_mark}
use Rattle.store_model.specs.Maps.{Metas}
use Rattle.store_model.specs.Steady.{IsStored}
use Rattle.running_store.specs.Recovered.{marked_blobs}
use Rattle.store_model.proofs.Inside.{none_of_map}
use Rattle.unclean_load.specs.Sharing.{AreAllInside, copies_in}
use Rattle.unclean_load.specs.Walks.{HaveLongMarks}
use Rattle.unclean_load.proofs.Slots.{all_inside}
use Rattle.unclean_load.proofs.Sums.{sum_le}

-- ---- each SNAP has 8 bytes

first_good : (b : Bool) (x : Xattr) (rest : Option Xattr) → cond b (Some x) rest ≡ None → (b ≡ false) × (rest ≡ None)
first_good true x rest none = absurd (cc none)
first_good false x rest none = (refl, none)

good_parts : (x : Xattr) (xs : Xattrs) → find is_bad_mark (x ∷ xs) ≡ None
    → (is_bad_mark x ≡ false) × (find is_bad_mark xs ≡ None)
good_parts x xs none = first_good (is_bad_mark x) x (find is_bad_mark xs) none

good_more : (x : Xattr) (xs : Xattrs) → is_bad_mark x ≡ false → find is_bad_mark xs ≡ None
    → find is_bad_mark (x ∷ xs) ≡ None
good_more x xs good none = ap (λ b. cond b (Some x) (find is_bad_mark xs)) good ∙ none

good_without : (key : List ℕ) (xs : Xattrs) → find is_bad_mark xs ≡ None → find is_bad_mark (without xs key) ≡ None
good_without key [] none = refl
good_without key (x ∷ xs) none =
    let parts = good_parts x xs none in
    elim (cases_Bool (bytes_eq x.key key)) [
      | inl same ↦ rw same (good_without key xs parts.1)
      | inr differs ↦ rw differs (good_more x (without xs key) parts.0 (good_without key xs parts.1))
    ]

eight : (a b c : Bool) (n : ℕ) → a ≡ true → ((a || b || c) && not (n == 8)) ≡ false → n ≡ 8
eight true b c n is good = elim (cases_Bool (n == 8)) [
  | inl e ↦ eqb-true n 8 e
  | inr ne ↦ let bad : not (n == 8) ≡ true = ap not ne in let x = sym bad ∙ good in absurd (cc x)
]
eight false b c n is good = absurd (cc is)

value_here : (x : Xattr) (xs : Xattrs) (key : List ℕ) → bytes_eq x.key key ≡ true → value_of (x ∷ xs) key ≡ Some x.value
value_here x xs key here = rw here refl

value_later : (x : Xattr) (xs : Xattrs) (key : List ℕ) → bytes_eq x.key key ≡ false
    → value_of (x ∷ xs) key ≡ value_of xs key
value_later x xs key other = rw other refl

long_snap : (xs : Xattrs) (bytes : List ℕ) → find is_bad_mark xs ≡ None → value_of xs (codes "SNAP") ≡ Some bytes
    → length bytes ≡ 8
long_snap [] bytes none is = absurd (cc is)
long_snap (x ∷ xs) bytes none is =
    let parts = good_parts x xs none in
    elim (cases_Bool (bytes_eq x.key (codes "SNAP"))) [
      | inl here ↦
          let one : x.value ≡ bytes = let e = sym (value_here x xs (codes "SNAP") here) ∙ is in cc e in
          ap length (sym one)
          ∙ eight (bytes_eq x.key (codes "SNAP")) (bytes_eq x.key (codes "SNAPTMP")) (bytes_eq x.key (codes "SNAPRM"))
          (length x.value) here parts.0
      | inr other ↦ long_snap xs bytes parts.1 (sym (value_later x xs (codes "SNAP") other) ∙ is)
    ]

none_behind : (o : Option MetaFault) (rest : List (Option MetaFault)) → first_some (o ∷ rest) ≡ None
    → first_some rest ≡ None
none_behind None rest none = none
none_behind (Some e) rest none = absurd (cc none)

none_alone : (o : Option MetaFault) → first_some (o ∷ []) ≡ None → o ≡ None
none_alone None none = refl
none_alone (Some e) none = absurd (cc none)

good_marks : (s : Super) (head : ℕ) (m : Meta) → IsStored s head m → find is_bad_mark m.internal ≡ None
good_marks s head m x =
    let map = map_fault (fixed_clusters_of s) (clusters_of s) m.map in
    let hole = hole_in_thick m.flags m.map in
    let bad = bad_mark m.internal in
    none_of_map (λ (y : Xattr). fault.BadMark y.key (at_most (2 ^ 32 - 1) (length y.value)))
    (find is_bad_mark m.internal)
    (none_alone bad
    (none_behind hole (bad ∷ [])
    (none_behind map (hole ∷ bad ∷ []) (none_behind (unknown_flag m.flags) (map ∷ hole ∷ bad ∷ []) x.faultless))))

-- ---- resolved metadata

-- A blob of the result has the map of the one that was read, and its marks are as long.
record IsFrom (s : Super) (read : Metas) (head : ℕ) (n : Meta) : Type 0 where
  blob : Meta
  there : read head ≡ Some blob
  same_map : n.map ≡ blob.map
  good : find is_bad_mark n.internal ≡ None
  unmarked : mark_of n ≡ None

module _ (s : Super) (read : Metas) (all : (head : ℕ) (m : Meta) → read head ≡ Some m → IsStored s head m) where
  from_read : (head : ℕ) (n : Meta) → resolved read head ≡ Some n → IsFrom s read head n
  from_read head n is = by (fate read head)
    where
      by : Fate read head → IsFrom s read head n
      by (inl x) = let gives = x.gives in absurd (cc (gives, is))
      by (inr (inl x)) =
          let one : n ≡ x.blob = let e = sym is ∙ x.gives in cc e in
          record {
            blob = x.blob;
            there = x.there;
            same_map = ap (λ (m : Meta). m.map) one;
            good = ap (λ (m : Meta). find is_bad_mark m.internal) one
                ∙ good_marks s head x.blob (all head x.blob x.there);
            unmarked = ap mark_of one ∙ x.unmarked;
          }
      by (inr (inr (inl x))) =
          let one : n ≡ without_marks x.blob = let e = sym is ∙ x.gives in cc e in
          record {
            blob = x.blob;
            there = x.there;
            same_map = ap (λ (m : Meta). m.map) one;
            good = ap (λ (m : Meta). find is_bad_mark m.internal) one
                ∙ good_without (codes "SNAPTMP") (without x.blob.internal (codes "SNAPRM"))
                (good_without (codes "SNAPRM") x.blob.internal (good_marks s head x.blob (all head x.blob x.there)));
            unmarked = ap mark_of one ∙ no_mark x.blob;
          }
      by (inr (inr (inr x))) = let gives = x.gives in absurd (cc (gives, is))

  read_low : (head : ℕ) (m : Meta) → read head ≡ Some m → head < s.md_len
  read_low head m there = (all head m there).low

  -- every head that was read is of the region,
  pub read_below : HasHeadsBelow s.md_len read
  read_below head there = by (read head) refl there
    where
      by : (o : Option Meta) → read head ≡ o → IsSome o → head < s.md_len
      by None is some = absurd (cc some)
      by (Some m) is some = read_low head m is

  -- and so is every head of the result
  pub resolved_low : (head : ℕ) (n : Meta) → resolved read head ≡ Some n → head < s.md_len
  resolved_low head n is = let x = from_read head n is in read_low head x.blob x.there

  pub resolved_below : HasHeadsBelow s.md_len (resolved read)
  resolved_below head there = by (resolved read head) refl there
    where
      by : (o : Option Meta) → resolved read head ≡ o → IsSome o → head < s.md_len
      by None is some = absurd (cc some)
      by (Some n) is some = resolved_low head n is

  -- each SNAP of the result has 8 bytes
  pub resolved_long : HaveLongMarks (resolved read)
  resolved_long head n bytes is snap = long_snap n.internal bytes (from_read head n is).good snap

  -- the clusters of its maps are inside of the device
  pub resolved_inside : AreAllInside s (resolved read)
  resolved_inside head n is c some =
      let x = from_read head n is in
      all_inside s read all head x.blob x.there c
      (subst (λ (slots : List (Option ℕ)). 0 < copies_in c slots) x.same_map some)

  -- no blob of it has a mark
  pub resolved_unmarked : (head : ℕ) (n : Meta) → resolved read head ≡ Some n → mark_of n ≡ None
  resolved_unmarked head n is = (from_read head n is).unmarked

-- a head has no more slots than it had
abbrev slots_at : Option Meta → ℕ
slots_at o = option_map_or (λ (m : Meta). length m.map) o 0

fewer_at : (read : Metas) (head : ℕ) → slots_at (resolved read head) ≤ slots_at (read head)
fewer_at read head = by (fate read head)
  where
    by : Fate read head → slots_at (resolved read head) ≤ slots_at (read head)
    by (inl x) = let a = ap slots_at x.gives in omega (arith, a)
    by (inr (inl x)) = let a = ap slots_at x.gives in let b = ap slots_at x.there in omega (arith, a, b)
    by (inr (inr (inl x))) = let a = ap slots_at x.gives in let b = ap slots_at x.there in omega (arith, a, b)
    by (inr (inr (inr x))) = let a = ap slots_at x.gives in omega (arith, a)

-- the maps of the result have no more slots together
pub resolved_fewer : (md_len : ℕ) (read : Metas) → slots_together md_len (resolved read) ≤ slots_together md_len read
resolved_fewer md_len read = sum_le _ _ md_len (λ head. fewer_at read head)

-- ---- marked blobs beside the result

-- the marked blobs over the result are what was read
pub base_again : (read : Metas) (head : ℕ) → option_or (marked_blobs read head) (resolved read head) ≡ read head
base_again read head = by (fate read head)
  where
    marked_at : (o : Option Meta) → read head ≡ o
        → marked_blobs read head ≡ option_and_then (λ (m : Meta). option_map (λ _. m) (mark_of m)) o
    marked_at o there = ap (option_and_then (λ (m : Meta). option_map (λ _. m) (mark_of m))) there

    is_marked : (m : Meta) (mark : List ℕ) → read head ≡ Some m → mark_of m ≡ Some mark → marked_blobs read head
        ≡ Some m
    is_marked m mark there has = marked_at (Some m) there ∙ ap (option_map (λ _. m)) has

    by : Fate read head → option_or (marked_blobs read head) (resolved read head) ≡ read head
    by (inl x) = ap (λ o. option_or o (resolved read head)) (marked_at None x.there) ∙ x.gives ∙ sym x.there
    by (inr (inl x)) =
        ap (λ o. option_or o (resolved read head))
        (marked_at (Some x.blob) x.there ∙ ap (option_map (λ _. x.blob)) x.unmarked)
        ∙ x.gives ∙ sym x.there
    by (inr (inr (inl x))) =
        ap (λ o. option_or o (resolved read head)) (is_marked x.blob x.mark x.there x.marked) ∙ sym x.there
    by (inr (inr (inr x))) =
        ap (λ o. option_or o (resolved read head)) (is_marked x.blob x.mark x.there x.marked) ∙ sym x.there
