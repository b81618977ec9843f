-- One more attribute at the end of a list in which, of equal names, the first counts.
use Rattle.std.proofs.Common.{◌≡◌, ℕ, true, false, Bool, List, [], ◌∷◌, ◌++◌, refl, sym, ap, ◌∙◌, inl, inr}
use Rattle.std.specs.Prelude.{◌||◌, ◌<◌, ◌+◌, not, filter, length, take, get_or, Option, None, Some}
use Rattle.std.specs.List.{list_any, filter_map, cons_option}
use Rattle.std.specs.Str.{bytes_eq}
use Rattle.std.proofs.lemmas.Bool.{cases_Bool}
use Rattle.std.proofs.lemmas.Slice.Eq.{bytes_eq-Decides}
use Rattle.std.proofs.lemmas.List.{append-nil, take_more}
use Rattle.std.proofs.lemmas.List.Elements.{filter-append, filter_map-append}
use Rattle.volume_model.specs.declared.text.Xattr.{Xattr}
use Rattle.descriptors.specs.declared.item.Item.{Item}
use Rattle.blob_meta.specs.Says.{firsts, with_first, with_found}

abbrev pub has : List Xattr → List ℕ → Bool
has xs key = list_any (λ x. bytes_eq x.key key) xs

-- those of another name
abbrev pub others : List ℕ → List Xattr → List Xattr
others name xs = filter (λ y. not (bytes_eq y.key name)) xs

-- names whose bytes compare equal are equal
pub same_name : (a b : List ℕ) → bytes_eq a b ≡ true → a ≡ b
same_name a b e = (bytes_eq-Decides a b).0 e

-- equal names compare equal
pub eq_name : (a b : List ℕ) → a ≡ b → bytes_eq a b ≡ true
eq_name a b e = (bytes_eq-Decides a b).1 e

-- names that differ do so both ways
pub turned : (a b : List ℕ) → bytes_eq a b ≡ false → bytes_eq b a ≡ false
turned a b ne = elim (cases_Bool (bytes_eq b a)) [
  | inl same ↦ let e = eq_name a b (sym (same_name b a same)) in absurd (cc (e, ne))
  | inr other ↦ other
]

has_others : (name key : List ℕ) (xs : List Xattr) → bytes_eq name key ≡ false → has (others name xs) key ≡ has xs key
has_others name key [] ne = refl
has_others name key (x ∷ xs) ne = elim (cases_Bool (bytes_eq x.key name)) [
  | inl same ↦ let no : bytes_eq x.key key ≡ false = ap (λ a. bytes_eq a key) (same_name x.key name same) ∙ ne in
      rw (same, no) (has_others name key xs ne)
  | inr other ↦ rw other (ap (λ b. bytes_eq x.key key || b) (has_others name key xs ne))
]

with_there : (xs : List Xattr) (y : Xattr) → has xs y.key ≡ true → with_first xs y ≡ xs
with_there xs y is = rw is refl

with_new : (xs : List Xattr) (y : Xattr) → has xs y.key ≡ false → with_first xs y ≡ xs ++ y ∷ []
with_new xs y is = rw is refl

others_same : (name : List ℕ) (xs : List Xattr) (y : Xattr) → bytes_eq y.key name ≡ true
    → others name (with_first xs y) ≡ others name xs
others_same name xs y same = elim (cases_Bool (has xs y.key)) [
  | inl is ↦ ap (others name) (with_there xs y is)
  | inr not_there ↦ ap (others name) (with_new xs y not_there)
      ∙ filter-append (λ z. not (bytes_eq z.key name)) xs (y ∷ []) ∙ rw same (append-nil (others name xs))
]

others_new : (name : List ℕ) (xs : List Xattr) (y : Xattr) → bytes_eq y.key name ≡ false
    → others name (xs ++ y ∷ []) ≡ others name xs ++ y ∷ []
others_new name xs y other = filter-append (λ z. not (bytes_eq z.key name)) xs (y ∷ []) ∙ rw other refl

-- one attribute more at the end counts where none of its name is there
pub firsts-push : (xs : List Xattr) (y : Xattr) → firsts (xs ++ y ∷ []) ≡ with_first (firsts xs) y
firsts-push [] y = refl
firsts-push (x ∷ xs) y = ap (λ l. x ∷ others x.key l) (firsts-push xs y) ∙ elim (cases_Bool (bytes_eq x.key y.key)) [
  | inl same ↦
      let back : bytes_eq y.key x.key ≡ true = eq_name y.key x.key (sym (same_name x.key y.key same)) in
      ap (λ l. x ∷ l) (others_same x.key (firsts xs) y back)
      ∙ sym (with_there (x ∷ others x.key (firsts xs)) y (rw same refl))
  | inr other ↦
      let back : bytes_eq y.key x.key ≡ false = turned x.key y.key other in
      let has_it : has (x ∷ others x.key (firsts xs)) y.key ≡ has (firsts xs) y.key =
      rw other (has_others x.key y.key (firsts xs) other) in
      elim (cases_Bool (has (firsts xs) y.key)) [
        | inl is ↦ ap (λ l. x ∷ others x.key l) (with_there (firsts xs) y is)
            ∙ sym (with_there (x ∷ others x.key (firsts xs)) y (has_it ∙ is))
        | inr none ↦
            ap (λ l. x ∷ others x.key l) (with_new (firsts xs) y none)
            ∙ ap (λ l. x ∷ l) (others_new x.key (firsts xs) y back)
            ∙ sym (with_new (x ∷ others x.key (firsts xs)) y (has_it ∙ none))
      ]
]

-- ---- one item more

found_one : (f : Item → Option Xattr) (xs : List Xattr) (item : Item)
    → firsts (xs ++ filter_map f (item ∷ [])) ≡ with_found (firsts xs) (f item)
found_one f xs item = go (f item)
  where
    go : (o : Option Xattr) → firsts (xs ++ cons_option o []) ≡ with_found (firsts xs) o
    go None = ap firsts (append-nil xs)
    go (Some y) = firsts-push xs y

-- for the loops over items: the next item adds its attribute
pub found_next : (f : Item → Option Xattr) (items : List Item) (i : ℕ) (d : Item) → i < length items
    → firsts (filter_map f (take (i + 1) items)) ≡ with_found (firsts (filter_map f (take i items)))
    (f (get_or items i d))
found_next f items i d lt =
    ap (λ l. firsts (filter_map f l)) (take_more items i d lt)
    ∙ ap firsts (filter_map-append f (take i items) (get_or items i d ∷ []))
    ∙ found_one f (filter_map f (take i items)) (get_or items i d)
