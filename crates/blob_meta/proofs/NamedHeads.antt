-- The least head, from a head on, of a value of a name.
use Rattle.std.proofs.Common.{◌≡◌, ℕ, zero, suc, ◌<◌, ◌≤◌, Bool, false, List, [], ◌∷◌, length, get_or}
use Rattle.std.proofs.Common.{ltb, refl, sym, ap, ◌∙◌, arith, inl, inr}
use Rattle.std.specs.Str.{bytes_eq}
use Rattle.std.specs.List.{AllWithin, HoldsAt}
use Rattle.std.specs.List.Sorted.{IsPartitionPoint, IsPartitionedBy}
use Rattle.std.specs.Option.{option_map_or}
use Rattle.std.specs.Ordering.{nat_cmp}
use Rattle.std.specs.FinMap as map
use Rattle.std.proofs.lemmas.Bool.{cases_eq}
use Rattle.std.proofs.lemmas.List.{get_or_read}
use Rattle.std.proofs.lemmas.Bool.Decides.{nat_tests}
use Rattle.blob_meta.specs.Heads.{IsInOrder, IsFirstNamed, IsNextNamed, HasNoNameFrom}
use Rattle.blob_meta.proofs.EntriesInOrder.{HasHead, rises, find-at}
use Rattle.blob_meta.proofs.MapOfEntries.{map_of, get-entries}

-- a head has no value that passes where none of its entries does
none_passes : {V : Type 0} (P : V → Bool) (es : List (ℕ × V)) (h : ℕ)
    → ((k : ℕ) (d : ℕ × V) → k < length es → (get_or es k d).0 ≡ h → P (get_or es k d).1 ≡ false)
    → option_map_or P (map.find nat_cmp h es) false ≡ false
none_passes P [] h none = refl
none_passes P (e ∷ es) h none = elim (cases_eq e.0 h) [
  | inl same ↦ let here = none zero e (omega arith) same in grind (arith, nat_tests)
  | inr other ↦
      let rest = none_passes P es h (λ k d lt is. none (suc k) d (omega arith) is) in grind (arith, nat_tests)
]

-- the entries before a head stand before the others
pub parted : {V : Type 0} (es : List (ℕ × V)) (head : ℕ) → IsInOrder es → IsPartitionedBy (λ e. ltb e.0 head) es
parted es head ok i j d le within below =
    grind (arith, nat_tests, rises es ok i j d, λ (same : i ≡ j). ap (λ k. (get_or es k d).0) same)

module _ {V : Type 0} (name_of : V → List ℕ) (name : List ℕ) (es : List (ℕ × V)) (head first : ℕ) (ok : IsInOrder es)
    (parts : IsPartitionPoint (λ e. e.0 < head) (λ e. head ≤ e.0) es first) where
  -- an entry from this head on stands at the start or behind it
  behind : (k h : ℕ) (d : ℕ × V) → k < length es → (get_or es k d).0 ≡ h → head ≤ h → first ≤ k
  behind k h d lt is le = grind (arith, parts.0 k d)

  -- the first entry of the name, from the start on, has the least head
  pub next-named : (place : ℕ) (e : ℕ × V) → e ≡ get_or es place e → IsFirstNamed name_of name es first place
      → IsNextNamed name_of name (map_of es) head e.0
  next-named place e is found =
      let there : HoldsAt (HasHead e.0) es place =
      λ d. ap (λ (x : ℕ × V). x.0) (sym (get_or_read es place e found.within is d)) in
      record {
        there =
            ap (λ v. option_map_or (λ w. bytes_eq (name_of w) name) v false)
            (get-entries es e.0 ok ∙ find-at es e.0 place e ok found.within there)
            ∙ found.there e;
        above = grind (arith, there e, parts.1 place e found.from found.within);
        none_between = λ h le lt.
            ap (λ v. option_map_or (λ w. bytes_eq (name_of w) name) v false) (get-entries es h ok)
            ∙ none_passes (λ w. bytes_eq (name_of w) name) es h (λ k d within here.
            found.none_between k d (behind k h d within here le)
            (grind (arith, there d, rises es ok place k d, λ (same : place ≡ k). ap (λ i. (get_or es i d).0) same)));
      }

  -- without such an entry there is no such head
  pub none-named : AllWithin (λ e. bytes_eq (name_of e.1) name ≡ false) es first (length es)
      → HasNoNameFrom name_of name (map_of es) head
  none-named none = λ h le.
      ap (λ v. option_map_or (λ w. bytes_eq (name_of w) name) v false) (get-entries es h ok)
      ∙ none_passes (λ w. bytes_eq (name_of w) name) es h (λ k d within here.
      none k d (behind k h d within here le) within)
