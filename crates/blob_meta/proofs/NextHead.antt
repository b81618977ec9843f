-- The least head of entries in order that isn't below a head.
use Rattle.std.proofs.Common.{◌≡◌, ℕ, ◌<◌, ◌≤◌, List, [], ◌∷◌, length, get_or, sym, ap, ◌∙◌, arith}
use Rattle.std.specs.Prelude.{is_some}
use Rattle.std.specs.List.{AllWithin, HoldsAt}
use Rattle.std.proofs.lemmas.List.{get_or_read}
use Rattle.blob_meta.specs.Heads.{IsInOrder, IsNextFrom, HasNoKeyFrom}
use Rattle.blob_meta.proofs.EntriesInOrder.{HasHead, IsGap, rises, find-at, find-gap}
use Rattle.blob_meta.proofs.MapOfEntries.{map_of, get-entries}

module _ {V : Type 0} where
  first_entry : (es : List (ℕ × V)) → 0 < length es → ℕ × V
  first_entry [] some = absurd (omega arith)
  first_entry (e ∷ es) some = e

module _ {V : Type 0} (es : List (ℕ × V)) (head place : ℕ) (ok : IsInOrder es) where
  -- it is the head itself, where that has an entry
  pub next-at : place < length es → HoldsAt (HasHead head) es place → IsNextFrom (map_of es) head head
  next-at within there =
      let any : ℕ × V = first_entry es (omega arith) in
      record {
        there = ap is_some (get-entries es head ok ∙ find-at es head place any ok within there);
        above = omega arith;
        none_between = λ h le lt. absurd (omega arith);
      }

  -- the gap for a head is one for each higher head that is below those behind it
  gap_above : (h : ℕ) → head ≤ h → IsGap es head place → AllWithin (λ e. h < e.0) es place (length es)
      → IsGap es h place
  gap_above h le gap behind = ((λ k d low before. grind (arith, gap.0 k d)), behind)

  -- it is that of the entry behind the gap
  pub next-gap : (next : ℕ × V) → next ≡ get_or es place next → place < length es → IsGap es head place
      → IsNextFrom (map_of es) head next.0
  next-gap next is within gap =
      let there : HoldsAt (HasHead next.0) es place =
      λ d. ap (λ (e : ℕ × V). e.0) (sym (get_or_read es place next within is d)) in
      record {
        there = ap is_some (get-entries es next.0 ok ∙ find-at es next.0 place next ok within there);
        above = grind (arith, there next, gap.1 place next);
        none_between = λ h le lt.
            let behind : AllWithin (λ e. h < e.0) es place (length es) = λ k d from in'.
            grind (arith, there d, rises es ok place k d, λ (same : place ≡ k). ap (λ i. (get_or es i d).0) same) in
            get-entries es h ok ∙ find-gap es h place (gap_above h le gap behind);
      }

  -- there is none where the gap is the end
  pub next-none : length es ≤ place → IsGap es head place → HasNoKeyFrom (map_of es) head
  next-none end gap = λ h le.
      get-entries es h ok ∙ find-gap es h place (gap_above h le gap (λ k d from in'. absurd (omega arith)))
