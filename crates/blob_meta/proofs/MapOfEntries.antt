-- The finite map that entries in order make, and what an edit of them makes of it.
use Rattle.std.proofs.Common.{◌≡◌, ℕ, zero, suc, ◌<◌, ◌≢◌, true, false, Bool, not, List, [], ◌∷◌, length}
use Rattle.std.proofs.Common.{None, refl, sym, ap, ◌∙◌, subst, arith}
use Rattle.std.specs.Prelude.{All, T}
use Rattle.std.specs.List.{HoldsAt, remove}
use Rattle.std.specs.Ordering.{nat_cmp, eq_by_cmp}
use Rattle.std.specs.declared.cmp.Ordering.TheVariants.{Equal}
use Rattle.std.specs.Cmp.{nat_cmp_total, ranked}
use Rattle.std.specs.FinMap as map
use Rattle.std.specs.FinMap.Entries.{where_key, is_sorted-put, is_sorted-where_key, find-where_key}
use Rattle.std.proofs.lemmas.Bool.Decides.{nat_tests}
use Rattle.std.proofs.lemmas.List.Elements.{All-head, All-tail}
use Rattle.blob_meta.specs.Heads.{IsInOrder}
use Rattle.blob_meta.proofs.EntriesInOrder.{HasHead, rises}

truth : (b : Bool) → T b → b ≡ true
truth true p = refl
truth false p = absurd p

-- another key than the head
abbrev apart : ℕ → ℕ → Bool
apart head q = not (eq_by_cmp nat_cmp head q)

module _ {V : Type 0} where
  -- the map of entries in order
  abbrev pub map_of : List (ℕ × V) → map.FinMap nat_cmp V
  map_of es = map.from_sorted es

  -- the entries of all other heads
  abbrev without : ℕ → List (ℕ × V) → List (ℕ × V)
  without head es = where_key nat_cmp (apart head) es

  sorted : (es : List (ℕ × V)) → IsInOrder es → T (map.is_sorted nat_cmp es)
  sorted es ok = subst T (sym ok) tt

  -- the map has at a head what is found there
  pub get-entries : (es : List (ℕ × V)) (head : ℕ) → IsInOrder es
      → map.get (map_of es) head ≡ map.find nat_cmp head es
  get-entries es head ok = map.get-from_sorted nat_cmp es head (sorted es ok)

  -- the map has as many heads as there are entries
  pub len-entries : (es : List (ℕ × V)) → IsInOrder es → map.len (map_of es) ≡ length es
  len-entries es ok =
      map.len-entries (map_of es) ∙ ap length (map.entries-from_sorted nat_cmp es (sorted es ok))

  -- no entries make the empty map
  pub no_entries : map_of [] ≡ map.empty
  no_entries = map.empty_of_len (map_of []) (len-entries [] refl)

  -- the heads still rise with one more, or with another value
  pub in_order-put : (es : List (ℕ × V)) (head : ℕ) (value : V) → IsInOrder es
      → IsInOrder (map.put nat_cmp head value es)
  in_order-put es head value ok =
      truth (map.is_sorted nat_cmp (map.put nat_cmp head value es))
      (is_sorted-put nat_cmp nat_cmp_total head value es (sorted es ok))

  -- the map is given the value
  pub entries-put : (es : List (ℕ × V)) (head : ℕ) (value : V) → IsInOrder es
      → map_of (map.put nat_cmp head value es) ≡ map.insert (map_of es) head value
  entries-put es head value ok =
      map.same_entries_map _ _
      (map.entries-from_sorted nat_cmp (map.put nat_cmp head value es)
      (is_sorted-put nat_cmp nat_cmp_total head value es (sorted es ok))
      ∙ sym (map.entries-insert nat_cmp_total (map_of es) head value
      ∙ ap (map.put nat_cmp head value) (map.entries-from_sorted nat_cmp es (sorted es ok))))

  -- ---- an entry taken out

  -- an entry of another head is kept
  keeps : (head : ℕ) (e : ℕ × V) (es : List (ℕ × V)) → e.0 ≢ head
      → without head (e ∷ es) ≡ e ∷ without head es
  keeps head e es other = grind (arith, nat_tests)

  -- an entry of the head is not
  drops : (head : ℕ) (e : ℕ × V) (es : List (ℕ × V)) → e.0 ≡ head
      → without head (e ∷ es) ≡ without head es
  drops head e es same = grind (arith, nat_tests)

  -- a head below all others is in no entry
  keeps_all : (head : ℕ) (es : List (ℕ × V)) → All (λ e. head < e.0) es → without head es ≡ es
  keeps_all head [] low = refl
  keeps_all head (e ∷ es) low =
      let above = All-head (λ x. head < x.0) e es low in
      keeps head e es (λ same. omega arith)
      ∙ ap (λ (l : List (ℕ × V)). e ∷ l) (keeps_all head es (All-tail (λ x. head < x.0) e es low))

  -- the head's entry taken out leaves those of all other heads
  remove-without : (es : List (ℕ × V)) (head place : ℕ) → IsInOrder es → place < length es
      → HoldsAt (HasHead head) es place → remove es place ≡ without head es
  remove-without [] head place ok within there = absurd (omega arith)
  remove-without (e ∷ es) head zero ok within there =
      let above : All (λ x. head < x.0) es = λ k d lt. grind (arith, there e, rises (e ∷ es) ok zero (suc k) d) in
      sym (drops head e es (there e) ∙ keeps_all head es above)
  remove-without (e ∷ es) head (suc place) ok within there =
      let lower = rises (e ∷ es) ok zero (suc place) e (omega arith) within in
      let here = there e in
      ap (λ (l : List (ℕ × V)). e ∷ l) (remove-without es head place (grind arith) (omega arith) there)
      ∙ sym (keeps head e es (λ same. omega arith))

  -- the heads that are left rise
  pub in_order-remove : (es : List (ℕ × V)) (head place : ℕ) → IsInOrder es → place < length es
      → HoldsAt (HasHead head) es place → IsInOrder (remove es place)
  in_order-remove es head place ok within there =
      rw (remove-without es head place ok within there)
      (truth (map.is_sorted nat_cmp (without head es))
      (is_sorted-where_key nat_cmp (apart head) es (sorted es ok)))

  -- the map has the head no longer
  pub entries-remove : (es : List (ℕ × V)) (head place : ℕ) → IsInOrder es → place < length es
      → HoldsAt (HasHead head) es place → map_of (remove es place) ≡ map.remove (map_of es) head
  entries-remove es head place ok within there =
      map.same_map nat_cmp_total map.nat_cmp-IsAntisymmetric _ _ (λ q.
      let alike = λ (x : ℕ) (same : nat_cmp q x ≡ Equal). ap (apart head) (sym (ranked q x Equal (sym same))) in
      get-entries (remove es place) q (in_order-remove es head place ok within there)
      ∙ ap (map.find nat_cmp q) (remove-without es head place ok within there)
      ∙ find-where_key nat_cmp (apart head) q alike es
      ∙ grind (arith, nat_tests, map.get-remove nat_cmp_total (map_of es) head q, get-entries es q ok))

-- a head that the map doesn't have is none to take out
pub remove-absent : {V : Type 0} (m : map.FinMap nat_cmp V) (head : ℕ) → map.get m head ≡ None → m ≡ map.remove m head
remove-absent m head none =
    map.same_map nat_cmp_total map.nat_cmp-IsAntisymmetric _ _ (λ q. grind (arith, nat_tests, map.gets))
