-- Heads in order, and the volumes at them.
use Rattle.std.proofs.Common.{◌≡◌, ℕ, zero, suc, ◌+◌, Bool, true, false, ◌&&◌, Option, Some, None, IsSome, List, []}
use Rattle.std.proofs.Common.{◌∷◌, ◌++◌, refl, sym, ap, ◌∙◌, inl, inr, arith, add-one}
use Rattle.std.specs.List.{range_with_len, find, filter_map, cons_option, sum_by}
use Rattle.std.specs.Option.{option_map_or}
use Rattle.std.proofs.lemmas.Bool.{cases_Bool, false≢true}
use Rattle.std.proofs.lemmas.List.Elements.{filter_map-append}
use Rattle.std.proofs.lemmas.List.Sums.{sum_by-append}
use Rattle.std.proofs.lemmas.Option.{same_Some}
use Rattle.volume_model.specs.Volumes.{Volumes, Fixed, head_named, has_name, heads}

-- one more number at the end
range_more : (a n : ℕ) → range_with_len a (suc n) ≡ range_with_len a n ++ (a + n) ∷ []
range_more a zero = let e : a ≡ a + 0 = omega arith in ap (λ k. k ∷ []) e
range_more a (suc n) = let e : (a + 1) + n ≡ a + suc n = omega arith in
    ap (λ ks. a ∷ ks) (range_more (a + 1) n ∙ ap (λ k. range_with_len (a + 1) n ++ k ∷ []) e)

to_more : (n : ℕ) → range_with_len 0 (n + 1) ≡ range_with_len 0 n ++ n ∷ []
to_more n = let e : 0 + n ≡ n = omega arith in ap (range_with_len 0) (add-one n) ∙ range_more 0 n
    ∙ ap (λ k. range_with_len 0 n ++ k ∷ []) e

-- for loops that add up over all heads: one head more
pub sum_more : (f : ℕ → ℕ) (n : ℕ) → sum_by f (range_with_len 0 (n + 1)) ≡ sum_by f (range_with_len 0 n) + f n
sum_more f n = let e : sum_by f (n ∷ []) ≡ f n = omega arith in
    ap (sum_by f) (to_more n) ∙ sum_by-append f (range_with_len 0 n) (n ∷ [])
    ∙ ap (λ k. sum_by f (range_with_len 0 n) + k) e

-- for loops that gather over all heads: one head more
pub filter_map_range_more : {X : Type 0} (h : ℕ → Option X) (n : ℕ)
    → filter_map h (range_with_len 0 (n + 1)) ≡ filter_map h (range_with_len 0 n) ++ cons_option (h n) []
filter_map_range_more h n = ap (filter_map h) (to_more n) ∙ filter_map-append h (range_with_len 0 n) (n ∷ [])

-- what is found passes the test
pub found_passes : {X : Type 0} (p : X → Bool) (xs : List X) (x : X) → find p xs ≡ Some x → p x ≡ true
found_passes p [] x e = absurd (cc)
found_passes p (y ∷ ys) x e = elim (cases_Bool (p y)) [
  | inl passes ↦ let here : Some y ≡ Some x = rw passes at e in ap p (sym (same_Some y x here)) ∙ passes
  | inr fails ↦ found_passes p ys x (rw fails at e)
]

right_true : (a b : Bool) → (a && b) ≡ true → b ≡ true
right_true true b e = e
right_true false b e = absurd (false≢true e)

passing_some : {X : Type 0} (p : X → Bool) (o : Option X) → option_map_or p o false ≡ true → IsSome o
passing_some p None e = absurd (false≢true e)
passing_some p (Some x) e = refl

-- a name is that of a live volume
pub named_there : (f : Fixed) (v : Volumes) (name : List ℕ) (h : ℕ) → head_named f v name ≡ Some h → IsSome (v h)
named_there f v name h e = passing_some _ (v h) (right_true _ _ (found_passes (has_name f v name) (heads f) h e))
