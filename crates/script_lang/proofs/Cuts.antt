-- A text that is cut at the first place that passes a test.
use Rattle.std.proofs.Common.{◌≡◌, ℕ, ◌+◌, ◌-◌, ◌≤◌, Bool, true, false, not, cond, List, [], ◌∷◌, Some, None, length}
use Rattle.std.proofs.Common.{take, drop, refl, subst, arith, ltb}
use Rattle.std.specs.List.{slice_split, position, position_or_len}
use Rattle.std.proofs.lemmas.Bool.{ltb-true}
use Rattle.std.proofs.lemmas.Bool.Decides.{nat_tests}
use Rattle.std.proofs.lemmas.List.Splits.{slice_split_none, slice_split_first}
use Rattle.std.proofs.lemmas.List.Sums.{prefix_len_passes}
use Rattle.std.proofs.lemmas.Grind.{common_steps}

when_some : (b : Bool) (n m : ℕ) → cond b (Some n) None ≡ Some m → (b ≡ true) × (n ≡ m)
when_some true n m e = (refl, cc)
when_some false n m e = absurd (cc)

when_none : (b : Bool) (n : ℕ) → cond b (Some n) None ≡ None → b ≡ false
when_none true n e = absurd (cc)
when_none false n e = refl

not_true : (b : Bool) → not b ≡ true → b ≡ false
not_true true e = absurd (cc)
not_true false e = refl

the_rest : (place : ℕ) (xs : List ℕ) → take (length xs - (place + 1)) (drop (place + 1) xs) ≡ drop (place + 1) xs
the_rest place xs = grind (arith, common_steps)

pub cut_at : (p : ℕ → Bool) (xs : List ℕ) (place : ℕ) → position p xs ≡ Some place
    → slice_split p xs ≡ take place xs ∷ slice_split p (take (length xs - (place + 1)) (drop (place + 1) xs))
cut_at p xs place e =
    let w = when_some (ltb (position_or_len p xs) (length xs)) (position_or_len p xs) place e in
    let cut = slice_split_first p xs 0 (ltb-true _ _ w.0) in
    rw (the_rest place xs) (subst (λ (n : ℕ). slice_split p xs ≡ take n xs ∷ slice_split p (drop (n + 1) xs)) w.1 cut)

pub cut_nowhere : (p : ℕ → Bool) (xs : List ℕ) → position p xs ≡ None → slice_split p xs ≡ xs ∷ []
cut_nowhere p xs e =
    let far = when_none (ltb (position_or_len p xs) (length xs)) (position_or_len p xs) e in
    let le : length xs ≤ position_or_len p xs = grind (arith, nat_tests, far) in
    slice_split_none p xs (λ k d lt. not_true _ (prefix_len_passes (λ x. not (p x)) xs k d (omega (arith, le, lt))))
