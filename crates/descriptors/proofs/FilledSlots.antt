-- Consecutive clusters.
use Rattle.std.proofs.Common.{◌≡◌, ℕ, zero, suc, ◌+◌, ◌<◌, ◌≤◌, List, [], ◌∷◌, ◌++◌, length, All, Option, Some, refl}
use Rattle.std.proofs.Common.{sym, ap, subst, ◌∙◌, append_assoc, arith, length-append}
use Rattle.std.specs.List.{AllByRecursion}
use Rattle.std.proofs.lemmas.List.Elements.{All-append, All-from_recursion}
use Rattle.descriptors.specs.Slots.{IsSlot, filled_slots}

-- one slot more at the end of consecutive clusters
pub filled_more : (c n : ℕ) → filled_slots c n ++ Some (c + n) ∷ [] ≡ filled_slots c (suc n)
filled_more c zero = ap (λ (x : ℕ). Some x ∷ []) (omega arith)
filled_more c (suc n) = ap (λ (t : List (Option ℕ)). Some c ∷ t)
    (ap (λ (x : ℕ). filled_slots (c + 1) n ++ Some x ∷ []) (omega arith) ∙ filled_more (c + 1) n)

-- for the loop of `push_filled`: one slot more is pushed
pub filled_push : (front xs ys : List (Option ℕ)) (c i : ℕ) → xs ≡ front ++ filled_slots c i
    → ys ≡ xs ++ Some (c + i) ∷ [] → ys ≡ front ++ filled_slots c (i + 1)
filled_push front xs ys c i so_far this =
    let e : suc i ≡ i + 1 = omega arith in
    this ∙ ap (λ (t : List (Option ℕ)). t ++ Some (c + i) ∷ []) so_far ∙ append_assoc front _ _
    ∙ ap (λ (t : List (Option ℕ)). front ++ t) (filled_more c i) ∙ ap (λ (n : ℕ). front ++ filled_slots c n) e

-- consecutive clusters are as many as was asked for
pub length-filled : (c n : ℕ) → length (filled_slots c n) ≡ n
length-filled c zero = refl
length-filled c (suc n) = ap suc (length-filled (c + 1) n)

filled_are : (c n : ℕ) → 0 < c → AllByRecursion IsSlot (filled_slots c n)
filled_are c zero h = tt
filled_are c (suc n) h = (h, filled_are (c + 1) n (omega arith))

-- consecutive clusters from one above 0 on are slots
pub all_filled : (xs ys : List (Option ℕ)) (c n : ℕ) → 0 < c → ys ≡ xs ++ filled_slots c n → All IsSlot xs
    → All IsSlot ys
all_filled xs ys c n h e a = subst (All IsSlot) (sym e)
    (All-append IsSlot xs (filled_slots c n) a (All-from_recursion IsSlot (filled_slots c n) (filled_are c n h)))

-- so many slots are pushed, and no more
pub few_filled : (xs ys : List (Option ℕ)) (c n : ℕ) → ys ≡ xs ++ filled_slots c n → length ys ≤ length xs + n
few_filled xs ys c n e = omega (arith, ap length e, length-append xs (filled_slots c n), length-filled c n)
