-- The steps of schedules, written out.
use Rattle.std.proofs.Common.{◌≡◌, ℕ, zero, suc, ◌+◌, ◌*◌, List, [], ◌∷◌, ◌++◌, length, sym, ap, ◌∙◌, append_assoc}
use Rattle.std.proofs.Common.{length-append, arith}
use Rattle.std.proofs.lemmas.List.{append-nil}
use Rattle.script_lang.specs.declared.schedule.Actor.{Actor}
use Rattle.script_lang.specs.declared.schedule.Part.{Part}
use Rattle.script_lang.specs.Schedules.{repeated, written_out}

pub length-repeated : (n : ℕ) (xs : List Actor) → length (repeated n xs) ≡ n * length xs
unfolding repeated
length-repeated zero xs = omega arith
length-repeated (suc n) xs = omega (arith, length-append xs (repeated n xs), length-repeated n xs)

-- a part that counts once
pub once_is : (xs : List Actor) → repeated 1 xs ≡ xs
unfolding repeated
once_is xs = append-nil xs

-- a part more
pub written_out_last : (parts : List Part) (part : Part)
    → written_out (parts ++ part ∷ []) ≡ written_out parts ++ repeated part.count part.actors
unfolding written_out
written_out_last [] part = append-nil (repeated part.count part.actors)
written_out_last (first ∷ parts) part =
    ap (λ xs. repeated first.count first.actors ++ xs) (written_out_last parts part)
    ∙ sym (append_assoc (repeated first.count first.actors) _ _)

pub pushed_steps : (parts new : List Part) (part : Part) (steps len : ℕ) → steps ≡ length (written_out parts)
    → len ≡ length part.actors → new ≡ parts ++ part ∷ [] → steps + part.count * len ≡ length (written_out new)
pushed_steps parts new part steps len before actors after =
    let a : length (written_out new) ≡ length (written_out parts ++ repeated part.count part.actors) =
    ap length (ap written_out after ∙ written_out_last parts part) in
    let b = length-append (written_out parts) (repeated part.count part.actors) in
    let c = length-repeated part.count part.actors in
    let d = ap (λ n. part.count * n) actors in
    omega (arith, a, b, c, d)
