-- The first places of a set join it one after the other.
use Rattle.std.proofs.Common.{◌≡◌, ℕ, zero, suc, ◌+◌, ◌-◌, ◌<◌, Bool, true, false, List, ◌∷◌, ◌++◌, set, replicate}
use Rattle.std.proofs.Common.{refl, sym, ap, ◌∙◌, arith}
use Rattle.bit_array.specs.Bits.{first_of}

-- the place behind the first ones joins
next_joins : (count rest : ℕ)
    → set (replicate count true ++ replicate (suc rest) false) count true ≡ replicate
    (suc count) true ++ replicate rest false
next_joins zero rest = refl
next_joins (suc count) rest = ap (λ (bits : List Bool). true ∷ bits) (next_joins count rest)

-- the first places and the next one are the first places of one more
pub first_of_next : (count len : ℕ) → count < len → set (first_of count len) count true ≡ first_of (count + 1) len
first_of_next count len lt =
    let rest : len - count ≡ suc (len - (count + 1)) = omega arith in
    let more : count + 1 ≡ suc count = omega arith in
    ap (λ (n : ℕ). set (replicate count true ++ replicate n false) count true) rest
    ∙ next_joins count (len - (count + 1))
    ∙ ap (λ (n : ℕ). replicate n true ++ replicate (len - (count + 1)) false) (sym more)
