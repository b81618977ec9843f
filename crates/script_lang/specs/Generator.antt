-- The draws of generated scripts, by a linear congruential generator: x times 1103515245 plus 12345 modulo 2^31, of
-- which a draw takes the bits from the 16th on.
use Rattle.std.specs.Prelude.{◌≡◌, ℕ, zero, suc, ◌+◌, ◌*◌, ◌/◌, ◌%◌, ◌^◌, nat_lt, if◌then◌else◌, List, [], ◌∷◌, map}
use Rattle.std.specs.Prelude.{refl}
use Rattle.std.specs.List.{range_with_len}

-- the state after one draw
unfoldable pub after_draw : ℕ → ℕ
after_draw x = (x * 1103515245 + 12345) % 2 ^ 31

-- the state after so many draws
abbrev pub after_draws : ℕ → ℕ → ℕ
after_draws zero x = x
after_draws (suc n) x = after_draws n (after_draw x)

-- the result of the draw of this number, from 1, below n
abbrev pub drawn : ℕ → ℕ → ℕ → ℕ
drawn x draw n = after_draws draw x / 65536 % n

-- the results of so many draws, all below n
abbrev pub draws : ℕ → ℕ → ℕ → List ℕ
draws x count n = map (λ draw. drawn x draw n) (range_with_len 1 count)

-- the first ten from 1: those of the sample generator of the C standard
pub first_ten : draws 1 10 32768 ≡ 16838 ∷ 5758 ∷ 10113 ∷ 17515 ∷ 31051 ∷ 5627 ∷ 23010 ∷ 7419 ∷ 16212 ∷ 4086 ∷ []
unfolding after_draw
first_ten = refl

-- the state after a drawn line: writes and reads take four draws, a flush two, a put three
abbrev pub after_line : ℕ → ℕ
after_line x = after_draws (if nat_lt (drawn x 2 8) 6 then 4 else (if nat_lt (drawn x 2 8) 7 then 2 else 3)) x

-- the state before a drawn line, from 0
unfoldable pub before_line : ℕ → ℕ → ℕ
before_line number zero = number
before_line number (suc line) = after_line (before_line number line)
