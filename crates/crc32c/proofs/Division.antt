-- Eight steps of the division are one look into a table, and so are those of a byte with bytes behind it.
use Rattle.std.proofs.Common.{◌≡◌, ℕ, zero, suc, ◌*◌, ◌/◌, ◌%◌, ◌^◌, ◌<◌, List, [], ◌∷◌, ◌++◌, get_or, refl, sym, ◌∙◌}
use Rattle.std.proofs.Common.{ap, arith, ◌⊎◌, ⊎_elim, Bool, true, false, bit_and}
use Rattle.std.specs.Prelude.{◌==◌, ◌&&◌, cond}
use Rattle.std.proofs.lemmas.Bool.{eqb-true}
use mathlib.Core.Path.{ap₂}
use Rattle.std.proofs.Math.Nat.{mul_comm}
use lib.Bits.{bit_xor, xor_assoc, xor_comm, xor_zero_r, xor_shifted, xor_mod, xor_shr, and_mask}
use Rattle.crc32c.specs.Crc.{byte_steps, divisor, divide_bit, eight_steps, after_byte, remainder_of}
use Rattle.crc32c.specs.declared.table.TheConstants.{TABLES}

-- one step of the division, where the bit that falls out is known
unfoldable pub taken : Bool → ℕ → ℕ
taken true h = bit_xor h divisor
taken false h = h

-- a step, by the bit that falls out
pub divide_bit_is : (r : ℕ) → divide_bit r ≡ taken (r % 2 == 1) (r / 2)
unfolding divide_bit taken
divide_bit_is r = go (r % 2 == 1)
  where
    go : (b : Bool) → cond b (bit_xor (r / 2) divisor) (r / 2) ≡ taken b (r / 2)
    go true = refl
    go false = refl

taken-xor : (b : Bool) (m h : ℕ) → taken b (bit_xor m h) ≡ bit_xor m (taken b h)
unfolding taken
taken-xor true m h = xor_assoc m h divisor
taken-xor false m h = refl

half_even : (m t : ℕ) → bit_xor (2 * m) t / 2 ≡ bit_xor m (t / 2)
half_even m t = xor_shr (2 * m) t 1 ∙ ap (λ h. bit_xor h (t / 2)) half
  where
    half : 2 * m / 2 ^ 1 ≡ m
    half = omega arith

parity_even : (m t : ℕ) → bit_xor (2 * m) t % 2 ≡ t % 2
parity_even m t = xor_mod (2 * m) t 1 ∙ ap (λ h. bit_xor h (t % 2)) even
  where
    even : 2 * m % 2 ^ 1 ≡ 0
    even = omega arith

-- what stands above the lowest power only moves
step_even : (m t : ℕ) → divide_bit (bit_xor (2 * m) t) ≡ bit_xor m (divide_bit t)
step_even m t =
    divide_bit_is (bit_xor (2 * m) t)
    ∙ ap₂ (λ p h. taken (p == 1) h) (parity_even m t) (half_even m t)
    ∙ taken-xor (t % 2 == 1) m (t / 2)
    ∙ ap (bit_xor m) (sym (divide_bit_is t))

-- so the eight steps of a number are those of its lowest byte, beside the rest moved down
pub eight_above : (q s : ℕ) → eight_steps (bit_xor (256 * q) s) ≡ bit_xor q (eight_steps s)
unfolding eight_steps
eight_above q s =
    let e1 = step (128 * q) s (256 * q) (omega arith) in
    let e2 = step (64 * q) (divide_bit s) (128 * q) (omega arith) in
    let e3 = step (32 * q) (divide_bit (divide_bit s)) (64 * q) (omega arith) in
    let e4 = step (16 * q) (divide_bit (divide_bit (divide_bit s))) (32 * q) (omega arith) in
    let e5 = step (8 * q) (divide_bit (divide_bit (divide_bit (divide_bit s)))) (16 * q) (omega arith) in
    let e6 = step (4 * q) (divide_bit (divide_bit (divide_bit (divide_bit (divide_bit s))))) (8 * q) (omega arith) in
    let e7 =
    step (2 * q) (divide_bit (divide_bit (divide_bit (divide_bit (divide_bit (divide_bit s)))))) (4 * q)
    (omega arith) in
    let e8 = step_even q (divide_bit (divide_bit (divide_bit (divide_bit (divide_bit (divide_bit (divide_bit s))))))) in
    cc
  where
    step : (m t n : ℕ) → n ≡ 2 * m → divide_bit (bit_xor n t) ≡ bit_xor m (divide_bit t)
    step m t n is = ap (λ x. divide_bit (bit_xor x t)) is ∙ step_even m t

-- the remainders of the first numbers below k stand in the table
agrees_below : (ℕ → ℕ) → List ℕ → ℕ → Bool
agrees_below f table zero = true
agrees_below f table (suc k) = (get_or table k 0 == eight_steps (f k)) && agrees_below f table k

both : (a b : Bool) → (a && b) ≡ true → (a ≡ true) × (b ≡ true)
both true b h = (refl, h)
both false b h = absurd cc

last_or_below : (k n : ℕ) → n < suc k → (n ≡ k) ⊎ (n < k)
last_or_below k n lt = grind arith

below : (f : ℕ → ℕ) (table : List ℕ) (k n : ℕ) → n < k → agrees_below f table k ≡ true
    → get_or table n 0 ≡ eight_steps (f n)
unfolding agrees_below
below f table zero n lt is = absurd (omega arith)
below f table (suc k) n lt is =
    let parts = both (get_or table k 0 == eight_steps (f k)) (agrees_below f table k) is in
    ⊎_elim (λ (e : n ≡ k). ap (λ m. get_or table m 0) e ∙ eqb-true (get_or table k 0) (eight_steps (f k)) parts.0
    ∙ ap (λ m. eight_steps (f m)) (sym e)) (λ (l : n < k). below f table k n l parts.1) (last_or_below k n lt)

byte_steps-more : (n r : ℕ) → eight_steps (byte_steps n r) ≡ byte_steps (suc n) r
unfolding byte_steps
byte_steps-more zero r = refl
byte_steps-more (suc n) r = byte_steps-more n (eight_steps r)

-- a number looked up in the table of so many bytes behind
look : ℕ → ℕ → ℕ
look behind n = get_or (get_or TABLES behind []) n 0

-- the tables up to this one: the first has the eight steps of each byte, each other those of what the one before has
agrees : ℕ → Bool
agrees zero = agrees_below (λ n. n) (get_or TABLES 0 []) 256
agrees (suc k) = agrees_below (look k) (get_or TABLES (suc k) []) 256 && agrees k

all_agree : agrees 15 ≡ true
unfolding agrees agrees_below look eight_steps divide_bit
all_agree = refl

agrees_to : (k j : ℕ) → j < suc k → agrees k ≡ true → agrees j ≡ true
unfolding agrees
agrees_to zero j lt is = let first : j ≡ 0 = omega arith in ap agrees first ∙ is
agrees_to (suc k) j lt is = ⊎_elim (λ (e : j ≡ suc k). ap agrees e ∙ is)
    (λ (l : j < suc k).
    agrees_to k j l (both (agrees_below (look k) (get_or TABLES (suc k) []) 256) (agrees k) is).1)
    (last_or_below (suc k) j lt)

holds : (behind n : ℕ) → n < 256 → agrees behind ≡ true → look behind n ≡ byte_steps (suc behind) n
unfolding agrees look byte_steps
holds zero n small is = below (λ m. m) (get_or TABLES 0 []) 256 n small is
holds (suc k) n small is =
    let parts = both (agrees_below (look k) (get_or TABLES (suc k) []) 256) (agrees k) is in
    below (look k) (get_or TABLES (suc k) []) 256 n small parts.0 ∙ ap eight_steps (holds k n small parts.1)
    ∙ byte_steps-more (suc k) n

-- each table has what a byte leaves with so many bytes behind it
pub table_holds : (behind n : ℕ) → behind < 16 → n < 256
    → get_or (get_or TABLES behind []) n 0 ≡ byte_steps (suc behind) n
unfolding look
table_holds behind n lt small = holds behind n small (agrees_to 15 behind lt all_agree)

-- a number is its lowest byte beside the rest
pub whole : (n : ℕ) → n ≡ bit_xor (256 * (n / 256)) (n % 256)
whole n =
    sym (ap (λ m. bit_xor m (n % 256)) (mul_comm 256 (n / 256)) ∙ xor_shifted (n / 256) 8 (n % 256) (omega arith)
    ∙ omega arith)

-- one look into the table, for a remainder to which a byte has been added
pub look_up : (r b : ℕ) → b < 256
    → bit_xor (get_or (get_or TABLES 0 []) (bit_and (bit_xor r b) 255) 0) (r / 256) ≡ after_byte r b
unfolding after_byte byte_steps
look_up r b small =
    let x = bit_xor r b in
    let high : x / 256 ≡ r / 256 = xor_shr r b 8 ∙ ap (bit_xor (r / 256)) (div_small b small) ∙ xor_zero_r (r / 256) in
    let low : bit_and x 255 ≡ x % 256 = and_mask x 8 in
    let split : x ≡ bit_xor (256 * (x / 256)) (x % 256) = whole x in
    ap₂ (λ l h. bit_xor (get_or (get_or TABLES 0 []) l 0) h) low (sym high)
    ∙ ap (λ t. bit_xor t (x / 256)) (table_holds 0 (x % 256) (omega arith) (omega arith))
    ∙ xor_comm (eight_steps (x % 256)) (x / 256)
    ∙ sym (eight_above (x / 256) (x % 256))
    ∙ ap eight_steps (sym split)
  where
    div_small : (n : ℕ) → n < 256 → n / 2 ^ 8 ≡ 0
    div_small n h = omega arith

-- one byte more at the end
pub remainder_of-push : (r : ℕ) (bytes : List ℕ) (b : ℕ)
    → remainder_of r (bytes ++ b ∷ []) ≡ after_byte (remainder_of r bytes) b
unfolding remainder_of
remainder_of-push r [] b = refl
remainder_of-push r (x ∷ bytes) b = remainder_of-push (after_byte r x) bytes b
