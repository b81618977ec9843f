-- The remainder after a word is that of the number that its bytes spell, and sixteen bytes are four words.
use Rattle.std.proofs.Common.{◌≡◌, ℕ, zero, suc, ◌+◌, ◌*◌, ◌/◌, ◌%◌, ◌^◌, ◌<◌, ◌≤◌, List, [], ◌∷◌, ◌++◌, length}
use Rattle.std.proofs.Common.{get_or, take, drop, drop-drop, take-add, refl, sym, ◌∙◌, ap, arith, ◌⊎◌, ⊎_elim}
use Rattle.std.specs.Prelude.{◌==◌}
use Rattle.std.specs.Int.{from_le_bytes, w32}
use Rattle.std.specs.Simd.{first_chunks}
use Rattle.std.proofs.lemmas.List.{drop_more, drop_all, get_or-drop, length-drop, length-take-le, take_all}
use mathlib.Core.Path.{ap₂}
use Rattle.std.proofs.Math.Nat.{mul_comm}
use lib.Bits.{bit_xor, bit_and, xor_assoc, xor_comm, xor_self, xor_zero_r, xor_zero_l, xor_shifted, xor_mod, xor_shr}
use lib.Bits.{and_mask}
use Rattle.crc32c.specs.Crc.{byte_steps, divisor, divide_bit, eight_steps, after_byte, remainder_of}
use Rattle.crc32c.specs.declared.table.TheConstants.{TABLES}
use Rattle.crc32c.proofs.Division.{taken, divide_bit_is, eight_above, whole, table_holds}

-- where two numbers are added, so are their remainders
taken-add : (p q h k : ℕ) → p < 2 → q < 2
    → taken (bit_xor p q == 1) (bit_xor h k) ≡ bit_xor (taken (p == 1) h) (taken (q == 1) k)
unfolding taken
taken-add p q h k small_p small_q = ⊎_elim
    (λ (p0 : p ≡ 0). ⊎_elim
    (λ (q0 : q ≡ 0). ap₂ (λ a b. taken (bit_xor a b == 1) (bit_xor h k)) p0 q0
    ∙ sym (ap₂ (λ a b. bit_xor (taken (a == 1) h) (taken (b == 1) k)) p0 q0))
    (λ (q1 : q ≡ 1). ap₂ (λ a b. taken (bit_xor a b == 1) (bit_xor h k)) p0 q1 ∙ xor_assoc h k divisor
    ∙ sym (ap₂ (λ a b. bit_xor (taken (a == 1) h) (taken (b == 1) k)) p0 q1))
    (two q small_q))
    (λ (p1 : p ≡ 1). ⊎_elim
    (λ (q0 : q ≡ 0). ap₂ (λ a b. taken (bit_xor a b == 1) (bit_xor h k)) p1 q0 ∙ xor_assoc h k divisor
    ∙ ap (bit_xor h) (xor_comm k divisor) ∙ sym (xor_assoc h divisor k)
    ∙ sym (ap₂ (λ a b. bit_xor (taken (a == 1) h) (taken (b == 1) k)) p1 q0))
    (λ (q1 : q ≡ 1). ap₂ (λ a b. taken (bit_xor a b == 1) (bit_xor h k)) p1 q1 ∙ sym (cancel h k)
    ∙ sym (ap₂ (λ a b. bit_xor (taken (a == 1) h) (taken (b == 1) k)) p1 q1))
    (two q small_q))
    (two p small_p)
  where
    two : (n : ℕ) → n < 2 → (n ≡ 0) ⊎ (n ≡ 1)
    two n lt = grind arith

    cancel : (h k : ℕ) → bit_xor (bit_xor h divisor) (bit_xor k divisor) ≡ bit_xor h k
    cancel h k =
        xor_assoc h divisor (bit_xor k divisor)
        ∙ ap (bit_xor h)
        (ap (bit_xor divisor) (xor_comm k divisor) ∙ sym (xor_assoc divisor divisor k)
        ∙ ap (λ z. bit_xor z k) (xor_self divisor) ∙ xor_zero_l k)

divide_bit-add : (a b : ℕ) → divide_bit (bit_xor a b) ≡ bit_xor (divide_bit a) (divide_bit b)
divide_bit-add a b =
    divide_bit_is (bit_xor a b)
    ∙ ap₂ (λ p h. taken (p == 1) h) (xor_mod a b 1) (xor_shr a b 1)
    ∙ taken-add (a % 2) (b % 2) (a / 2) (b / 2) (omega arith) (omega arith)
    ∙ sym (ap₂ bit_xor (divide_bit_is a) (divide_bit_is b))

eight_steps-add : (a b : ℕ) → eight_steps (bit_xor a b) ≡ bit_xor (eight_steps a) (eight_steps b)
unfolding eight_steps
eight_steps-add a b = simp divide_bit-add

byte_steps-add : (n a b : ℕ) → byte_steps n (bit_xor a b) ≡ bit_xor (byte_steps n a) (byte_steps n b)
unfolding byte_steps
byte_steps-add zero a b = refl
byte_steps-add (suc n) a b = ap (byte_steps n) (eight_steps-add a b) ∙ byte_steps-add n (eight_steps a) (eight_steps b)

-- the lowest byte and the rest
byte_steps-split : (n r : ℕ) → byte_steps (suc n) r ≡ bit_xor (byte_steps (suc n) (r % 256)) (byte_steps n (r / 256))
unfolding byte_steps
byte_steps-split n r =
    ap (λ m. byte_steps n (eight_steps m)) (whole r) ∙ ap (byte_steps n) (eight_above (r / 256) (r % 256))
    ∙ byte_steps-add n (r / 256) (eight_steps (r % 256))
    ∙ xor_comm (byte_steps n (r / 256)) (byte_steps n (eight_steps (r % 256)))

-- one run of steps after another
byte_steps-after : (a b r : ℕ) → byte_steps a (byte_steps b r) ≡ byte_steps (b + a) r
unfolding byte_steps
byte_steps-after a zero r = let none : a ≡ 0 + a = omega arith in ap (λ n. byte_steps n r) none
byte_steps-after a (suc b) r =
    let one : suc (b + a) ≡ suc b + a = omega arith in
    byte_steps-after a b (eight_steps r) ∙ ap (λ n. byte_steps n r) one

-- the number that these bytes spell, the lowest first
number_of : List ℕ → ℕ
number_of [] = 0
number_of (byte ∷ bytes) = byte + 256 * number_of bytes

number_more : (b rest : ℕ) → b < 256 → b + 256 * rest ≡ bit_xor (256 * rest) b
number_more b rest small = sym (ap (λ m. bit_xor m b) (mul_comm 256 rest) ∙ xor_shifted rest 8 b small ∙ omega arith)

-- bytes leave what the number that they spell leaves
remainder_of-number : (r : ℕ) (bytes : List ℕ) → ((i : ℕ) → get_or bytes i 0 < 256)
    → remainder_of r bytes ≡ byte_steps (length bytes) (bit_xor r (number_of bytes))
unfolding remainder_of byte_steps number_of after_byte
remainder_of-number r [] small = sym (xor_zero_r r)
remainder_of-number r (b ∷ bytes) small =
    let rest = number_of bytes in
    remainder_of-number (eight_steps (bit_xor r b)) bytes (λ i. small (suc i))
    ∙ ap (byte_steps (length bytes))
    (xor_comm (eight_steps (bit_xor r b)) rest ∙ sym (eight_above rest (bit_xor r b)) ∙ ap eight_steps (moved rest))
  where
    moved : (rest : ℕ) → bit_xor (256 * rest) (bit_xor r b) ≡ bit_xor r (b + 256 * rest)
    moved rest =
        xor_comm (256 * rest) (bit_xor r b) ∙ xor_assoc r b (256 * rest)
        ∙ ap (bit_xor r) (xor_comm b (256 * rest) ∙ sym (number_more b rest (small 0)))

-- one list of bytes after another
pub remainder_of-append : (r : ℕ) (xs ys : List ℕ) → remainder_of r (xs ++ ys) ≡ remainder_of (remainder_of r xs) ys
unfolding remainder_of
remainder_of-append r [] ys = refl
remainder_of-append r (x ∷ xs) ys = remainder_of-append (after_byte r x) xs ys

-- the looks into the four tables of a word with so many bytes behind it, one for each byte of the word
pub look_up_word : (m z : ℕ) → m ≤ 12 → z < 2 ^ 32 →
    bit_xor (bit_xor (bit_xor
    (get_or (get_or TABLES (m + 3) []) (bit_and z 255) 0)
    (get_or (get_or TABLES (m + 2) []) (bit_and (z / 256) 255) 0))
    (get_or (get_or TABLES (m + 1) []) (bit_and (z / 65536) 255) 0))
    (get_or (get_or TABLES m []) (z / 16777216) 0)
    ≡ byte_steps (m + 4) z
look_up_word m z few small =
    let e3 = look (m + 3) (m + 4) z (omega arith) (omega arith) in
    let e2 = look (m + 2) (m + 3) (z / 256) (omega arith) (omega arith) in
    let e1 = look (m + 1) (m + 2) (z / 65536) (omega arith) (omega arith) in
    let one : suc m ≡ m + 1 = omega arith in
    let e0 =
    table_holds m (z / 16777216) (omega arith) (omega arith) ∙ ap (λ k. byte_steps k (z / 16777216)) one in
    let a3 = byte_steps (m + 4) (z % 256) in
    let a2 = bit_xor a3 (byte_steps (m + 3) (z / 256 % 256)) in
    ap₂ bit_xor (ap₂ bit_xor (ap₂ bit_xor e3 e2) e1) e0
    ∙ sym (first (m + 4) (m + 3) z (z / 256) (omega arith) refl
    ∙ next a3 (m + 3) (m + 2) (z / 256) (z / 65536) (omega arith) (omega arith)
    ∙ next a2 (m + 2) (m + 1) (z / 65536) (z / 16777216) (omega arith) (omega arith))
  where
    look : (k j n : ℕ) → k < 16 → j ≡ suc k → get_or (get_or TABLES k []) (bit_and n 255) 0 ≡ byte_steps j (n % 256)
    look k j n lt is =
        ap (λ i. get_or (get_or TABLES k []) i 0) (and_mask n 8) ∙ table_holds k (n % 256) lt (omega arith)
        ∙ ap (λ s. byte_steps s (n % 256)) (sym is)

    -- one byte less is left
    first : (j n x y : ℕ) → j ≡ suc n → y ≡ x / 256 → byte_steps j x ≡ bit_xor (byte_steps j (x % 256)) (byte_steps n y)
    first j n x y more is =
        ap (λ s. byte_steps s x) more ∙ byte_steps-split n x
        ∙ ap₂ (λ s m. bit_xor (byte_steps s (x % 256)) (byte_steps n m)) (sym more) (sym is)

    next : (a j n x y : ℕ) → j ≡ suc n → y ≡ x / 256
        → bit_xor a (byte_steps j x) ≡ bit_xor (bit_xor a (byte_steps j (x % 256))) (byte_steps n y)
    next a j n x y more is =
        ap (bit_xor a) (first j n x y more is) ∙ sym (xor_assoc a (byte_steps j (x % 256)) (byte_steps n y))

-- the number of four bytes, byte by byte
number_of-four : (xs : List ℕ) → length xs ≡ 4
    → number_of xs ≡ number_of (get_or xs 0 0 ∷ get_or xs 1 0 ∷ get_or xs 2 0 ∷ get_or xs 3 0 ∷ [])
number_of-four xs long =
    ap number_of
    (item 0 (omega arith)
    ∙ put 0 (item 1 (omega arith)
    ∙ put 1 (item 2 (omega arith) ∙ put 2 (item 3 (omega arith) ∙ put 3 (drop_all 4 xs (omega arith))))))
  where
    item : (i : ℕ) → i < length xs → drop i xs ≡ get_or xs i 0 ∷ drop (i + 1) xs
    item i lt = drop_more xs i 0 lt

    put : (i : ℕ) {a b : List ℕ} → a ≡ b → get_or xs i 0 ∷ a ≡ get_or xs i 0 ∷ b
    put i is = ap (λ (l : List ℕ). get_or xs i 0 ∷ l) is

-- and as a word of 32 bits
number_of-word : (xs : List ℕ) → length xs ≡ 4 → number_of xs ≡ from_le_bytes w32 xs
unfolding number_of
number_of-word xs long = number_of-four xs long ∙ omega arith

-- the rest of a list of bytes, behind the first of them
pub remainder_of-parts : (r at n : ℕ) (bytes : List ℕ)
    → remainder_of (remainder_of r (take at bytes)) (take n (drop at bytes)) ≡ remainder_of r (take (at + n) bytes)
remainder_of-parts r at n bytes =
    sym (remainder_of-append r (take at bytes) (take n (drop at bytes)))
    ∙ ap (remainder_of r) (sym (take-add at n bytes))

-- a chunk by its place
pub chunk : {X : Type 0} (n k i : ℕ) (xs : List X) (d : List X) → i < k
    → get_or (first_chunks n k xs) i d ≡ take n (drop (i * n) xs)
chunk n zero i xs d lt = absurd (omega arith)
chunk n (suc k) zero xs d lt = let start : 0 ≡ 0 * n = grind arith in ap (λ at. take n (drop at xs)) start
chunk n (suc k) (suc i) xs d lt =
    chunk n k i (drop n xs) d (omega arith) ∙ ap (take n) (drop-drop (i * n) n xs)
    ∙ ap (λ at. take n (drop at xs)) (further i n)
  where
    further : (i n : ℕ) → n + i * n ≡ suc i * n
    further i n = grind arith

-- the first of some bytes are bytes
small_take : (n : ℕ) (xs : List ℕ) → ((i : ℕ) → get_or xs i 0 < 256) → (i : ℕ) → get_or (take n xs) i 0 < 256
small_take zero xs small i = omega arith
small_take (suc n) [] small i = small i
small_take (suc n) (x ∷ xs) small zero = small 0
small_take (suc n) (x ∷ xs) small (suc i) = small_take n xs (λ j. small (suc j)) i

-- sixteen bytes leave what their words leave with the words behind them, the remainder added to the first
pub remainder_of-sixteen : (r : ℕ) (bytes : List ℕ) → length bytes ≡ 16 → ((i : ℕ) → get_or bytes i 0 < 256) →
    bit_xor (bit_xor (bit_xor
    (byte_steps 4 (from_le_bytes w32 (take 4 (drop 12 bytes))))
    (byte_steps 8 (from_le_bytes w32 (take 4 (drop 8 bytes)))))
    (byte_steps 12 (from_le_bytes w32 (take 4 (drop 4 bytes)))))
    (byte_steps 16 (bit_xor r (from_le_bytes w32 (take 4 bytes))))
    ≡ remainder_of r bytes
remainder_of-sixteen r bytes long small =
    let first = bit_xor r (word 0) in
    let after_1 : remainder_of r (take 4 bytes) ≡ byte_steps 4 first = spelt r 0 (omega arith) in
    let after_2 : remainder_of r (take 8 bytes) ≡ bit_xor (byte_steps 4 (word 4)) (byte_steps 8 first) =
    next 4 (byte_steps 4 first) (omega arith) after_1
    ∙ ap (bit_xor (byte_steps 4 (word 4))) (byte_steps-after 4 4 first) in
    let after_3 : remainder_of r (take 12 bytes)
    ≡ bit_xor (byte_steps 4 (word 8)) (bit_xor (byte_steps 8 (word 4)) (byte_steps 12 first)) =
    next 8 (bit_xor (byte_steps 4 (word 4)) (byte_steps 8 first)) (omega arith) after_2
    ∙ ap (bit_xor (byte_steps 4 (word 8))) (byte_steps-add 4 (byte_steps 4 (word 4)) (byte_steps 8 first)
    ∙ ap₂ bit_xor (byte_steps-after 4 4 (word 4)) (byte_steps-after 4 8 first)) in
    let rest = bit_xor (byte_steps 8 (word 4)) (byte_steps 12 first) in
    let after_4 : remainder_of r (take 16 bytes) ≡ bit_xor (byte_steps 4 (word 12))
    (bit_xor (byte_steps 8 (word 8)) (bit_xor (byte_steps 12 (word 4)) (byte_steps 16 first))) =
    next 12 (bit_xor (byte_steps 4 (word 8)) rest) (omega arith) after_3
    ∙ ap (bit_xor (byte_steps 4 (word 12))) (byte_steps-add 4 (byte_steps 4 (word 8)) rest
    ∙ ap₂ bit_xor (byte_steps-after 4 4 (word 8)) (byte_steps-add 4 (byte_steps 8 (word 4)) (byte_steps 12 first)
    ∙ ap₂ bit_xor (byte_steps-after 4 8 (word 4)) (byte_steps-after 4 12 first))) in
    xor_assoc (bit_xor (byte_steps 4 (word 12)) (byte_steps 8 (word 8))) (byte_steps 12 (word 4)) (byte_steps 16 first)
    ∙ xor_assoc (byte_steps 4 (word 12)) (byte_steps 8 (word 8))
    (bit_xor (byte_steps 12 (word 4)) (byte_steps 16 first))
    ∙ sym after_4 ∙ ap (remainder_of r) (take_all 16 bytes (omega arith))
  where
    word : ℕ → ℕ
    word at = from_le_bytes w32 (take 4 (drop at bytes))

    four : (at : ℕ) → at + 4 ≤ 16 → length (take 4 (drop at bytes)) ≡ 4
    four at le =
        let left = length-drop at bytes in
        length-take-le 4 (drop at bytes) (omega arith)

    small_at : (at i : ℕ) → get_or (take 4 (drop at bytes)) i 0 < 256
    small_at at =
        small_take 4 (drop at bytes)
        (λ i. (let is = get_or-drop at bytes i 0 in let fits = small (at + i) in omega arith))

    spelt : (r at : ℕ) → at + 4 ≤ 16 → remainder_of r (take 4 (drop at bytes)) ≡ byte_steps 4 (bit_xor r (word at))
    spelt r at le =
        remainder_of-number r (take 4 (drop at bytes)) (small_at at)
        ∙ ap₂ (λ n w. byte_steps n (bit_xor r w)) (four at le) (number_of-word (take 4 (drop at bytes)) (four at le))

    -- one word more, where this is the remainder before it
    next : (at before : ℕ) → at + 4 ≤ 16 → remainder_of r (take at bytes) ≡ before
        → remainder_of r (take (at + 4) bytes) ≡ bit_xor (byte_steps 4 (word at)) (byte_steps 4 before)
    next at before le is =
        sym (remainder_of-parts r at 4 bytes) ∙ spelt (remainder_of r (take at bytes)) at le
        ∙ ap (byte_steps 4) (ap (λ b. bit_xor b (word at)) is ∙ xor_comm before (word at))
        ∙ byte_steps-add 4 (word at) before
