-- A number that is read is the one that was written.
use Rattle.std.proofs.Common.{◌≡◌, ℕ, ◌+◌, ◌^◌, ◌<◌, ◌≤◌, List, [], ◌++◌, length, get_or, take, drop, refl, sym, ap}
use Rattle.std.proofs.Common.{◌∙◌, arith, length-drop, inl, inr}
use Rattle.std.proofs.lemmas.Bool.{cases_lt}
use Rattle.std.proofs.lemmas.List.{take_at, drop_at, take-append-drop, drop-take, take-take, length-take}
use Rattle.std.proofs.lemmas.List.{get_or-drop, get_or-take, get_or_past}
use Rattle.std.proofs.lemmas.Nat.{be_bytes_2, be_bytes_4, be_bytes_8}
use Rattle.std.specs.Int.{w16, w32, w64, from_be_bytes}
use Rattle.byteorder.specs.Endian.{big_number}
use Rattle.byteorder.specs.Numbers.{big_number-reads_back, length-bytes_high_first}
use Rattle.nbd_words.specs.Numbers.{number_bytes}

-- a number is written in as many bytes as it has
pub length-number : (n x : ℕ) → length (number_bytes n x) ≡ n
unfolding number_bytes
length-number n x = length-bytes_high_first n x

number_again : (n x : ℕ) (rest : List ℕ) → x < 256 ^ n → big_number n (number_bytes n x ++ rest) ≡ x
unfolding number_bytes
number_again n x rest lt = big_number-reads_back n x rest lt

-- bytes begin with one number of a length
pub same_number : (n x y : ℕ) (r s : List ℕ) → x < 256 ^ n → y < 256 ^ n
    → number_bytes n x ++ r ≡ number_bytes n y ++ s → (x ≡ y) × (r ≡ s)
same_number n x y r s lx ly e = (
  sym (number_again n x r lx) ∙ ap (big_number n) e ∙ number_again n y s ly,
  sym (drop_at (number_bytes n x) r n (length-number n x)) ∙ ap (drop n) e
      ∙ drop_at (number_bytes n y) s n (length-number n y),
)

-- one number has these bytes
pub one_number : (n x y : ℕ) → x < 256 ^ n → y < 256 ^ n → number_bytes n x ≡ number_bytes n y → x ≡ y
one_number n x y lx ly e = (same_number n x y [] [] lx ly (ap (λ (xs : List ℕ). xs ++ []) e)).0

-- bytes begin with one text of a length
pub same_text : (a b r s : List ℕ) → length a ≡ length b → a ++ r ≡ b ++ s → (a ≡ b) × (r ≡ s)
same_text a b r s len e = (
  sym (take_at a r (length a) refl) ∙ ap (take (length a)) e ∙ take_at b s (length a) (sym len),
  sym (drop_at a r (length a) refl) ∙ ap (drop (length a)) e ∙ drop_at b s (length a) (sym len),
)

-- what is taken in two steps
pub take_both : (n m : ℕ) (xs : List ℕ) → take (n + m) xs ≡ take n xs ++ take m (drop n xs)
take_both n m xs =
    sym (take-append-drop n (take (n + m) xs))
    ∙ ap (λ (t : List ℕ). take n (take (n + m) xs) ++ t) (drop-take n m xs)
    ∙ ap (λ (t : List ℕ). t ++ take m (drop n xs)) (take-take n (n + m) xs (omega arith))

-- ---- reading

abbrev pub IsBytes : List ℕ → Type 0
IsBytes bytes = (i : ℕ) → get_or bytes i 0 < 256

cells_fit : (at n : ℕ) (bytes : List ℕ) → IsBytes bytes → IsBytes (take n (drop at bytes))
cells_fit at n bytes h i =
    elim (cases_lt i n) [
      | inl lt ↦ rw (get_or-take n (drop at bytes) i 0 lt, get_or-drop) (h (at + i))
      | inr le ↦
          rw (get_or_past (take n (drop at bytes)) i 0 (omega (arith, length-take n (drop at bytes))))
          (omega arith)
    ]

cells_are : (at n : ℕ) (bytes : List ℕ) → at + n ≤ length bytes → length (take n (drop at bytes)) ≡ n
cells_are at n bytes le = omega (arith, length-take n (drop at bytes), length-drop at bytes)

-- a number of 2 bytes is written as it stands
pub read_2 : (bytes : List ℕ) (at k n : ℕ) → k ≡ 2 → at + 2 ≤ length bytes → IsBytes bytes
    → n ≡ from_be_bytes w16 (take k (drop at bytes)) → take (at + 2) bytes ≡ take at bytes ++ number_bytes 2 n
unfolding number_bytes
read_2 bytes at k n two le fits is =
    take_both at 2 bytes ∙ ap (λ (xs : List ℕ). take at bytes ++ xs) (sym (be_bytes_2 (take 2 (drop at bytes)) n
    (cells_are at 2 bytes le) (cells_fit at 2 bytes fits)
    (is ∙ ap (λ (j : ℕ). from_be_bytes w16 (take j (drop at bytes))) two)))

-- a number of 4 bytes is written as it stands
pub read_4 : (bytes : List ℕ) (at k n : ℕ) → k ≡ 4 → at + 4 ≤ length bytes → IsBytes bytes
    → n ≡ from_be_bytes w32 (take k (drop at bytes)) → take (at + 4) bytes ≡ take at bytes ++ number_bytes 4 n
unfolding number_bytes
read_4 bytes at k n four le fits is =
    take_both at 4 bytes ∙ ap (λ (xs : List ℕ). take at bytes ++ xs) (sym (be_bytes_4 (take 4 (drop at bytes)) n
    (cells_are at 4 bytes le) (cells_fit at 4 bytes fits)
    (is ∙ ap (λ (j : ℕ). from_be_bytes w32 (take j (drop at bytes))) four)))

-- a number of 8 bytes is written as it stands
pub read_8 : (bytes : List ℕ) (at k n : ℕ) → k ≡ 8 → at + 8 ≤ length bytes → IsBytes bytes
    → n ≡ from_be_bytes w64 (take k (drop at bytes)) → take (at + 8) bytes ≡ take at bytes ++ number_bytes 8 n
unfolding number_bytes
read_8 bytes at k n eight le fits is =
    take_both at 8 bytes ∙ ap (λ (xs : List ℕ). take at bytes ++ xs) (sym (be_bytes_8 (take 8 (drop at bytes)) n
    (cells_are at 8 bytes le) (cells_fit at 8 bytes fits)
    (is ∙ ap (λ (j : ℕ). from_be_bytes w64 (take j (drop at bytes))) eight)))
