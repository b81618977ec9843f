-- What is shown is ASCII, and so UTF-8.
use Rattle.std.proofs.Common.{◌≡◌, ℕ, zero, suc, ◌/◌, ◌%◌, Bool, true, false, ◌&&◌, nat_lt, if◌then◌else◌}
use Rattle.std.proofs.Common.{List, [], ◌∷◌, ◌++◌, length, refl, IsUtf8, arith, inl, inr}
use Rattle.std.specs.Prelude.{codes, slice_index, ◌==◌}
use Rattle.std.specs.List.{flat_map}
use Rattle.std.specs.Str.{bytes_eq}
use Rattle.std.proofs.lemmas.Bool.{and_parts, cases_Bool}
use Rattle.json.proofs.Printed.Utf8.{are_ascii, IsUtf8-are_ascii}
use Rattle.blob_report.specs.Pieces.{hex_byte, is_plain, shown_byte, shown_bytes}

ascii_at : (xs : List ℕ) (n : ℕ) → are_ascii xs ≡ true → nat_lt (slice_index xs n) 128 ≡ true
ascii_at [] n ascii = refl
ascii_at (x ∷ xs) zero ascii = (and_parts _ _ ascii).0
ascii_at (x ∷ xs) (suc n) ascii = ascii_at xs n (and_parts _ _ ascii).1

both : (a b : Bool) → a ≡ true → b ≡ true → (a && b) ≡ true
both true b left right = right
both false b left right = left

ascii-append : (xs ys : List ℕ) → are_ascii xs ≡ true → are_ascii ys ≡ true → are_ascii (xs ++ ys) ≡ true
ascii-append [] ys first second = second
ascii-append (x ∷ xs) ys first second =
    let parts = and_parts _ _ first in both _ _ parts.0 (ascii-append xs ys parts.1 second)

hex_ascii : (byte : ℕ) → are_ascii (hex_byte byte) ≡ true
hex_ascii byte =
    both _ _ (ascii_at (codes "0123456789abcdef") (byte / 16) refl)
    (both _ true (ascii_at (codes "0123456789abcdef") (byte % 16) refl) refl)

plain_ascii : (byte : ℕ) → is_plain byte ≡ true → nat_lt byte 128 ≡ true
plain_ascii byte plain = grind (arith, plain)

byte_ascii : (byte : ℕ) → are_ascii (shown_byte byte) ≡ true
byte_ascii byte = elim (cases_Bool (is_plain byte)) [
  | inl is ↦ rw is (both _ true (plain_ascii byte is) refl)
  | inr not ↦ rw not (ascii-append (codes "\\x") (hex_byte byte) refl (hex_ascii byte))
]

bytes_ascii : (bytes : List ℕ) → are_ascii (flat_map shown_byte bytes) ≡ true
bytes_ascii [] = refl
bytes_ascii (b ∷ bs) = ascii-append (shown_byte b) (flat_map shown_byte bs) (byte_ascii b) (bytes_ascii bs)

one_of : (a b : Bool) (xs ys zs : List ℕ) → are_ascii xs ≡ true → are_ascii ys ≡ true → are_ascii zs ≡ true
    → are_ascii (if a then xs else (if b then ys else zs)) ≡ true
one_of true b xs ys zs x y z = x
one_of false true xs ys zs x y z = y
one_of false false xs ys zs x y z = z

-- what is shown of any bytes is UTF-8
pub shown_utf8 : (bytes : List ℕ) → IsUtf8 (shown_bytes bytes)
shown_utf8 bytes =
    IsUtf8-are_ascii (shown_bytes bytes)
    (one_of (length bytes == 0) (bytes_eq bytes (codes "-")) (codes "-") (codes "\\x2d") (flat_map shown_byte bytes)
    refl refl (bytes_ascii bytes))
