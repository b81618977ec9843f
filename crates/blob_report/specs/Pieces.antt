-- The text of pieces.
use Rattle.std.specs.Prelude.{ℕ, ◌/◌, ◌%◌, ◌==◌, nat_le, Bool, ◌&&◌, not, if◌then◌else◌, Option, Some, None, List, []}
use Rattle.std.specs.Prelude.{◌∷◌, ◌++◌, length, slice_index, decimal, codes}
use Rattle.std.specs.List.{flat_map}
use Rattle.std.specs.Str.{bytes_eq}
use Rattle.blob_report.specs.declared.pieces.Piece.{Piece}
use Rattle.blob_report.specs.declared.pieces.Piece.TheVariants as piece

-- a hexadecimal digit, in lower case
abbrev pub hex_digit : ℕ → ℕ
hex_digit n = slice_index (codes "0123456789abcdef") n

-- the two digits of a byte
abbrev pub hex_byte : ℕ → List ℕ
hex_byte b = hex_digit (b / 16) ∷ hex_digit (b % 16) ∷ []

abbrev pub hex_text : List ℕ → List ℕ
hex_text bytes = flat_map hex_byte bytes

-- a byte that is shown as itself: it can be seen, and isn't the backslash
abbrev pub is_plain : ℕ → Bool
is_plain b = nat_le 33 b && nat_le b 126 && not (b == 92)

-- every other byte is a backslash, an x and two digits
abbrev pub shown_byte : ℕ → List ℕ
shown_byte b = if is_plain b then b ∷ [] else codes "\\x" ++ hex_byte b

-- nothing is `-`, so a lone `-` is shown by its digits
abbrev pub shown_bytes : List ℕ → List ℕ
shown_bytes bytes = if length bytes == 0 then codes "-" else
    (if bytes_eq bytes (codes "-") then codes "\\x2d" else flat_map shown_byte bytes)

abbrev pub head_text : Option ℕ → List ℕ
head_text (Some head) = codes "@" ++ decimal head
head_text None = codes "-"

abbrev pub piece_text : Piece → List ℕ
piece_text (piece.Words words) = words.now
piece_text (piece.Number number) = decimal number
piece_text (piece.Long number) = decimal number
piece_text (piece.Head head) = head_text head
piece_text (piece.Shown bytes) = shown_bytes bytes.now
piece_text (piece.Hex bytes) = hex_text bytes.now

abbrev pub pieces_text : List Piece → List ℕ
pieces_text pieces = flat_map piece_text pieces
