-- The words of a line: what each kind of word says, or none where it is no such word.
use Rattle.std.specs.Prelude.{ℕ, ◌^◌, ◌==◌, nat_lt, nat_le, ◌&&◌, if◌then◌else◌, List, Bool, true, false, Option, Some}
use Rattle.std.specs.Prelude.{None, Result, Ok, Err, length, drop, slice_index, decimal, codes}
use Rattle.std.specs.List.{list_all}
use Rattle.std.specs.Option.{option_and_then}
use Rattle.std.specs.Str.{bytes_eq}
use Rattle.std.specs.Str.Parse.{digits_value}
use Rattle.hex.specs.declared.error.FromHexError.{FromHexError}
use Rattle.hex.specs.Hex.{decode_of}
use Rattle.lvol_store.specs.Names.{is_name}

-- a number below a limit as it is printed: without sign or leading zero
abbrev pub number_below : ℕ → List ℕ → Option ℕ
number_below limit word =
    if bytes_eq (decimal (digits_value 10 word)) word && nat_lt (digits_value 10 word) limit
    then Some (digits_value 10 word) else None

-- a number of at most 2^64 - 1
abbrev pub number_in : List ℕ → Option ℕ
number_in word = number_below (2 ^ 64) word

-- how many pages: 1 to 256
abbrev pub count_of : ℕ → Option ℕ
count_of n = if nat_le 1 n && nat_le n 256 then Some n else None

abbrev pub count_in : List ℕ → Option ℕ
count_in word = option_and_then count_of (number_in word)

-- `@` and the place of a head page, below 2^32
abbrev pub head_in : List ℕ → Option ℕ
head_in word = if slice_index word 0 == 64 then number_below (2 ^ 32) (drop 1 word) else None

-- the name of a volume
abbrev pub name_in : List ℕ → Option (List ℕ)
name_in word = if is_name word then Some word else None

-- clusters are claimed as they are written
abbrev pub says_thin : List ℕ → Bool
says_thin word = bytes_eq word (codes "thin")

-- whether all clusters are claimed at once
abbrev pub thickness_in : List ℕ → Option Bool
thickness_in word =
    if says_thin word then Some false
    else (if bytes_eq word (codes "thick") then Some true else None)

-- bytes that can be seen, from 0x21 to 0x7E
abbrev pub is_visible : List ℕ → Bool
is_visible word = list_all (λ b. nat_le 33 b && nat_le b 126) word

-- 1 to 255 such bytes
abbrev pub key_in : List ℕ → Option (List ℕ)
key_in word = if is_visible word && nat_le 1 (length word) && nat_le (length word) 255 then Some word else None

abbrev pub has_form : ℕ → List ℕ → Bool
has_form letter word = (slice_index word 0 == letter) && (slice_index word 1 == 58)

abbrev pub if_decoded : Result (List ℕ) FromHexError → Option (List ℕ)
if_decoded (Ok bytes) = Some bytes
if_decoded (Err e) = None

-- `t:` and the bytes of the value, or `h:` and two hexadecimal digits for each of them
abbrev pub value_in : List ℕ → Option (List ℕ)
value_in word =
    if has_form 116 word then (if is_visible (drop 2 word) then Some (drop 2 word) else None)
    else (if has_form 104 word then if_decoded (decode_of (drop 2 word)) else None)
