-- CRC-32C, bit by bit, as the remainder of a division of polynomials over two elements.
use Rattle.std.specs.Prelude.{ℕ, zero, suc, Bool, ◌/◌, ◌%◌, ◌==◌, if◌then◌else◌, List, [], ◌∷◌, take, drop}
use Rattle.std.specs.Prelude.{bit_xor}
use Rattle.std.specs.Int.{from_le_bytes, w32}

-- the divisor without its first coefficient, the lowest power first
abbrev pub divisor : ℕ
divisor = 0x82F63B78

-- one step of the division: the remainder moves by one power, and where a one leaves it the divisor is taken away
unfoldable pub divide_bit : ℕ → ℕ
divide_bit remainder = if remainder % 2 == 1 then bit_xor (remainder / 2) divisor else remainder / 2

-- eight of them
unfoldable pub eight_steps : ℕ → ℕ
eight_steps r = divide_bit (divide_bit (divide_bit (divide_bit (divide_bit (divide_bit (divide_bit (divide_bit r)))))))

-- the remainder after one byte more, which is added to the lowest eight powers
unfoldable pub after_byte : ℕ → ℕ → ℕ
after_byte remainder byte = eight_steps (bit_xor remainder byte)

-- the remainder after these bytes
unfoldable pub remainder_of : ℕ → List ℕ → ℕ
remainder_of remainder [] = remainder
remainder_of remainder (byte ∷ bytes) = remainder_of (after_byte remainder byte) bytes

-- the steps of so many bytes
unfoldable pub byte_steps : ℕ → ℕ → ℕ
byte_steps zero r = r
byte_steps (suc n) r = byte_steps n (eight_steps r)

-- the checksum of these bytes
unfoldable pub crc32c_of : List ℕ → ℕ
crc32c_of bytes = bit_xor (remainder_of 0xFFFFFFFF bytes) 0xFFFFFFFF

-- whether the last four of a page's 4096 bytes, little endian, are the checksum of those before
unfoldable pub is_sound : List ℕ → Bool
is_sound page = from_le_bytes w32 (drop 4092 page) == crc32c_of (take 4092 page)
