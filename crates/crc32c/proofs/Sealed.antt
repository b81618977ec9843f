-- A page that ends with the sum of the rest is sound.
use Rattle.std.proofs.Common.{◌≡◌, ℕ, ◌^◌, ◌<◌, true, List, ◌++◌, length, take, drop, sym, ap, ◌∙◌}
use Rattle.std.proofs.lemmas.Bool.{eq-eqb}
use Rattle.std.proofs.lemmas.List.{take_at, drop_at}
use Rattle.std.proofs.lemmas.Nat.{from_le_bytes-to_le_bytes_4}
use Rattle.std.specs.Int.{from_le_bytes, to_le_bytes, w32}
use Rattle.crc32c.specs.Crc.{crc32c_of, is_sound}

-- 4092 bytes with their sum behind them are a sound page
pub is_sound-sealed : (front : List ℕ) → length front ≡ 4092 → crc32c_of front < 2 ^ 32
    → is_sound (front ++ to_le_bytes w32 (crc32c_of front)) ≡ true
unfolding is_sound
is_sound-sealed front len fits =
    let last = to_le_bytes w32 (crc32c_of front) in
    let sum : from_le_bytes w32 (drop 4092 (front ++ last)) ≡ crc32c_of front =
    ap (from_le_bytes w32) (drop_at front last 4092 len) ∙ from_le_bytes-to_le_bytes_4 (crc32c_of front) fits in
    let rest : crc32c_of (take 4092 (front ++ last)) ≡ crc32c_of front = ap crc32c_of (take_at front last 4092 len) in
    eq-eqb _ _ (sum ∙ sym rest)
