-- What a volume may be called.
use Rattle.std.specs.Prelude.{◌≢◌, ℕ, ◌<◌, ◌≤◌, List, length, slice_get, Some}
use Rattle.std.specs.List.{All}

-- printable and no space
abbrev pub IsGraphic : ℕ → Type 0
IsGraphic b = (33 ≤ b) × (b ≤ 126)

-- 1 to 63 bytes from 0x21 to 0x7E, the first neither `@` nor `#`
pub record IsName (text : List ℕ) : Type 0 where
  pub some : 0 < length text
  pub most : length text ≤ 63
  pub graphic : All IsGraphic text
  pub no_head : slice_get text 0 ≢ Some 64
  pub no_comment : slice_get text 0 ≢ Some 35
